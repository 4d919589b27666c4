use Rattle.std.proofs.Common.{rules}
use Rattle.shade.specs.Placed.{IsInterpolated}
use Rattle.shade.proofs.Merged.{test_failed, test_passed}
use Rattle.shade.proofs.placed.Placed.drawn_on_canvas_at.Goals as goal

pub returns-then-not-passes : goal.returns-then-not-passes
returns-then-not-passes c =
    let t = c.args.self.now in
    let value : IsInterpolated t c.args.p t.z c.value-z.result = rw c.at-weights.ensures at c.value-z.ensures.value in
    test_failed t c.args.p c.args.stored c.value-z.result c.requires value (λ pass. let bad = c.if-not-passes.ensures.1 pass in absurd (cc))

pub returns : goal.returns
returns c =
    let t = c.args.self.now in
    let value : IsInterpolated t c.args.p t.z c.value-z.result = rw c.at-weights.ensures at c.value-z.ensures.value in
    test_passed t c.args.p c.args.stored _ c.value-z.result c.needed.result c.requires value (c.if-not-passes.ensures.0 (search rules)) (rw c.at-weights.ensures at c.needed.ensures) c.merged.ensures
