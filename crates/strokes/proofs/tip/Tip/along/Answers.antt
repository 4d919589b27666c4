use Rattle.std.proofs.Common.{◌≡◌, ◌∙◌, ap, sym, subst, [], ◌∷◌, ◌+◌, ◌++◌, take, List}
use Rattle.std.proofs.lemmas.List.{take_more, take_all}
use Rattle.grid.specs.Position.{Position}
use Rattle.strokes.specs.Tracing.{MarksOnwards}
use Rattle.strokes.proofs.Traced.{traced_none, traced_both}
use Rattle.strokes.proofs.tip.Tip.along.Goals as goal

pub loop-next-init : goal.loop-next-init
loop-next-init c = traced_none c.args.style c.args.blocks.now c.args.self c.args.flags.now

pub loop-next-preserved : goal.loop-next-preserved
loop-next-preserved c =
    let ps = c.args.points.now in
    let i = c.loop-next.next-index in
    let more : take (i + 1) ps ≡ take i ps ++ (c.next-item.result ∷ []) = take_more ps i c.next-item.result c.loop-next-test.true ∙ ap (λ (x : Position). take i ps ++ (x ∷ [])) (sym c.next-item.is) in
    subst (λ (xs : List Position). MarksOnwards c.args.style c.args.blocks.now c.args.self xs c.to-tip.result c.args.flags.now c.to-tip.new.flags) (sym more)
    (traced_both c.args.style c.args.blocks.now _ _ _ _ _ _ _ _ c.loop-next.invariant c.to-tip.ensures)

pub returns : goal.returns
returns c =
    let all = take_all c.loop-next.next-index c.args.points.now c.loop-next-test.false in
    subst (λ (xs : List Position). MarksOnwards c.args.style c.args.blocks.now c.args.self xs c.loop-next.tip c.args.flags.now c.loop-next.flags) all c.loop-next.invariant
