use Rattle.std.proofs.Common.{ap, sym, subst, ◌≤◌, arith}
use Rattle.shade.specs.declared.sample.CanvasSample.{CanvasSample}
use Rattle.shade.specs.declared.sample.Shaded.{Shaded}
use Rattle.shade.specs.Canvas.{IsCanvasApplied}
use Rattle.block_fills.proofs.Merged.{colour_replaced, colour_over}
use Rattle.block_fills.proofs.covered_block.CoveredBlock.drawn.Goals as goal

pub returns-in-Replaces : goal.returns-in-Replaces
returns-in-Replaces c =
    let b = c.args.self.now in
    let state = b.fragment.now.state in
    let stored = c.args.stored in
    let f = c.shaded-r.result in
    let made = c.with_colour.result in
    let bytes = c.with_colour.ensures.bytes in
    let is = c.with_colour.ensures.value in
    let red : f.r ≤ 255 = omega (arith, bytes.red, ap (λ (x : CanvasSample). x.r) is) in
    let green : f.g ≤ 255 = omega (arith, bytes.green, ap (λ (x : CanvasSample). x.g) is) in
    let blue : f.b ≤ 255 = omega (arith, bytes.blue, ap (λ (x : CanvasSample). x.b) is) in
    let alone = b.replaces c.in-Replaces.is in
    subst (λ (g : Shaded). IsCanvasApplied state.merge g stored made) c.shaded-r.ensures
    (subst (λ (y : CanvasSample). IsCanvasApplied state.merge f stored y) (sym is)
    (colour_replaced state b.tile.now.count f stored alone.colours alone.depth alone.alpha red green blue))

pub returns-in-BlendsOver : goal.returns-in-BlendsOver
returns-in-BlendsOver c =
    let b = c.args.self.now in
    let state = b.fragment.now.state in
    let stored = c.args.stored in
    let f = c.shaded-r.result in
    let made = c.with_colour-in-BlendsOver.result in
    let is = c.with_colour-in-BlendsOver.ensures.value in
    subst (λ (g : Shaded). IsCanvasApplied state.merge g stored made) c.shaded-r.ensures
    (subst (λ (y : CanvasSample). IsCanvasApplied state.merge f stored y) (sym is)
    (colour_over state f stored c.over.result c.over-in-BlendsOver.result c.over-in-BlendsOver-2.result (b.blends c.in-BlendsOver.is)
    (omega (arith, c.over.type_inv)) (omega (arith, c.over-in-BlendsOver.type_inv)) (omega (arith, c.over-in-BlendsOver-2.type_inv)) c.over.ensures c.over-in-BlendsOver.ensures c.over-in-BlendsOver-2.ensures))
