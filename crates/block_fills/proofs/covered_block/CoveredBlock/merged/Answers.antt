use Rattle.std.proofs.Common.{subst}
use Rattle.shade.specs.declared.state.State.{State}
use Rattle.shade.specs.declared.sample.Shaded.{Shaded}
use Rattle.shade.specs.Canvas.{IsCanvasApplied}
use Rattle.block_fills.proofs.covered_block.CoveredBlock.merged.Goals as goal

pub returns : goal.returns
returns c =
    subst (λ (f : Shaded). IsCanvasApplied c.args.self.now.fragment.now.state.merge f c.args.stored c.apply_on_canvas.result) c.shaded.ensures
    (subst (λ (s : State). IsCanvasApplied s.merge c.shaded.result c.args.stored c.apply_on_canvas.result) c.state.ensures c.apply_on_canvas.ensures)
