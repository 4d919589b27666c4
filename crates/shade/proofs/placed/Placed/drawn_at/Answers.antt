use Rattle.std.proofs.Common.{subst}
use Rattle.shade.specs.Canvas.{IsCanvasDrawnAt}
use Rattle.shade.proofs.CanvasDrawn.{drawn_alike}
use Rattle.shade.proofs.placed.Placed.drawn_at.Goals as goal

pub returns : goal.returns
returns c =
    let t = c.args.self.now in
    rw c.colour_and_depth.ensures
    (drawn_alike t c.args.p c.args.stored _ (subst (λ s. IsCanvasDrawnAt t c.args.p s c.drawn_on_canvas_at.result) c.with_alpha.ensures c.drawn_on_canvas_at.ensures))
