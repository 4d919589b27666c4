use Rattle.strokes.proofs.MarkedPieces.{shape_as}
use Rattle.strokes.proofs.tip.Tip.mark_corner.Goals as goal

pub returns-in-None : goal.returns-in-None
returns-in-None c = rw c.in-None.is c.mark_cap.ensures

pub returns-in-Some : goal.returns-in-Some
returns-in-Some c = rw c.in-Some.is (shape_as c.args.blocks.now _ _ _ _ c.mark.ensures c.join-join.ensures)
