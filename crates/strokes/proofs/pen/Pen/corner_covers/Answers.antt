use Rattle.strokes.proofs.pen.Pen.corner_covers.Goals as goal

pub returns-in-Some : goal.returns-in-Some
returns-in-Some c = rw c.in-Some.is c.join_covers.ensures
