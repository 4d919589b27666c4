use Rattle.strokes.proofs.piece.Pair.everywhere.Goals as goal

pub returns : goal.returns
returns c p = record { first = c.everywhere.ensures p; second = c.everywhere-2.ensures p }
