use Rattle.strokes.proofs.piece.Piece.nothing.Goals as goal

pub returns : goal.returns
returns c p h = let e = h.ends in c.nowhere.ensures p e.first
