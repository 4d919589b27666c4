use Rattle.strokes.proofs.piece.Piece.disc.Goals as goal

pub returns : goal.returns
returns c p = (
  λ h. h.disc,
  λ h. record { ends = c.everywhere.ensures p; strip = c.everywhere-2.ensures p; other = c.everywhere-3.ensures p; disc = h },
)
