use Rattle.strokes.proofs.piece.Piece.segment.Goals as goal

pub returns : goal.returns
returns c p =
    let start = c.in_front.ensures p in
    let end = c.in_front-2.ensures p in
    let strip = c.strip.ensures p in (
      λ h. let e = h.ends in record { start = start.0 e.first; end = end.0 e.second; strip = strip.0 h.strip },
      λ h. record { ends = record { first = start.1 h.start; second = end.1 h.end }; strip = strip.1 h.strip; other = c.everywhere.ensures p; disc = tt },
    )
