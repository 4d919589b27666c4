use Rattle.strokes.proofs.piece.Pair.wedge.Goals as goal

pub returns : goal.returns
returns c p =
    let first = c.behind.ensures p in
    let second = c.behind-2.ensures p in
    (λ h. record { first = first.0 h.first; second = second.0 h.second }, λ h. record { first = first.1 h.first; second = second.1 h.second })
