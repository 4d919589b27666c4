use Rattle.strokes.proofs.piece.Pair.strip.Goals as goal

pub returns : goal.returns
returns c p =
    let right = c.near_right.ensures p in
    let left = c.near_left.ensures p in
    (λ h. record { right = right.0 h.first; left = left.0 h.second }, λ h. record { first = right.1 h.right; second = left.1 h.left })
