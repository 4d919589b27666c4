use Rattle.strokes.proofs.piece.Piece.cap.Goals as goal

pub returns-in-Butt : goal.returns-in-Butt
returns-in-Butt c p = rw c.in-Butt.is (λ h. absurd (c.nothing.ensures p h), λ none. absurd none)

pub returns-in-Round : goal.returns-in-Round
returns-in-Round c p =
    let back = c.behind.ensures p in
    rw c.in-Round.is (
      λ h. let e = h.ends in (back.0 e.first, h.disc),
      λ h. record {
        ends = record { first = back.1 (h.0); second = c.everywhere.ensures p };
        strip = c.everywhere-in-Round.ensures p;
        other = c.everywhere-in-Round-2.ensures p;
        disc = h.1;
      },
    )

pub returns-in-Square : goal.returns-in-Square
returns-in-Square c p =
    let back = c.behind-in-Square.ensures p in
    let near = c.near_behind.ensures p in
    let strip = c.strip.ensures p in
    rw c.in-Square.is (
      λ h. let e = h.ends in (back.0 e.first, strip.0 h.strip, near.0 e.second),
      λ h. record { ends = record { first = back.1 (h.0); second = near.1 (h.2) }; strip = strip.1 (h.1); other = c.everywhere-in-Square.ensures p; disc = tt },
    )
