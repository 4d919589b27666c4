use Rattle.std.proofs.Common.{inl, inr, refl}
use Rattle.strokes.specs.Join.{IsMitered}
use Rattle.strokes.proofs.Roots.{not_true}
use Rattle.strokes.proofs.piece.Piece.join.Goals as goal

pub returns-then-is_mitered : goal.returns-then-is_mitered
returns-then-is_mitered c p =
    let made = c.if-is_mitered.ensures.0 refl in
    let wedge = c.wedge-wedge.ensures p in
    let first = c.strip.ensures p in
    let second = c.strip-then-is_mitered.ensures p in (
      λ h. record { wedge = wedge.0 h.ends; shape = inl (made, record { first = first.0 h.strip; second = second.0 h.other }) },
      λ h. elim h.shape [
        | inl m ↦ let s = m.1 in record { ends = wedge.1 h.wedge; strip = first.1 s.first; other = second.1 s.second; disc = tt }
        | inr r ↦ absurd (r.0 made)
      ],
    )

pub returns-else-is_mitered : goal.returns-else-is_mitered
returns-else-is_mitered c p =
    let none : IsMitered c.args.join c.args.a c.args.b c.args.c → ⊥ = λ m. not_true _ refl (c.if-is_mitered.ensures.1 m) in
    let wedge = c.wedge-wedge.ensures p in (
      λ h. record { wedge = wedge.0 h.ends; shape = inr (none, h.disc) },
      λ h. elim h.shape [
        | inl m ↦ absurd (none (m.0))
        | inr r ↦ record { ends = wedge.1 h.wedge; strip = c.everywhere.ensures p; other = c.everywhere-else-is_mitered.ensures p; disc = r.1 }
      ],
    )
