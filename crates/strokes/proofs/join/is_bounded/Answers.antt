use Rattle.std.proofs.Common.{inl, inr, refl, false}
use Rattle.strokes.proofs.Roots.{not_true}
use Rattle.strokes.proofs.join.is_bounded.Goals as goal

pub returns-then-is_mitered : goal.returns-then-is_mitered
returns-then-is_mitered c = (
  λ t. inl (c.if-is_mitered.ensures.0 refl, c.is_in_miter.ensures.0 t),
  λ h. elim h [ inl m ↦ c.is_in_miter.ensures.1 m.1 | inr r ↦ absurd (r.0 (c.if-is_mitered.ensures.0 refl)) ],
)

pub returns-else-is_mitered : goal.returns-else-is_mitered
returns-else-is_mitered c = (
  λ t. inr (λ m. not_true false refl (c.if-is_mitered.ensures.1 m), c.disc_covers.ensures.0 t),
  λ h. elim h [ inl m ↦ absurd (not_true false refl (c.if-is_mitered.ensures.1 m.0)) | inr r ↦ c.disc_covers.ensures.1 r.1 ],
)
