-- The depths of a group, found one after another.
use Rattle.std.proofs.Common.{◌≡◌, inl, inr, ◌∙◌, arith, ℕ, ◌+◌, ◌<◌, ◌^◌, List, length, get_or, set, length-set}
use Rattle.std.proofs.lemmas.Bool.{cases_eq}
use Rattle.std.proofs.lemmas.List.{get_or-set_same, get_or-set_other}
use Rattle.grid.specs.Position.{Position}
use Rattle.grid.specs.Triangle.{Covers}
use Rattle.gradients.specs.Group.{position_in}
use Rattle.deep_planes.specs.Depth.{IsDepthAt}

-- The first n lanes are the depths at the samples of the group at p that the triangle abc covers, and no lane has more than 24 bits.
pub record AreFound (a b c p : Position) (z lanes : List ℕ) (n : ℕ) : Type 0 where
  pub long : length lanes ≡ 16
  pub bits : (i : ℕ) → i < 16 → get_or lanes i 0 < 2 ^ 24
  pub depths : (i : ℕ) → i < n → Covers a b c (position_in p i) → IsDepthAt a b c (position_in p i) (get_or z 0 0) (get_or z 1 0) (get_or z 2 0) (get_or lanes i 0)

pub one_more : (a b c p : Position) (z lanes : List ℕ) (n d : ℕ) → n < 16 → AreFound a b c p z lanes n → d < 2 ^ 24
    → (Covers a b c (position_in p n) → IsDepthAt a b c (position_in p n) (get_or z 0 0) (get_or z 1 0) (get_or z 2 0) d) → AreFound a b c p z (set lanes n d) (n + 1)
one_more a b c p z lanes n d l h few depth = record {
  long = length-set lanes n d ∙ h.long;
  bits = λ i k. elim (cases_eq i n) [
    | inl e ↦ rw (e, get_or-set_same lanes n d 0 (omega (arith, l, h.long))) few
    | inr other ↦ rw (get_or-set_other lanes n i d 0 other) (h.bits i k)
  ];
  depths = λ i k. elim (cases_eq i n) [
    | inl e ↦ rw (e, get_or-set_same lanes n d 0 (omega (arith, l, h.long))) depth
    | inr other ↦ rw (get_or-set_other lanes n i d 0 other) (h.depths i (omega (arith, k, other)))
  ];
}
