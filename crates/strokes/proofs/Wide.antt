-- Products of 128 bits are exact.
use Rattle.std.proofs.Common.{◌≡◌, ◌∙◌, ap, ℕ, ◌^◌, ◌*◌, ◌<◌, FitsSigned, to_z, of_z, arith, ℤ, ◌*ℤ◌}
use Rattle.std.proofs.lemmas.Int.{ints, to_z-of_z}
use mir.Syntax.{w128}
use Rattle.grid.specs.Bounds.{IsWithin}
use Rattle.grid.proofs.Bounds.{IsWithin-mul}

-- The product of two numbers, as the code forms it: it fits, it is exact, and it is bounded.
pub record IsWideProduct (x y u v : ℤ) (k : ℕ) : Type 0 where
  pub fits : FitsSigned w128 (to_z w128 (of_z w128 x) *ℤ to_z w128 (of_z w128 y))
  pub value : to_z w128 (of_z w128 (to_z w128 (of_z w128 x) *ℤ to_z w128 (of_z w128 y))) ≡ u *ℤ v
  pub size : IsWithin k (u *ℤ v)

pub wide_product : (x y u v : ℤ) (m n : ℕ) → x ≡ u → y ≡ v → IsWithin m u → IsWithin n v → m < 2 ^ 126 → n < 2 ^ 126 → m * n < 2 ^ 127 → IsWideProduct x y u v (m * n)
wide_product x y u v m n e f h k small_m small_n small =
    let fits_x : FitsSigned w128 x = omega (arith, ints) in
    let fits_y : FitsSigned w128 y = omega (arith, ints) in
    let same : x *ℤ y ≡ u *ℤ v = ap (λ z. z *ℤ y) e ∙ ap (λ z. u *ℤ z) f in
    let bound : IsWithin (m * n) (u *ℤ v) = IsWithin-mul u v m n h k in
    let fits : FitsSigned w128 (x *ℤ y) = rw same (omega (arith, ints)) in
    record { fits = simp to_z-of_z fits; value = simp to_z-of_z same; size = bound }
