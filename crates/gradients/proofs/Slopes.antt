-- The numerator of a triangle's attribute is the weighted sum of its values.
use Rattle.std.proofs.Common.{◌≡◌, refl, [], ◌∷◌, arith, ap, ◌∙◌, ℕ, ◌*◌, ◌^◌, FitsSigned, w32, w64, to_z, of_z, ℤ, pos, neg_ℤ, ◌+ℤ◌, ◌-ℤ◌, ◌*ℤ◌, ◌≤ℤ◌}
use Rattle.std.proofs.lemmas.Int.{ints}
use Rattle.std.specs.Int.RustNames.{unsigned_abs}
use Rattle.std.proofs.lemmas.Int.{to_z-of_z}
use Rattle.grid.specs.Bounds.{IsWithin}
use Rattle.grid.specs.Position.{Position, IsInBand}
use Rattle.grid.proofs.Bounds.{IsWithin-mul}
use Rattle.grid.specs.Edge.{side}
use Rattle.grid.specs.Triangle.{doubled_area, Covers}
use Rattle.grid.proofs.Between.{over, under, sides_of_sign}
use Rattle.grid.proofs.Ring.{Term, var, plus, neg, times, ring}
use Rattle.shade.specs.Value.{weighted_sum}
use Rattle.gradients.specs.Slope.{AreGrowths, IsSlope}
use Rattle.shade.proofs.Steps.{signed_sum, sum_over, sum_under, scaled_over, scaled_under}

-- ---- the growths
pub growths_of : (a b c p : Position) (u v w : ℤ)
    → u *ℤ side b c p +ℤ v *ℤ side c a p +ℤ w *ℤ side a b p
    ≡ u *ℤ doubled_area a b c +ℤ (p.x -ℤ a.x) *ℤ ((v -ℤ u) *ℤ (c.y -ℤ a.y) +ℤ (w -ℤ u) *ℤ (a.y -ℤ b.y)) +ℤ (p.y -ℤ a.y) *ℤ ((v -ℤ u) *ℤ (a.x -ℤ c.x) +ℤ (w -ℤ u) *ℤ (b.x -ℤ a.x))
unfolding side
growths_of a b c p u v w =
    let less = λ (s t : Term). plus s (neg t) in
    let side = λ (ax ay bx by px py : Term). less (times (less bx ax) (less py ay)) (times (less by ay) (less px ax)) in
    let A = var 0 in let A' = var 1 in let B = var 2 in let B' = var 3 in let C = var 4 in let C' = var 5 in let P = var 6 in let P' = var 7 in
    let U = var 8 in let V = var 9 in let W = var 10 in
    ring (a.x ∷ a.y ∷ b.x ∷ b.y ∷ c.x ∷ c.y ∷ p.x ∷ p.y ∷ u ∷ v ∷ w ∷ [])
    (plus (plus (times U (side B B' C C' P P')) (times V (side C C' A A' P P'))) (times W (side A A' B B' P P')))
    (plus
    (plus (times U (side A A' B B' C C')) (times (less P A) (plus (times (less V U) (less C' A')) (times (less W U) (less A' B')))))
    (times (less P' A') (plus (times (less V U) (less A C)) (times (less W U) (less B A)))))
    refl

-- ---- either orientation
pub sum_clockwise : (a b c p : Position) (u v w : ℕ) (across down : ℤ) → pos 0 ≤ℤ side a b c → AreGrowths a b c u v w across down → Covers a b c p
    → pos (u * unsigned_abs (side a b c)) +ℤ (p.x -ℤ a.x) *ℤ across +ℤ (p.y -ℤ a.y) *ℤ down ≡ pos (weighted_sum a b c p u v w)
unfolding signed_sum
sum_clockwise a b c p u v w across down positive growths covered =
    elim (sides_of_sign a b c p covered) [
      | over s x y z ↦ omega (arith, ints, sum_over a b c p u v w x y z, growths p, scaled_over u (side a b c) positive)
      | under s x y z ↦ absurd (omega (arith, ints))
    ]

mul_neg : (x y : ℤ) → x *ℤ neg_ℤ y ≡ neg_ℤ (x *ℤ y)
mul_neg x y = ring (x ∷ y ∷ []) (times (var 0) (neg (var 1))) (neg (times (var 0) (var 1))) refl

pub sum_counterclockwise : (a b c p : Position) (u v w : ℕ) (across down : ℤ) → side a b c ≤ℤ pos 0 → AreGrowths a b c u v w across down → Covers a b c p
    → pos (u * unsigned_abs (side a b c)) +ℤ (p.x -ℤ a.x) *ℤ neg_ℤ across +ℤ (p.y -ℤ a.y) *ℤ neg_ℤ down ≡ pos (weighted_sum a b c p u v w)
unfolding signed_sum
sum_counterclockwise a b c p u v w across down negative growths covered =
    let first = mul_neg (p.x -ℤ a.x) across in
    let second = mul_neg (p.y -ℤ a.y) down in
    elim (sides_of_sign a b c p covered) [
      | over s x y z ↦ absurd (omega (arith, ints))
      | under s x y z ↦ omega (arith, ints, sum_under a b c p u v w x y z, growths p, scaled_under u (side a b c) negative, first, second)
    ]

-- ---- numbers as the code passes them
-- a change of a value times a distance
pub record IsExactGrowth (x y u v : ℤ) : Type 0 where
  pub fits : FitsSigned w64 (to_z w64 (of_z w64 x) *ℤ to_z w64 (of_z w64 y))
  pub value : to_z w64 (of_z w64 (to_z w64 (of_z w64 x) *ℤ to_z w64 (of_z w64 y))) ≡ u *ℤ v
  pub size : IsWithin (65535 * 2 ^ 24) (to_z w64 (of_z w64 (to_z w64 (of_z w64 x) *ℤ to_z w64 (of_z w64 y))))

pub exact_growth : (x y u v : ℤ) → x ≡ u → y ≡ v → IsWithin 65535 u → IsWithin (2 ^ 24) v → IsExactGrowth x y u v
exact_growth x y u v e f h k =
    let fits_x : FitsSigned w64 x = omega (arith, ints) in
    let fits_y : FitsSigned w64 y = omega (arith, ints) in
    let same : x *ℤ y ≡ u *ℤ v = ap (λ z. z *ℤ y) e ∙ ap (λ z. u *ℤ z) f in
    let bound : IsWithin (65535 * 2 ^ 24) (u *ℤ v) = IsWithin-mul u v 65535 (2 ^ 24) h k in
    let fits : FitsSigned w64 (x *ℤ y) = rw same (omega (arith, ints)) in
    record {
      fits = simp to_z-of_z fits;
      value = simp to_z-of_z same;
      size = simp to_z-of_z (rw same bound);
    }

-- a growth between coordinates
pub growth_is : (r : ℤ) (u v : ℕ) (s e s' e' : ℤ) → IsInBand s → IsInBand e → s ≡ s' → e ≡ e' → r ≡ (pos v -ℤ pos u) *ℤ (to_z w32 (of_z w32 e) -ℤ to_z w32 (of_z w32 s)) → r ≡ (pos v -ℤ pos u) *ℤ (e' -ℤ s')
growth_is r u v s e s' e' h k f g is =
    let first : to_z w32 (of_z w32 s) ≡ s' = omega (arith, ints) in
    let second : to_z w32 (of_z w32 e) ≡ e' = omega (arith, ints) in
    rw (first, second) at is

-- the sum of two
pub sum_is : (a b x y : ℤ) → IsWithin (65535 * 2 ^ 24) a → IsWithin (65535 * 2 ^ 24) b → a ≡ x → b ≡ y → to_z w64 (of_z w64 (to_z w64 (of_z w64 a) +ℤ to_z w64 (of_z w64 b))) ≡ x +ℤ y
sum_is a b x y h k e f = omega (arith, ints)

pub sum_within : (a b : ℤ) → IsWithin (65535 * 2 ^ 24) a → IsWithin (65535 * 2 ^ 24) b → IsWithin (65535 * 2 ^ 25) (to_z w64 (of_z w64 (to_z w64 (of_z w64 a) +ℤ to_z w64 (of_z w64 b))))
sum_within a b h k =
    let is : to_z w64 (of_z w64 (to_z w64 (of_z w64 a) +ℤ to_z w64 (of_z w64 b))) ≡ a +ℤ b = omega (arith, ints) in
    rw is (record { low = omega (arith, ints); high = omega (arith, ints) })

-- ---- the slope
kept : (a b c : Position) (u v w : ℕ) (across down : ℤ) → IsInBand a.x → IsInBand a.y → IsWithin (65535 * 2 ^ 25) across → IsWithin (65535 * 2 ^ 25) down
    → ((p : Position) → Covers a b c p → pos (u * unsigned_abs (side a b c)) +ℤ (p.x -ℤ a.x) *ℤ across +ℤ (p.y -ℤ a.y) *ℤ down ≡ pos (weighted_sum a b c p u v w))
    → IsSlope a b c u v w (record { first = u; x = a.x; y = a.y; across = across; down = down })
kept a b c u v w across down h k i j sum = record {
  sum = sum;
  in_band = record { x = h; y = k };
  across = omega (arith, ints, i);
  down = omega (arith, ints, j);
}

pub slope_clockwise : (a b c : Position) (u v w first : ℕ) (x y across down : ℤ) → first ≡ u → x ≡ a.x → y ≡ a.y → IsInBand x → IsInBand y
    → IsWithin (65535 * 2 ^ 25) across → IsWithin (65535 * 2 ^ 25) down → pos 0 ≤ℤ side a b c → AreGrowths a b c u v w across down
    → IsSlope a b c u v w (record { first = first; x = to_z w32 (of_z w32 x); y = to_z w32 (of_z w32 y); across = to_z w64 (of_z w64 across); down = to_z w64 (of_z w64 down) })
slope_clockwise a b c u v w first x y across down e f g h k i j positive growths =
    let at_x : to_z w32 (of_z w32 x) ≡ a.x = omega (arith, ints) in
    let at_y : to_z w32 (of_z w32 y) ≡ a.y = omega (arith, ints) in
    let right : to_z w64 (of_z w64 across) ≡ across = omega (arith, ints) in
    let below : to_z w64 (of_z w64 down) ≡ down = omega (arith, ints) in
    rw (e, at_x, at_y, right, below) (kept a b c u v w across down (rw f at h) (rw g at k) i j (λ p covered. sum_clockwise a b c p u v w across down positive growths covered))

pub slope_counterclockwise : (a b c : Position) (u v w first : ℕ) (x y across down : ℤ) → first ≡ u → x ≡ a.x → y ≡ a.y → IsInBand x → IsInBand y
    → IsWithin (65535 * 2 ^ 25) across → IsWithin (65535 * 2 ^ 25) down → side a b c ≤ℤ pos 0 → AreGrowths a b c u v w across down
    → IsSlope a b c u v w (record { first = first; x = to_z w32 (of_z w32 x); y = to_z w32 (of_z w32 y); across = to_z w64 (of_z w64 (pos 0 -ℤ to_z w64 (of_z w64 across))); down = to_z w64 (of_z w64 (pos 0 -ℤ to_z w64 (of_z w64 down))) })
slope_counterclockwise a b c u v w first x y across down e f g h k i j negative growths =
    let at_x : to_z w32 (of_z w32 x) ≡ a.x = omega (arith, ints) in
    let at_y : to_z w32 (of_z w32 y) ≡ a.y = omega (arith, ints) in
    let right : to_z w64 (of_z w64 (pos 0 -ℤ to_z w64 (of_z w64 across))) ≡ neg_ℤ across = omega (arith, ints) in
    let below : to_z w64 (of_z w64 (pos 0 -ℤ to_z w64 (of_z w64 down))) ≡ neg_ℤ down = omega (arith, ints) in
    let few : IsWithin (65535 * 2 ^ 25) (neg_ℤ across) = record { low = omega (arith, ints); high = omega (arith, ints) } in
    let less : IsWithin (65535 * 2 ^ 25) (neg_ℤ down) = record { low = omega (arith, ints); high = omega (arith, ints) } in
    rw (e, at_x, at_y, right, below) (kept a b c u v w (neg_ℤ across) (neg_ℤ down) (rw f at h) (rw g at k) few less (λ p covered. sum_counterclockwise a b c p u v w across down negative growths covered))
