-- The numerator of a triangle's depth is the weighted sum of its vertices' depths.
use Rattle.std.proofs.Common.{◌≡◌, arith, ap, ◌∙◌, ℕ, ◌*◌, ◌≤◌, ◌^◌, FitsSigned, w32, w64, to_z, of_z, ℤ, pos, neg_ℤ, ◌+ℤ◌, ◌-ℤ◌, ◌*ℤ◌, ◌≤ℤ◌}
use Rattle.std.proofs.lemmas.Int.{ints, to_z-of_z}
use Rattle.std.specs.Int.RustNames.{unsigned_abs}
use Rattle.grid.specs.Bounds.{IsWithin}
use Rattle.grid.specs.Position.{Position, IsInBand}
use Rattle.grid.specs.Edge.{side}
use Rattle.grid.specs.Triangle.{Covers}
use Rattle.grid.proofs.Bounds.{IsWithin-mul}
use Rattle.shade.specs.Value.{weighted_sum}
use Rattle.gradients.specs.Slope.{AreGrowths}
use Rattle.gradients.proofs.Slopes.{sum_clockwise, sum_counterclockwise}
use Rattle.deep_planes.specs.Slope.{IsDepthSlope}

-- ---- numbers as the code passes them
-- a change of a depth times a distance
pub record IsExactGrowth (x y u v : ℤ) : Type 0 where
  pub fits : FitsSigned w64 (to_z w64 (of_z w64 x) *ℤ to_z w64 (of_z w64 y))
  pub value : to_z w64 (of_z w64 (to_z w64 (of_z w64 x) *ℤ to_z w64 (of_z w64 y))) ≡ u *ℤ v
  pub size : IsWithin (4294967295 * 2 ^ 24) (to_z w64 (of_z w64 (to_z w64 (of_z w64 x) *ℤ to_z w64 (of_z w64 y))))

pub exact_growth : (x y u v : ℤ) → x ≡ u → y ≡ v → IsWithin 4294967295 u → IsWithin (2 ^ 24) v → IsExactGrowth x y u v
exact_growth x y u v e f h k =
    let fits_x : FitsSigned w64 x = omega (arith, ints) in
    let fits_y : FitsSigned w64 y = omega (arith, ints) in
    let same : x *ℤ y ≡ u *ℤ v = ap (λ z. z *ℤ y) e ∙ ap (λ z. u *ℤ z) f in
    let bound : IsWithin (4294967295 * 2 ^ 24) (u *ℤ v) = IsWithin-mul u v 4294967295 (2 ^ 24) h k in
    let fits : FitsSigned w64 (x *ℤ y) = rw same (omega (arith, ints)) in
    record {
      fits = simp to_z-of_z fits;
      value = simp to_z-of_z same;
      size = simp to_z-of_z (rw same bound);
    }

-- the sum of two
pub sum_is : (a b x y : ℤ) → IsWithin (4294967295 * 2 ^ 24) a → IsWithin (4294967295 * 2 ^ 24) b → a ≡ x → b ≡ y → to_z w64 (of_z w64 (to_z w64 (of_z w64 a) +ℤ to_z w64 (of_z w64 b))) ≡ x +ℤ y
sum_is a b x y h k e f = omega (arith, ints)

pub sum_within : (a b : ℤ) → IsWithin (4294967295 * 2 ^ 24) a → IsWithin (4294967295 * 2 ^ 24) b → IsWithin (4294967295 * 2 ^ 25) (to_z w64 (of_z w64 (to_z w64 (of_z w64 a) +ℤ to_z w64 (of_z w64 b))))
sum_within a b h k =
    let is : to_z w64 (of_z w64 (to_z w64 (of_z w64 a) +ℤ to_z w64 (of_z w64 b))) ≡ a +ℤ b = omega (arith, ints) in
    rw is (record { low = omega (arith, ints); high = omega (arith, ints) })

-- ---- the slope
kept : (a b c : Position) (u v w area : ℕ) (across down : ℤ) → area ≡ unsigned_abs (side a b c) → area ≤ 2 ^ 48 → IsInBand a.x → IsInBand a.y → IsWithin (4294967295 * 2 ^ 25) across → IsWithin (4294967295 * 2 ^ 25) down
    → ((p : Position) → Covers a b c p → pos (u * unsigned_abs (side a b c)) +ℤ (p.x -ℤ a.x) *ℤ across +ℤ (p.y -ℤ a.y) *ℤ down ≡ pos (weighted_sum a b c p u v w))
    → IsDepthSlope a b c u v w (record { area = area; first = u; x = a.x; y = a.y; across = across; down = down })
kept a b c u v w area across down e bound h k i j sum = record {
  of_area = e;
  bound = bound;
  sum = rw e sum;
  in_band = record { x = h; y = k };
  across = omega (arith, ints, i);
  down = omega (arith, ints, j);
}

pub slope_clockwise : (a b c : Position) (u v w first area : ℕ) (x y across down : ℤ) → area ≡ unsigned_abs (side a b c) → area ≤ 2 ^ 48 → first ≡ u → x ≡ a.x → y ≡ a.y → IsInBand x → IsInBand y
    → IsWithin (4294967295 * 2 ^ 25) across → IsWithin (4294967295 * 2 ^ 25) down → pos 0 ≤ℤ side a b c → AreGrowths a b c u v w across down
    → IsDepthSlope a b c u v w (record { area = area; first = first; x = to_z w32 (of_z w32 x); y = to_z w32 (of_z w32 y); across = to_z w64 (of_z w64 across); down = to_z w64 (of_z w64 down) })
slope_clockwise a b c u v w first area x y across down of_area bound e f g h k i j positive growths =
    let at_x : to_z w32 (of_z w32 x) ≡ a.x = omega (arith, ints) in
    let at_y : to_z w32 (of_z w32 y) ≡ a.y = omega (arith, ints) in
    let right : to_z w64 (of_z w64 across) ≡ across = omega (arith, ints) in
    let below : to_z w64 (of_z w64 down) ≡ down = omega (arith, ints) in
    rw (e, at_x, at_y, right, below) (kept a b c u v w area across down of_area bound (rw f at h) (rw g at k) i j (λ p covered. sum_clockwise a b c p u v w across down positive growths covered))

pub slope_counterclockwise : (a b c : Position) (u v w first area : ℕ) (x y across down : ℤ) → area ≡ unsigned_abs (side a b c) → area ≤ 2 ^ 48 → first ≡ u → x ≡ a.x → y ≡ a.y → IsInBand x → IsInBand y
    → IsWithin (4294967295 * 2 ^ 25) across → IsWithin (4294967295 * 2 ^ 25) down → side a b c ≤ℤ pos 0 → AreGrowths a b c u v w across down
    → IsDepthSlope a b c u v w (record { area = area; first = first; x = to_z w32 (of_z w32 x); y = to_z w32 (of_z w32 y); across = to_z w64 (of_z w64 (pos 0 -ℤ to_z w64 (of_z w64 across))); down = to_z w64 (of_z w64 (pos 0 -ℤ to_z w64 (of_z w64 down))) })
slope_counterclockwise a b c u v w first area x y across down of_area bound e f g h k i j negative growths =
    let at_x : to_z w32 (of_z w32 x) ≡ a.x = omega (arith, ints) in
    let at_y : to_z w32 (of_z w32 y) ≡ a.y = omega (arith, ints) in
    let right : to_z w64 (of_z w64 (pos 0 -ℤ to_z w64 (of_z w64 across))) ≡ neg_ℤ across = omega (arith, ints) in
    let below : to_z w64 (of_z w64 (pos 0 -ℤ to_z w64 (of_z w64 down))) ≡ neg_ℤ down = omega (arith, ints) in
    let few : IsWithin (4294967295 * 2 ^ 25) (neg_ℤ across) = record { low = omega (arith, ints); high = omega (arith, ints) } in
    let less : IsWithin (4294967295 * 2 ^ 25) (neg_ℤ down) = record { low = omega (arith, ints); high = omega (arith, ints) } in
    rw (e, at_x, at_y, right, below) (kept a b c u v w area (neg_ℤ across) (neg_ℤ down) of_area bound (rw f at h) (rw g at k) few less (λ p covered. sum_counterclockwise a b c p u v w across down negative growths covered))
