-- The depth at a covered point by a division.
use Rattle.std.proofs.Common.{◌≡◌, arith, ℕ, ◌+◌, ◌*◌, ◌/◌, ◌<◌, ◌^◌}
use Rattle.std.proofs.Math.Nat.{lt_of_mul-lt-mul_right}
use Rattle.std.specs.Int.RustNames.{unsigned_abs}
use Rattle.grid.specs.Position.{Position}
use Rattle.grid.specs.Edge.{side}
use Rattle.grid.specs.Triangle.{Covers}
use Rattle.shade.specs.Value.{weighted_sum}
use Rattle.shade.proofs.Values.{quotient, area_positive, weighted_sum-bound}
use Rattle.deep_planes.specs.Depth.{IsDepthAt}

-- a sum as the code forms it, and the area
pub record IsSum (a b c p : Position) (u v w n s : ℕ) : Type 0 where
  pub sum : n ≡ weighted_sum a b c p u v w
  pub area : s ≡ unsigned_abs (side a b c)

pub sum_of : (a b c p : Position) (u v w x y z l m n s : ℕ) → x ≡ unsigned_abs (side b c p) → y ≡ unsigned_abs (side c a p) → z ≡ unsigned_abs (side a b p)
    → l ≡ u * x → m ≡ v * y → n ≡ w * z → s ≡ unsigned_abs (side a b c) → IsSum a b c p u v w (l + m + n) s
unfolding weighted_sum
sum_of a b c p u v w x y z l m n s ex ey ez el em en es = record { sum = rw (el, em, en, ex, ey, ez); area = es }

pub depth_of : (a b c p : Position) (u v w n s : ℕ) → Covers a b c p → IsSum a b c p u v w n s → IsDepthAt a b c p u v w (n / (256 * s))
depth_of a b c p u v w n s covered h =
    let some = area_positive a b c p covered in
    rw (h.sum, h.area) (quotient (weighted_sum a b c p u v w) (256 * unsigned_abs (side a b c)) (omega (arith, some)))

pub depth_small : (a b c p : Position) (u v w n s : ℕ) → Covers a b c p → u < 2 ^ 32 → v < 2 ^ 32 → w < 2 ^ 32 → IsSum a b c p u v w n s → n / (256 * s) < 2 ^ 24
depth_small a b c p u v w n s covered fu fv fw h =
    let some = area_positive a b c p covered in
    let most = weighted_sum-bound a b c p u v w 4294967295 covered (omega (arith, fu)) (omega (arith, fv)) (omega (arith, fw)) in
    let is = depth_of a b c p u v w n s covered h in
    let less : n / (256 * s) * (256 * unsigned_abs (side a b c)) < 2 ^ 24 * (256 * unsigned_abs (side a b c)) = omega (arith, is.low, most, some) in
    lt_of_mul-lt-mul_right (256 * unsigned_abs (side a b c)) less
