-- A row or a column of tiles, as an interval of rows or columns of pixels.
use Rattle.std.proofs.Common.{◌≡◌, ℕ, ◌+◌, ◌-◌, ◌*◌, ◌<◌, ◌≤◌, min, arith}
use Rattle.std.proofs.Math.Nat.{mul-le-mul_left}
use Rattle.grid.specs.Pixels.{side_of}
use Rattle.grid.specs.declared.pixels.TileSide.{TileSide}
use Rattle.grid.specs.declared.pixels.TileSide.TheVariants.{T8, T16, T32, T64}
use Rattle.tiling.specs.Grid.{tiles_over}

-- an interval begins in the picture
pub begins_within : (n pixels : ℕ) (side : TileSide) → n < tiles_over pixels side → side_of side * n < pixels
begins_within n pixels T8 h = omega arith
begins_within n pixels T16 h = omega arith
begins_within n pixels T32 h = omega arith
begins_within n pixels T64 h = omega arith

-- and all intervals reach over it
pub reach_over : (pixels : ℕ) (side : TileSide) → pixels ≤ side_of side * tiles_over pixels side
reach_over pixels T8 = omega arith
reach_over pixels T16 = omega arith
reach_over pixels T32 = omega arith
reach_over pixels T64 = omega arith

-- the top or the left of an interval fits
pub begin_fits : (n s pixels : ℕ) (side side' : TileSide) → n < tiles_over pixels side → pixels ≤ 4096 → s ≡ side_of side' → side' ≡ side → s * n < 4096
begin_fits n s pixels side side' h small e f = let begin = begins_within n pixels side h in rw (e, f) (omega arith)

-- how far the intervals before one reach, and the next
pub interval_next : (n pixels : ℕ) (side : TileSide) → n < tiles_over pixels side
    → min pixels (side_of side * (n + 1)) ≡ side_of side * n + (min pixels (side_of side * n + side_of side) - side_of side * n)
interval_next n pixels side h = let begin = begins_within n pixels side h in omega arith

pub interval_before : (n pixels : ℕ) (side : TileSide) → n < tiles_over pixels side → min pixels (side_of side * n) ≡ side_of side * n
interval_before n pixels side h = let begin = begins_within n pixels side h in omega arith

pub intervals_all : (n pixels : ℕ) (side : TileSide) → tiles_over pixels side ≤ n → min pixels (side_of side * n) ≡ pixels
intervals_all n pixels side h =
    let reach = reach_over pixels side in
    let more : side_of side * tiles_over pixels side ≤ side_of side * n = mul-le-mul_left (side_of side) h in
    omega arith
