-- Tiles of any size: where they begin, and columns of tiles without those that a triangle misses.
use Rattle.std.proofs.Common.{◌≡◌, ℕ, ◌+◌, ◌-◌, ◌*◌, ◌/◌, ◌<◌, ◌≤◌, subst, arith}
use Rattle.std.specs.Int.{div_ceil}
use Rattle.grid.specs.Pixels.{side_of}
use Rattle.grid.specs.Samples.{sample_position}
use Rattle.grid.specs.Triangle.{Covers}
use Rattle.grid.specs.declared.pixels.TileSide.{TileSide}
use Rattle.grid.specs.declared.pixels.TileSide.TheVariants.{T8, T16, T32, T64}
use Rattle.grid.specs.declared.sample_count.SampleCount.{SampleCount}
use Rattle.grid.specs.declared.triangle.Tri.{Tri}
use Rattle.cover.specs.Square.{CoversNone}
use Rattle.reach.specs.Reach.{MissesTile}

-- where a tile begins, in a row or a column
abbrev pub start_of : TileSide → ℕ → ℕ
start_of side tile = 8 * (side_of side / 8 * tile)

pub in_tile : (side : TileSide) (i tile : ℕ) → i / side_of side ≡ tile → (i ≡ start_of side tile + (i - start_of side tile)) × (i - start_of side tile < side_of side)
in_tile T8 i tile h = (omega (arith, h), omega (arith, h))
in_tile T16 i tile h = (omega (arith, h), omega (arith, h))
in_tile T32 i tile h = (omega (arith, h), omega (arith, h))
in_tile T64 i tile h = (omega (arith, h), omega (arith, h))

-- the tiles from that of a pixel on, and to that of the pixel before another
pub tile_from : (side : TileSide) (i low : ℕ) → low ≤ i → low / side_of side ≤ i / side_of side
tile_from T8 i low h = omega (arith, h)
tile_from T16 i low h = omega (arith, h)
tile_from T32 i low h = omega (arith, h)
tile_from T64 i low h = omega (arith, h)

pub tile_before : (side : TileSide) (i high : ℕ) → i < high → i / side_of side < div_ceil high (side_of side)
tile_before T8 i high h = omega (arith, h)
tile_before T16 i high h = omega (arith, h)
tile_before T32 i high h = omega (arith, h)
tile_before T64 i high h = omega (arith, h)

pub misses_tile : (t : Tri) (count : SampleCount) (side : TileSide) (column row : ℕ)
    → CoversNone (record { triangle = t; bx = side_of side / 8 * column; by = side_of side / 8 * row; side = side; count = count }) → MissesTile t count side column row
misses_tile t count side column row none i j s across down is_sample covers =
    let x = start_of side column in
    let y = start_of side row in
    let of_i = in_tile side i column across in
    let of_j = in_tile side j row down in
    let there : Covers t.a t.b t.c (sample_position (x + (i - x)) (y + (j - y)) s count) = subst (λ (n : ℕ). Covers t.a t.b t.c (sample_position (x + (i - x)) n s count)) of_j.0 (subst (λ (m : ℕ). Covers t.a t.b t.c (sample_position m j s count)) of_i.0 covers) in
    none s (j - y) (i - x) is_sample of_j.1 of_i.1 there
