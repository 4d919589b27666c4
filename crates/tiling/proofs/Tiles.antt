-- Columns and rows of tiles, and the pixels in them.
use Rattle.std.proofs.Common.{◌≡◌, sym, ap, ◌∙◌, ℕ, ◌+◌, ◌*◌, ◌/◌, ◌%◌, ◌<◌, ◌≤◌, arith}
use Rattle.std.proofs.lemmas.Int.{ints}
use Rattle.std.proofs.lemmas.Nat.{mul-add-lt, mod-mul-add, div-mul-add, div-add-mod'}
use Rattle.grid.specs.Pixels.{side_of, IsInBox}
use Rattle.grid.specs.declared.pixels.TileSide.{TileSide}
use Rattle.grid.specs.declared.pixels.TileSide.TheVariants.{T8, T16, T32, T64}
use Rattle.cover.specs.Square.{IsCorner}
use Rattle.tiling.specs.Grid.{TileGrid, tiles_over, columns_of, rows_of, rect_at, rect_of, IsTileOf, IsInPicture}

-- pixel i, of `pixels` in a row or a column, stands in this tile
pub record IsPixelOf (side : TileSide) (pixels tile i : ℕ) : Type 0 where
  pub from : side_of side * tile ≤ i
  pub below : i < side_of side * tile + side_of side
  pub within : i < pixels

pub starts_within : (side : TileSide) (pixels tile : ℕ) → tile < tiles_over pixels side → side_of side * tile < pixels
starts_within T8 pixels tile h = omega arith
starts_within T16 pixels tile h = omega arith
starts_within T32 pixels tile h = omega arith
starts_within T64 pixels tile h = omega arith

pub tile_within : (side : TileSide) (pixels tile : ℕ) → side_of side * tile < pixels → tile < tiles_over pixels side
tile_within T8 pixels tile h = omega arith
tile_within T16 pixels tile h = omega arith
tile_within T32 pixels tile h = omega arith
tile_within T64 pixels tile h = omega arith

pub pixel_of : (side : TileSide) (pixels i : ℕ) → i < pixels → IsPixelOf side pixels (i / side_of side) i
pixel_of T8 pixels i h = record { from = omega arith; below = omega arith; within = h }
pixel_of T16 pixels i h = record { from = omega arith; below = omega arith; within = h }
pixel_of T32 pixels i h = record { from = omega arith; below = omega arith; within = h }
pixel_of T64 pixels i h = record { from = omega arith; below = omega arith; within = h }

pub tile_is : (side : TileSide) (pixels tile i : ℕ) → IsPixelOf side pixels tile i → tile ≡ i / side_of side
tile_is T8 pixels tile i h = omega arith
tile_is T16 pixels tile i h = omega arith
tile_is T32 pixels tile i h = omega arith
tile_is T64 pixels tile i h = omega arith

pub tile_below : (side : TileSide) (pixels tile i : ℕ) → IsPixelOf side pixels tile i → tile < tiles_over pixels side
tile_below side pixels tile i h = tile_within side pixels tile (omega (arith, h.from, h.within))

module _ (g : TileGrid) (column row i j : ℕ) where
  pub column_of : IsInBox (rect_at g column row) i j → IsPixelOf g.side g.width column i
  column_of h = record { from = omega (arith, ints, h.left); below = omega (arith, ints, h.right); within = omega (arith, ints, h.right) }

  pub row_of : IsInBox (rect_at g column row) i j → IsPixelOf g.side g.height row j
  row_of h = record { from = omega (arith, ints, h.top); below = omega (arith, ints, h.bottom); within = omega (arith, ints, h.bottom) }

  pub in_rect : IsPixelOf g.side g.width column i → IsPixelOf g.side g.height row j → IsInBox (rect_at g column row) i j
  in_rect h k = record {
    left = omega (arith, ints, h.from);
    right = omega (arith, ints, h.below, h.within);
    top = omega (arith, ints, k.from);
    bottom = omega (arith, ints, k.below, k.within);
  }

-- the tile of a column and a row
pub rect_of_place : (g : TileGrid) (column row : ℕ) → column < columns_of g → rect_of g (row * columns_of g + column) ≡ rect_at g column row
rect_of_place g column row h =
    let across = mod-mul-add row (columns_of g) column h in
    let along = div-mul-add row (columns_of g) column h in
    rw (across, along)

-- the one tile of a pixel
pub tile_of_pixel : (g : TileGrid) (i j : ℕ) → IsInPicture g i j → IsTileOf g i j (j / side_of g.side * columns_of g + i / side_of g.side)
tile_of_pixel g i j h =
    let in_column = pixel_of g.side g.width i h.column in
    let in_row = pixel_of g.side g.height j h.row in
    let column = tile_below g.side g.width _ i in_column in
    let row = tile_below g.side g.height _ j in_row in
    record {
      tile = mul-add-lt _ (columns_of g) _ (rows_of g) row column;
      inside = rw (rect_of_place g _ (j / side_of g.side) column) (in_rect g _ _ i j in_column in_row);
      only = λ other below inside.
          let across = tile_is g.side g.width _ i (column_of g (other % columns_of g) (other / columns_of g) i j inside) in
          let along = tile_is g.side g.height _ j (row_of g (other % columns_of g) (other / columns_of g) i j inside) in
          sym (div-add-mod' other (columns_of g)) ∙ ap (λ n. n * columns_of g + other % columns_of g) along ∙ ap (λ n. j / side_of g.side * columns_of g + n) across;
    }

-- the block with which a tile begins, for a picture of at most 4096 pixels
pub block_start : (side : TileSide) (tile : ℕ) → 8 * (side_of side / 8 * tile) ≡ side_of side * tile
block_start T8 tile = omega arith
block_start T16 tile = omega arith
block_start T32 tile = omega arith
block_start T64 tile = omega arith

pub block_aligned : (side : TileSide) (tile : ℕ) → 8 * (side_of side / 8 * tile) % side_of side ≡ 0
block_aligned T8 tile = omega arith
block_aligned T16 tile = omega arith
block_aligned T32 tile = omega arith
block_aligned T64 tile = omega arith

pub corner_of : (side : TileSide) (pixels tile : ℕ) → pixels ≤ 4096 → tile < tiles_over pixels side → IsCorner side (side_of side / 8 * tile)
corner_of side pixels tile most below =
    record { aligned = block_aligned side tile; on_screen = omega (arith, block_start side tile, starts_within side pixels tile below) }

pub few_tiles : (side : TileSide) (pixels : ℕ) → pixels ≤ 4096 → tiles_over pixels side ≤ 512
few_tiles T8 pixels h = omega arith
few_tiles T16 pixels h = omega arith
few_tiles T32 pixels h = omega arith
few_tiles T64 pixels h = omega arith
