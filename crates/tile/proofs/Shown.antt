-- The part of a tile that is in the picture.
use Rattle.std.proofs.Common.{◌≡◌, inl, inr, ap, subst, ℕ, ◌+◌, ◌-◌, ◌*◌, ◌/◌, ◌%◌, ◌<◌, ◌≤◌, min, pos, List, arith}
use Rattle.std.proofs.Math.Nat.{mod-lt, div-lt_iff_lt-mul, mul_comm, zero-mul}
use Rattle.std.proofs.lemmas.Bool.{cases_lt}
use Rattle.std.proofs.lemmas.Int.{ints}
use Rattle.grid.specs.Pixels.{side_of, IsInBox}
use Rattle.lanes.specs.declared.block_samples.BlockSamples.{BlockSamples}
use Rattle.shade.specs.Resolve.{IsResolved}
use Rattle.draw_list.specs.Scene.{Scene}
use Rattle.draw_list.specs.Picture.{IsColour, IsPicturePart}
use Rattle.tiling.specs.Grid.{TileGrid, columns_of, rows_of, tiles_of, rect_of}
use Rattle.bins.specs.Bin.{IsBinOf}
use Rattle.tiling.proofs.Tiles.{starts_within, in_rect}
use Rattle.bins.proofs.Drawn.{bin_at_sample}
use Rattle.raster.specs.declared.tile.Tile.{Tile}
use Rattle.tiling.specs.Pixels.{IsPictureIn}
use Rattle.tile.specs.Picture.{stored_sample, IsTileAt, IsShown, IsTileBin, AreEnds}
use Rattle.raster.specs.Colours.{IsColourAt}

-- tile k stands in one of the columns and rows
module _ (g : TileGrid) (k : ℕ) (h : k < tiles_of g) where
  some_column : 0 < columns_of g
  some_column =
      elim (cases_lt 0 (columns_of g)) [
        | inl some ↦ some
        | inr none ↦ let nothing : tiles_of g ≡ 0 * rows_of g = ap (λ n. n * rows_of g) (let zero : columns_of g ≡ 0 = omega arith in zero) in absurd (omega (arith, h, zero-mul (rows_of g)))
      ]

  pub column_within : k % columns_of g < columns_of g
  column_within = mod-lt k some_column

  pub row_within : k / columns_of g < rows_of g
  row_within = (div-lt_iff_lt-mul some_column).1 (omega (arith, h, mul_comm (rows_of g) (columns_of g)))

module _ (g : TileGrid) (k : ℕ) (h : k < tiles_of g) (tile : Tile) (at : IsTileAt g k tile) where
  pub begins_in_width : 8 * tile.bx < g.width
  begins_in_width = omega (arith, at.left, starts_within g.side g.width (k % columns_of g) (column_within g k h))

  pub begins_in_height : 8 * tile.by < g.height
  begins_in_height = omega (arith, at.top, starts_within g.side g.height (k / columns_of g) (row_within g k h))

  module _ (l : Scene) (wide : g.width ≡ l.width) (high : g.height ≡ l.height) where
    in_tile : (row column s : ℕ) → IsShown l tile row column s → IsInBox (rect_of g k) (8 * tile.bx + column) (8 * tile.by + row)
    in_tile row column s shown =
        let right : column < side_of g.side = rw at.side at shown.sample.wide in
        let bottom : row < side_of g.side = rw at.side at shown.sample.high in
        let in_width = shown.in_width in
        let in_height = shown.in_height in
        in_rect g (k % columns_of g) (k / columns_of g) (8 * tile.bx + column) (8 * tile.by + row)
        (record { from = omega (arith, at.left); below = omega (arith, at.left); within = omega arith })
        (record { from = omega (arith, at.top); below = omega (arith, at.top); within = omega arith })

    pub tile_bin : tile.count ≡ l.count → (bin : List ℕ) → IsBinOf l g k bin → IsTileBin l tile bin
    tile_bin count bin has row column s shown =
        bin_at_sample l (rect_of g k) (8 * tile.bx + column) (8 * tile.by + row) s bin (in_tile row column s shown) (rw count at shown.sample.is_sample) has

    module _ (width height : ℕ) (across : width ≡ min (g.width - 8 * tile.bx) (side_of tile.side)) (along : height ≡ min (g.height - 8 * tile.by) (side_of tile.side)) where
      pub in_picture : (8 * tile.bx + width ≤ l.width) × (8 * tile.by + height ≤ l.height)
      in_picture = (let begins = begins_in_width in omega arith, let begins = begins_in_height in omega arith)

      pub picture_in : (bytes : List ℕ) → IsPicturePart l (8 * tile.bx) (8 * tile.by) width height bytes → IsPictureIn l (rect_of g k) bytes
      picture_in bytes part = record {
        x = 8 * tile.bx;
        y = 8 * tile.by;
        width = width;
        height = height;
        left = omega (arith, ints, at.left);
        top = omega (arith, ints, at.top);
        right = ap pos (let begins = begins_in_width in let side : side_of tile.side ≡ side_of g.side = ap side_of at.side in omega (arith, at.left));
        bottom = ap pos (let begins = begins_in_height in let side : side_of tile.side ≡ side_of g.side = ap side_of at.side in omega (arith, at.top));
        part = part;
      }

-- the colour of a pixel, if its samples have their final values
pub colour_shown : (l : Scene) (tile : Tile) (samples : List BlockSamples) (row column r g b : ℕ) → AreEnds l tile samples → tile.count ≡ l.count → IsShown l tile row column 0
    → IsColourAt tile samples row column r g b → IsColour l (8 * tile.bx + column) (8 * tile.by + row) r g b
colour_shown l tile samples row column r g b ends count shown c = record {
  end = λ s. stored_sample tile samples row column s;
  ends = λ s below. ends row column s (record {
    sample = record { high = shown.sample.high; wide = shown.sample.wide; is_sample = rw count below };
    in_width = shown.in_width;
    in_height = shown.in_height;
  });
  red = subst (λ n. IsResolved n (λ s. (stored_sample tile samples row column s).r) r) count c.red;
  green = subst (λ n. IsResolved n (λ s. (stored_sample tile samples row column s).g) g) count c.green;
  blue = subst (λ n. IsResolved n (λ s. (stored_sample tile samples row column s).b) b) count c.blue;
}
