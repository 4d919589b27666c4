-- Where all samples are the same, so are the colours of all pixels.
use Rattle.std.proofs.Common.{◌≡◌, ◌∙◌, sym, ap, ℕ, ◌+◌, ◌*◌, ◌/◌, ◌%◌, ◌<◌, List, length, slice_index, arith}
use Rattle.grid.specs.Pixels.{side_of}
use Rattle.grid.specs.Samples.{count_of}
use Rattle.grid.specs.declared.pixels.TileSide.{TileSide}
use Rattle.grid.specs.declared.pixels.TileSide.TheVariants.{T8, T16, T32, T64}
use Rattle.shade.specs.declared.sample.CanvasSample.{CanvasSample}
use Rattle.shade.proofs.Resolved.{resolved_same}
use Rattle.lanes.specs.declared.block_samples.BlockSamples.{BlockSamples}
use Rattle.raster.specs.declared.tile.Tile.{Tile}
use Rattle.raster.specs.Samples.{IsSampleOf, place_of, planes_of, stored, AreAll}
use Rattle.raster.specs.Colours.{AreColoursAt}
use Rattle.raster.proofs.Places.{sample_within, whole_blocks}

some_blocks : (side : TileSide) → 0 < side_of side / 8
some_blocks T8 = omega arith
some_blocks T16 = omega arith
some_blocks T32 = omega arith
some_blocks T64 = omega arith

module _ (tile : Tile) (samples : List BlockSamples) (sample : CanvasSample) (long : length samples ≡ planes_of tile.side tile.count) (all : AreAll samples sample) where
  pub stored_same : (row column s : ℕ) → IsSampleOf tile row column s → stored tile samples row column s ≡ sample
  stored_same row column s h =
      let here = sample_within tile row column s h in
      all (place_of tile (row / 8) (column / 8) s) (8 * (row % 8) + column % 8) (omega (arith, long, here)) (omega arith)

  pub colours_same : (bytes : List ℕ) → AreColoursAt tile samples 0 0 bytes
      → (row column : ℕ) → row < side_of tile.side → column < side_of tile.side / 8 → AreColoursAt tile samples row column bytes
  colours_same bytes first row column high wide i below =
      let whole = whole_blocks tile.side in
      let some = some_blocks tile.side in
      let same : (s : ℕ) → s < count_of tile.count → stored tile samples 0 (8 * 0 + i) s ≡ stored tile samples row (8 * column + i) s =
      λ s few.
      stored_same 0 (8 * 0 + i) s (record { high = omega (arith, some, whole); wide = omega (arith, some, whole, below); is_sample = few })
      ∙ sym (stored_same row (8 * column + i) s (record { high = high; wide = omega (arith, wide, whole, below); is_sample = few })) in
      let here = first i below in
      record {
        red = resolved_same tile.count _ _ (slice_index bytes (3 * i)) (λ s few. ap (λ x. x.r) (same s few)) here.red;
        green = resolved_same tile.count _ _ (slice_index bytes (3 * i + 1)) (λ s few. ap (λ x. x.g) (same s few)) here.green;
        blue = resolved_same tile.count _ _ (slice_index bytes (3 * i + 2)) (λ s few. ap (λ x. x.b) (same s few)) here.blue;
      }
