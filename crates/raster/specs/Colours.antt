-- The colours of a tile's pixels.
use Rattle.std.specs.Prelude.{◌≡◌, ℕ, ◌+◌, ◌*◌, ◌<◌, List, length, slice_index}
use Rattle.lanes.specs.declared.block_samples.BlockSamples.{BlockSamples}
use Rattle.lanes.specs.BlockMask.{plane_of}
use Rattle.shade.specs.Mean.{mean_of}
use Rattle.shade.specs.Resolve.{IsResolved}
use Rattle.raster.specs.declared.tile.Tile.{Tile}
use Rattle.raster.specs.Samples.{stored}

-- The colour of the pixel in a row and a column of the tile: each channel resolved from the pixel's samples.
pub record IsColourAt (tile : Tile) (samples : List BlockSamples) (row column : ℕ) (r g b : ℕ) : Type 0 where
  pub red : IsResolved tile.count (λ s. (stored tile samples row column s).r) r
  pub green : IsResolved tile.count (λ s. (stored tile samples row column s).g) g
  pub blue : IsResolved tile.count (λ s. (stored tile samples row column s).b) b

-- The bytes of the eight pixels in a row of the tile and a column of its blocks: red, green and blue of each.
abbrev pub AreColoursAt : Tile → List BlockSamples → ℕ → ℕ → List ℕ → Type 0
AreColoursAt tile samples row column bytes =
    (i : ℕ) → i < 8 → IsColourAt tile samples row (8 * column + i) (slice_index bytes (3 * i)) (slice_index bytes (3 * i + 1)) (slice_index bytes (3 * i + 2))

-- The bytes of eight pixels of a block from pixel `from` on: red, green and blue of each, the means of these planes.
abbrev pub AreMeansAt : List BlockSamples → ℕ → List ℕ → Type 0
AreMeansAt planes from bytes =
    (i : ℕ) → i < 8
    → (slice_index bytes (3 * i) ≡ mean_of (length planes) (λ s. slice_index (plane_of planes s).r (from + i)))
    × (slice_index bytes (3 * i + 1) ≡ mean_of (length planes) (λ s. slice_index (plane_of planes s).g (from + i)))
    × (slice_index bytes (3 * i + 2) ≡ mean_of (length planes) (λ s. slice_index (plane_of planes s).b (from + i)))

-- The bytes are the first eight of three lists, one of each after another.
abbrev pub AreInterleaved : List ℕ → List ℕ → List ℕ → List ℕ → Type 0
AreInterleaved r g b bytes =
    (i : ℕ) → i < 8 → (slice_index bytes (3 * i) ≡ slice_index r i) × (slice_index bytes (3 * i + 1) ≡ slice_index g i) × (slice_index bytes (3 * i + 2) ≡ slice_index b i)
