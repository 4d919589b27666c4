-- What a later triangle hides in a tile.
use Rattle.std.specs.Prelude.{◌≡◌, ℕ, ◌+◌, ◌-◌, ◌*◌, ◌%◌, ◌^◌, ◌<◌, List, slice_get, Some}
use Rattle.grid.specs.Samples.{count_of}
use Rattle.grid.specs.declared.sample_count.SampleCount.{SampleCount}
use Rattle.shade.specs.declared.depth.DepthTest.TheVariants.{Always}
use Rattle.shade.specs.declared.sample.CanvasSample.{CanvasSample}
use Rattle.shade.specs.declared.state.State.{State}
use Rattle.shade.specs.declared.placed.Placed.{Placed}
use Rattle.shade.specs.Presets.{replace}
use Rattle.shade.specs.Merging.{Writes}
use Rattle.shade.specs.Canvas.{CanvasDraws}
use Rattle.raster.specs.declared.tile.Tile.{Tile}
use Rattle.raster.specs.Samples.{IsSampleOf}

-- A triangle in this state gives its colour to each sample that it covers in its scissor. The depth test always passes, red, green and
-- blue are written without blending, and all samples of a pixel are in the mask.
pub record ReplacesColours (s : State) (count : SampleCount) : Type 0 where
  pub passes : s.merge.test ≡ Always
  pub red : Writes s.merge 0
  pub green : Writes s.merge 1
  pub blue : Writes s.merge 2
  pub plain : s.merge.blend.colour ≡ replace
  pub all_samples : s.sample_mask % 2 ^ count_of count ≡ 2 ^ count_of count - 1

-- The triangle hides the colours that are stored in the tile. What it makes of a sample, it makes of each other of the same depth and
-- the same alpha.
abbrev pub Hides : Placed → Tile → Type 0
Hides t tile =
    (row column s : ℕ) → IsSampleOf tile row column s → (x y new : CanvasSample) → y.z ≡ x.z → y.alpha ≡ x.alpha
    → CanvasDraws t tile.count (8 * tile.bx + column) (8 * tile.by + row) s x new → CanvasDraws t tile.count (8 * tile.bx + column) (8 * tile.by + row) s y new

-- The triangle changes no depth and no alpha in the tile.
abbrev pub KeepsDepths : Placed → Tile → Type 0
KeepsDepths t tile =
    (row column s : ℕ) → IsSampleOf tile row column s → (x y : CanvasSample)
    → CanvasDraws t tile.count (8 * tile.bx + column) (8 * tile.by + row) s x y → (y.z ≡ x.z) × (y.alpha ≡ x.alpha)

-- The first n triangles change no depth and no alpha in the tile.
abbrev pub FirstKeepDepths : List Placed → Tile → ℕ → Type 0
FirstKeepDepths ts tile n = (k : ℕ) (t : Placed) → k < n → slice_get ts k ≡ Some t → KeepsDepths t tile

-- The tile can begin with triangle k: it hides the colours that are stored there, and those before it no depth and no alpha.
pub record CanBegin (ts : List Placed) (tile : Tile) (k : ℕ) : Type 0 where
  pub hides : (t : Placed) → slice_get ts k ≡ Some t → Hides t tile
  pub keep : FirstKeepDepths ts tile k
