-- What a triangle makes of the samples of a tile.
use Rattle.std.specs.Prelude.{◌≡◌, ◌↔◌, ℕ, ◌+◌, ◌-◌, ◌*◌, ◌/◌, ◌%◌, ◌^◌, ◌<◌, ◌≤◌, List, slice_index, IsBitSet, IsTrue}
use Rattle.grid.specs.Pixels.{side_of, IsInBox}
use Rattle.grid.specs.Position.{Position}
use Rattle.grid.specs.Samples.{part_size, sample_position}
use Rattle.grid.specs.declared.triangle.Tri.{Tri}
use Rattle.grid.specs.declared.pixels.TileSide.TheVariants.{T8}
use Rattle.grid.specs.declared.sample_count.SampleCount.{SampleCount}
use Rattle.lanes.specs.declared.block_samples.BlockSamples.{BlockSamples}
use Rattle.lanes.specs.declared.block_mask.BlockMask.{BlockMask}
use Rattle.lanes.specs.Fragment.{FlatFragment, Takes}
use Rattle.cover.specs.Masks.{CoversInBlock, IsPlaneOf}
use Rattle.cover.specs.Square.{TestedSquare, CoversIn}
use Rattle.shade.specs.declared.placed.Placed.{Placed}
use Rattle.shade.specs.declared.state.State.{State}
use Rattle.shade.specs.declared.sample.CanvasSample.{CanvasSample}
use Rattle.shade.specs.Canvas.{IsCanvasDrawnAt, CanvasDraws}
use Rattle.raster.specs.declared.lazy.LazyInterpolants.{LazyInterpolants}
use Rattle.raster.specs.declared.tile.Tile.{Tile}
use Rattle.raster.specs.Samples.{IsSampleOf, stored}

-- What the triangle makes of sample s of the pixel in a row and a column of the tile.
abbrev pub DrawsAt : Placed → Tile → List BlockSamples → List BlockSamples → ℕ → ℕ → ℕ → Type 0
DrawsAt t tile old new row column s =
    CanvasDraws t tile.count (8 * tile.bx + column) (8 * tile.by + row) s (stored tile old row column s) (stored tile new row column s)

-- Sample s of the pixel in a row and a column of the tile is unchanged.
abbrev pub KeepsAt : Tile → List BlockSamples → List BlockSamples → ℕ → ℕ → ℕ → Type 0
KeepsAt tile old new row column s = stored tile new row column s ≡ stored tile old row column s

-- The triangle is drawn at the samples of a part of the tile, and the others are unchanged.
pub record DrawsPart (t : Placed) (tile : Tile) (part : ℕ → ℕ → ℕ → Type 0) (old new : List BlockSamples) : Type 0 where
  pub drawn : (row column s : ℕ) → IsSampleOf tile row column s → part row column s → DrawsAt t tile old new row column s
  pub kept : (row column s : ℕ) → IsSampleOf tile row column s → ¬ part row column s → KeepsAt tile old new row column s

-- The triangle is drawn at each sample of the tile.
abbrev pub DrawsTile : Placed → Tile → List BlockSamples → List BlockSamples → Type 0
DrawsTile t tile old new = (row column s : ℕ) → IsSampleOf tile row column s → DrawsAt t tile old new row column s

-- ---- parts of a tile

-- The pixel in a row and a column of the tile is in the square of this size that begins at pixel (8 bx, 8 by).
pub record IsInSquare (tile : Tile) (bx by side : ℕ) (row column s : ℕ) : Type 0 where
  pub left : 8 * bx ≤ 8 * tile.bx + column
  pub right : 8 * tile.bx + column < 8 * bx + side
  pub top : 8 * by ≤ 8 * tile.by + row
  pub bottom : 8 * tile.by + row < 8 * by + side

-- Sample s of a pixel is in the part of its samples that begins with sample `from`.
pub record IsInPart (count : SampleCount) (from s : ℕ) : Type 0 where
  pub low : from ≤ s
  pub high : s < from + part_size count

-- Sample s of the pixel in a row and a column of the tile is in a square and in the part that begins with sample `from`. The square has
-- this size and begins at pixel (8 bx, 8 by).
pub record IsInSquarePart (tile : Tile) (bx by side from : ℕ) (row column s : ℕ) : Type 0 where
  pub square : IsInSquare tile bx by side row column s
  pub samples : IsInPart tile.count from s

-- A square of this size that begins at pixel (8 bx, 8 by) lies in the tile.
pub record LiesIn (tile : Tile) (bx by side : ℕ) : Type 0 where
  pub left : tile.bx ≤ bx
  pub right : 8 * bx + side ≤ 8 * tile.bx + side_of tile.side
  pub top : tile.by ≤ by
  pub bottom : 8 * by + side ≤ 8 * tile.by + side_of tile.side

-- The square of the tile's samples, and the triangle that they are tested with.
abbrev pub square_of : Tri → Tile → TestedSquare
square_of t tile = record { triangle = t; bx = tile.bx; by = tile.by; side = tile.side; count = tile.count }

-- The square of the samples of block (bx, by) of the tile, and the triangle that they are tested with.
abbrev pub block_of : Tri → Tile → ℕ → ℕ → TestedSquare
block_of t tile bx by = record { triangle = t; bx = bx; by = by; side = T8; count = tile.count }

-- The planes say which samples of block (bx, by), of the part that begins with sample `from`, the triangle covers.
abbrev pub ArePlanesOf : Tri → ℕ → ℕ → SampleCount → ℕ → List ℕ → Type 0
ArePlanesOf t bx by count from planes = (s : ℕ) → s < part_size count → IsPlaneOf t bx by count (from + s) (slice_index planes s)

-- The triangle covers no sample of the square, of the part that begins with sample `from`.
abbrev pub CoversNoneOf : TestedSquare → ℕ → Type 0
CoversNoneOf q from =
    (s row column : ℕ) → s < part_size q.count → row < side_of q.side → column < side_of q.side → ¬ CoversIn q (from + s) row column

-- If they are set up, the interpolants are those of this triangle.
abbrev pub AreOf : LazyInterpolants → Placed → Type 0
AreOf lazy t = IsTrue lazy.is_made → lazy.interpolants ≡ t

-- ---- masks

-- The state lets sample s of pixel (i, j) be drawn: the pixel is in the scissor, and bit s of the sample mask is set.
pub record Allows (state : State) (i j s : ℕ) : Type 0 where
  pub in_scissor : IsInBox state.scissor i j
  pub in_mask : state.sample_mask / 2 ^ s % 2 ≡ 1

-- The bits of the block's masks are those of these masks that the state lets be drawn.
abbrev pub AreAllowed : State → List ℕ → BlockMask → Type 0
AreAllowed state masks m =
    (row column s : ℕ) → row < 8 → column < 8 → s < part_size m.count
    → (IsBitSet (slice_index m.plane s) (8 * row + column) ↔ (IsBitSet (slice_index masks s) (8 * row + column) × Allows state (8 * m.bx + column) (8 * m.by + row) (m.from + s)))

-- The triangle covers the samples in these masks of block (bx, by), of the part that begins with sample `from`.
abbrev pub CoversMasks : Tri → ℕ → ℕ → SampleCount → ℕ → List ℕ → Type 0
CoversMasks t bx by count from masks =
    (row column s : ℕ) → row < 8 → column < 8 → s < part_size count → IsBitSet (slice_index masks s) (8 * row + column) → CoversInBlock t bx by count (from + s) row column

-- Sample s of the pixel in a row and a column of the tile is drawn by these masks. They are of block (bx, by) and of the part that begins
-- with sample `from`, and the state lets it be drawn.
pub record IsChosen (state : State) (tile : Tile) (bx by from : ℕ) (masks : List ℕ) (row column s : ℕ) : Type 0 where
  pub part : IsInSquarePart tile bx by 8 from row column s
  pub in_masks : IsBitSet (slice_index masks (s - from)) (8 * (row % 8) + column % 8)
  pub allowed : Allows state (8 * tile.bx + column) (8 * tile.by + row) s

-- The samples in the masks that the state lets be drawn become what D says of their points, and the others are unchanged.
pub record DrawsMasksBy (D : Position → CanvasSample → CanvasSample → Type 0) (state : State) (tile : Tile) (bx by from : ℕ) (masks : List ℕ) (old new : List BlockSamples) : Type 0 where
  pub drawn : (row column s : ℕ) → IsSampleOf tile row column s → IsChosen state tile bx by from masks row column s
      → D (sample_position (8 * tile.bx + column) (8 * tile.by + row) s tile.count) (stored tile old row column s) (stored tile new row column s)
  pub kept : (row column s : ℕ) → IsSampleOf tile row column s → ¬ IsChosen state tile bx by from masks row column s → KeepsAt tile old new row column s

-- The triangle is drawn at the samples in the masks that its state lets be drawn, and the others are unchanged.
abbrev pub DrawsMasks : Placed → Tile → ℕ → ℕ → ℕ → List ℕ → List BlockSamples → List BlockSamples → Type 0
DrawsMasks t = DrawsMasksBy (IsCanvasDrawnAt t) t.state

-- The samples in the masks that the fragment's state lets be drawn take the fragment, and the others are unchanged.
abbrev pub MergesMasks : FlatFragment → Tile → ℕ → ℕ → ℕ → List ℕ → List BlockSamples → List BlockSamples → Type 0
MergesMasks f = DrawsMasksBy (λ p. Takes f) f.state
