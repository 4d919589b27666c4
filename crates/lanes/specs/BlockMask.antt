-- The samples of a block of 8 by 8 pixels, of a part of the sample indices.
use Rattle.std.specs.Prelude.{ℕ, ◌+◌, ◌*◌, ◌<◌, List, [], slice_index, slice_index_or}
use Rattle.grid.specs.Position.{Position}
use Rattle.grid.specs.Samples.{part_size, sample_position}
use Rattle.lanes.specs.declared.block_samples.BlockSamples.{BlockSamples}
use Rattle.lanes.specs.declared.block_mask.BlockMask.{BlockMask}
use Rattle.shade.specs.declared.placed.Placed.{Placed}
use Rattle.shade.specs.declared.sample.CanvasSample.{CanvasSample}
use Rattle.shade.specs.Canvas.{IsCanvasDrawnAt}
use Rattle.lanes.specs.Fragment.{FlatFragment, Takes}
use Rattle.lanes.specs.Block.{CoversMask, AreDrawn}

-- Where sample s of the part, of the first pixel of the block, lies.
abbrev pub first_of : BlockMask → ℕ → Position
first_of m s = sample_position (8 * m.bx) (8 * m.by) (m.from + s) m.count

-- The samples s of a part of a block, as they are stored.
abbrev pub plane_of : List BlockSamples → ℕ → BlockSamples
plane_of samples s = slice_index_or samples s (record { z = []; r = []; g = []; b = []; alpha = [] })

-- The triangle covers the samples in the masks of a block.
abbrev pub CoversBlock : Placed → BlockMask → Type 0
CoversBlock t m = (s : ℕ) → s < part_size m.count → CoversMask t (first_of m s) (slice_index m.plane s)

-- The samples in the masks of a block become what D says of their points, and the others are unchanged.
abbrev pub IsBlockDrawnBy : (Position → CanvasSample → CanvasSample → Type 0) → BlockMask → List BlockSamples → List BlockSamples → Type 0
IsBlockDrawnBy D m old new =
    (s : ℕ) → s < part_size m.count → AreDrawn D (first_of m s) (slice_index m.plane s) (plane_of old s) (plane_of new s) 0 64

-- The triangle is drawn at the samples in the masks of a block, and the others are unchanged.
abbrev pub IsBlockDrawn : Placed → BlockMask → List BlockSamples → List BlockSamples → Type 0
IsBlockDrawn t = IsBlockDrawnBy (IsCanvasDrawnAt t)

-- The samples in the masks of a block take the fragment, and the others are unchanged.
abbrev pub IsBlockMerged : FlatFragment → BlockMask → List BlockSamples → List BlockSamples → Type 0
IsBlockMerged f = IsBlockDrawnBy (λ p. Takes f)
