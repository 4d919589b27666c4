-- Masks in which the samples are marked that a shape covers.
use Rattle.std.specs.Prelude.{◌≡◌, ◌⊎◌, ◌↔◌, ℕ, ◌+◌, ◌*◌, ◌/◌, ◌<◌, ◌≤◌, List, length}
use Rattle.std.specs.Int.{bit_at}
use Rattle.grid.specs.Position.{Position}
use Rattle.grid.specs.Samples.{count_of, parts_of}
use Rattle.polygons.specs.Blocks.{in_block}
use Rattle.polygons.specs.Cells.{bit_in_block, mask_at}
use Rattle.polygons.specs.Strip.{strip_sample}
use Rattle.strokes.specs.declared.blocks.Blocks.{Blocks}
use Rattle.strokes.specs.declared.style.Style.{Style}
use Rattle.strokes.specs.Stroke.{StrokeCovers}

-- Sample s of the pixel in a row and a column of a strip is marked: its bit in its block's mask is set.
abbrev pub IsMarkedAt : List (List ℕ) → ℕ → ℕ → ℕ → ℕ → Type 0
IsMarkedAt flags columns s row k = bit_at (mask_at flags columns (k / 8) (row / 8) s) (bit_in_block row k) ≡ 1

-- There are columns of words for all parts of a pixel's samples.
abbrev pub HoldsBlocks : Blocks → List (List ℕ) → Type 0
HoldsBlocks blocks flags = parts_of blocks.strip.count * blocks.columns ≤ length flags

-- The samples of this part of the blocks were marked, by sample, row and column, and no other.
pub record Marks (blocks : Blocks) (part : ℕ → ℕ → ℕ → Type 0) (old new : List (List ℕ)) : Type 0 where
  pub len : length new ≡ length old
  pub bits : (s row k : ℕ) → s < count_of blocks.strip.count → row < 64 → k < 8 * blocks.columns → IsMarkedAt new blocks.columns s row k ↔ (IsMarkedAt old blocks.columns s row k ⊎ part s row k)

-- The samples of the blocks that a shape covers were marked, and no other.
abbrev pub MarksShape : Blocks → (Position → Type 0) → List (List ℕ) → List (List ℕ) → Type 0
MarksShape blocks shape old new = Marks blocks (λ s row k. shape (strip_sample blocks.strip s row k)) old new

-- Bit 8 row + column of the mask says whether the stroke covers the sample there, in the block whose first sample is p.
abbrev pub IsStrokeMask : Style → List Position → Position → ℕ → Type 0
IsStrokeMask style path p mask =
    (row column : ℕ) → row < 8 → column < 8 → ((bit_at mask (8 * row + column) ≡ 1) ↔ StrokeCovers style path (in_block p row column))
