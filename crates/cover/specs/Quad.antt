-- The samples of a block that a quad covers.
use Rattle.std.specs.Prelude.{◌≡◌, ◌↔◌, ◌⊎◌, ℕ, ◌+◌, ◌*◌, ◌<◌, ◌≤◌, slice_index}
use Rattle.grid.specs.Quad.{Corners, QuadCovers}
use Rattle.grid.specs.Samples.{part_size, sample_position}
use Rattle.grid.specs.declared.sample_count.SampleCount.{SampleCount}
use Rattle.grid.specs.declared.triangle.Tri.{Tri}
use Rattle.cover.specs.declared.masks.Masks.{Masks}
use Rattle.cover.specs.Masks.{AreMasksOf}
use Rattle.cover.specs.Pair.{HasSample, HaveNoCommonSample}

-- The quad covers sample s of the pixel in a column and a row of block (bx, by), whose first pixel is (8 bx, 8 by).
abbrev pub QuadCoversInBlock : Corners → ℕ → ℕ → SampleCount → ℕ → ℕ → ℕ → Type 0
QuadCoversInBlock q bx by count s row column =
    QuadCovers q.a q.b q.c q.d (sample_position (8 * bx + column) (8 * by + row) s count)

-- The masks say which samples of block (bx, by) the quad covers, of the first part: of all if a pixel has at most four. There is one
-- word for each sample of the part, whose bit 8 row + column is set if and only if it is covered, and the others are zero.
pub record AreMasksOfQuad (q : Corners) (bx by : ℕ) (count : SampleCount) (m : Masks) : Type 0 where
  pub covered : (s row column : ℕ) → s < part_size count → row < 8 → column < 8 → (HasSample m s row column ↔ QuadCoversInBlock q bx by count s row column)
  pub empty : (s : ℕ) → part_size count ≤ s → slice_index m.plane s ≡ 0

-- No sample of the block is in both parts, and a sample is in the whole if and only if it is in one of them.
pub record AreDisjointParts (first second whole : Masks) : Type 0 where
  pub disjoint : HaveNoCommonSample first second
  pub union : (s row column : ℕ) → row < 8 → column < 8 → (HasSample whole s row column ↔ (HasSample first s row column ⊎ HasSample second s row column))

-- The masks are those of two triangles joined, which have no sample in common.
abbrev pub IsJoinedFrom : Tri → Tri → ℕ → ℕ → SampleCount → Masks → Type 0
IsJoinedFrom t u bx by count m =
    (first second : Masks) → AreMasksOf t bx by count first → AreMasksOf u bx by count second → AreDisjointParts first second m
