-- Edges and boxes that lie beside a strip.
use Rattle.std.specs.Prelude.{◌⊎◌, ℕ, ◌+◌, ◌*◌, ◌<◌, pos, ◌+ℤ◌, ◌*ℤ◌, ◌≤ℤ◌}
use Rattle.polygons.specs.declared.edge.Edge.{Edge}
use Rattle.polygons.specs.declared.extent.Extent.{Extent}
use Rattle.polygons.specs.declared.strip.Strip.{Strip}
use Rattle.polygons.specs.Rings.{IsInExtent}
use Rattle.polygons.specs.Strip.{strip_sample}

-- Both ends are at the upper border of the strip, or above it.
abbrev pub IsAbove : Edge → Strip → Type 0
IsAbove e strip = (e.a.y ≤ℤ (pos 256 *ℤ strip.row)) × (e.b.y ≤ℤ (pos 256 *ℤ strip.row))

-- Both ends are at the lower border of the strip, or below it.
abbrev pub IsBelow : Edge → Strip → Type 0
IsBelow e strip = ((pos 256 *ℤ strip.row +ℤ pos 16384) ≤ℤ e.a.y) × ((pos 256 *ℤ strip.row +ℤ pos 16384) ≤ℤ e.b.y)

-- Both ends are right of each pixel of these columns of blocks.
abbrev pub IsRight : Edge → Strip → ℕ → Type 0
IsRight e strip columns =
    (k : ℕ) → k < 8 * columns → (((pos 256 *ℤ strip.column +ℤ pos (256 * (k + 1))) ≤ℤ e.a.x) × ((pos 256 *ℤ strip.column +ℤ pos (256 * (k + 1))) ≤ℤ e.b.x))

-- One of these.
abbrev pub IsApart : Edge → Strip → ℕ → Type 0
IsApart e strip columns = IsAbove e strip ⊎ (IsBelow e strip ⊎ IsRight e strip columns)

-- No sample in these columns of blocks is in the box.
abbrev pub LiesBeside : Extent → Strip → ℕ → Type 0
LiesBeside e strip columns = (s row k : ℕ) → row < 64 → k < 8 * columns → ¬ IsInExtent e (strip_sample strip s row k)
