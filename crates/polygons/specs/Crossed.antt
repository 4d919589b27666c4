-- Where the samples of a pixel are crossed by a short edge.
use Rattle.std.specs.Prelude.{◌≡◌, ℕ, ◌<◌, ℤ, pos, ◌+ℤ◌, slice_index}
use Rattle.std.specs.Int.{bit_at}
use Rattle.grid.specs.Position.{Position}
use Rattle.grid.specs.Samples.{count_of}
use Rattle.polygons.specs.declared.edge.Edge.{Edge}
use Rattle.polygons.specs.declared.short_crossings.ShortCrossings.{ShortCrossings}
use Rattle.polygons.specs.declared.strip.Strip.{Strip}
use Rattle.polygons.specs.Blocks.{down}
use Rattle.polygons.specs.Columns.{HasHeight, IsFirstColumn}
use Rattle.polygons.specs.Strip.{start_of}

-- The edge runs through this row of a strip at a sample, and from this column on it is crossed. The first pixel has the sample at `start`.
pub record IsCrossedFrom (e : Edge) (start : Position) (row : ℕ) (column : ℤ) : Type 0 where
  pub within : row < 64
  pub through : HasHeight e (down start row).y
  pub first : IsFirstColumn e (down start row) column

-- The edge runs through no row of a strip at that sample.
abbrev pub IsMissed : Edge → Position → Type 0
IsMissed e start = (row : ℕ) → row < 64 → HasHeight e (down start row).y → ⊥

-- The bits say at which samples of a strip the edge runs through a row, and the numbers say where.
pub record AreCrossed (strip : Strip) (e : Edge) (c : ShortCrossings) : Type 0 where
  pub missed : (s : ℕ) → s < count_of strip.count → bit_at c.bits s ≡ 0 → IsMissed e (start_of strip s)
  pub held : (s : ℕ) → s < 16 → bit_at c.bits s ≡ 1 → s < count_of strip.count
  pub crossed : (s : ℕ) → s < count_of strip.count → bit_at c.bits s ≡ 1 → IsCrossedFrom e (start_of strip s) (slice_index c.rows s) (c.column +ℤ pos (slice_index c.columns s))
