-- Rows of samples: parities of flags, sums of counters, and the directions of edges.
use Rattle.std.specs.Prelude.{ℕ, zero, suc, ◌+◌, ◌%◌, ℤ, pos, ◌+ℤ◌, ◌-ℤ◌, cond, int_le}
use Rattle.grid.specs.Position.{Position}
use Rattle.polygons.specs.declared.edge.Edge.{Edge}
use Rattle.polygons.specs.Crossing.{is_crossed_down, is_crossed_up}

-- Whether an odd number of the first n flags are set: 1 or 0.
abbrev pub parity : (ℕ → ℕ) → ℕ → ℕ
parity flags zero = 0
parity flags (suc n) = (parity flags n + flags n) % 2

-- The direction in which one edge is crossed at p: 1 downwards, -1 upwards, 0 if it is not crossed.
abbrev pub direction : Edge → Position → ℤ
direction e p = pos (cond (is_crossed_down e p) 1 0) -ℤ pos (cond (is_crossed_up e p) 1 0)

-- The sum of the first n counters.
abbrev pub sum_to : (ℕ → ℤ) → ℕ → ℤ
sum_to counters zero = pos 0
sum_to counters (suc n) = sum_to counters n +ℤ counters n

-- This number if the column is at k or left of it, else 0.
abbrev pub from_column : ℤ → ℤ → ℕ → ℤ
from_column column number k = cond (int_le column (pos k)) number (pos 0)
