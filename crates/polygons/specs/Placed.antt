-- Where the flags of a short edge's crossings lie.
use Rattle.std.specs.Prelude.{◌≡◌, ℕ, ◌+◌, ◌*◌, ◌/◌, ◌%◌, ◌<◌, pos, ◌+ℤ◌, slice_index}
use Rattle.std.specs.Int.{bit_at}
use Rattle.polygons.specs.declared.short_crossings.ShortCrossings.{ShortCrossings}
use Rattle.polygons.specs.declared.short_places.ShortPlaces.{ShortPlaces}

-- All crossings lie in one block, each at the pixel of its bit there.
pub record AreInOneBlock (c : ShortCrossings) (p : ShortPlaces) : Type 0 where
  pub crossed : (s : ℕ) → s < 16 → slice_index p.crossed s ≡ bit_at c.bits s
  pub rows : (s : ℕ) → s < 16 → bit_at c.bits s ≡ 1 → slice_index c.rows s ≡ 8 * p.row + slice_index p.bits s / 8
  pub columns : (s : ℕ) → s < 16 → bit_at c.bits s ≡ 1 → c.column +ℤ pos (slice_index c.columns s) ≡ pos (8 * p.column + slice_index p.bits s % 8)
