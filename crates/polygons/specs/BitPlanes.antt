-- Small numbers in planes of bits.
use Rattle.std.specs.Prelude.{◌≡◌, ℕ, ◌+◌, ◌*◌, length, slice_index}
use Rattle.std.specs.Int.{bit_at}
use Rattle.polygons.specs.declared.bit_planes.BitPlanes.{BitPlanes}

-- Each plane has 32 rows.
pub record AreWhole (planes : BitPlanes) : Type 0 where
  pub ones : length planes.ones ≡ 32
  pub twos : length planes.twos ≡ 32
  pub fours : length planes.fours ≡ 32
  pub eights : length planes.eights ≡ 32
  pub sixteens : length planes.sixteens ≡ 32

-- The number of a cell in a row and a column, from 0 to 31: each plane has one of its bits.
abbrev pub cell_number : BitPlanes → ℕ → ℕ → ℕ
cell_number planes row column =
    bit_at (slice_index planes.ones row) column + 2 * bit_at (slice_index planes.twos row) column + 4 * bit_at (slice_index planes.fours row) column
    + 8 * bit_at (slice_index planes.eights row) column + 16 * bit_at (slice_index planes.sixteens row) column
