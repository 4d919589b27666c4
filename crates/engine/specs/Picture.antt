-- How a picture's file is written, tile row after tile row.
use Rattle.std.specs.Prelude.{◌≡◌, ◌↔◌, ℕ, ◌+◌, ◌-◌, ◌*◌, ◌<◌, ◌≤◌, List, length, min, take, Option, Result, OnOk, IfOk, IfErr, IsErrOf}
use Rattle.std.specs.Io.KnownBytes.{Keeps, Appends}
use Rattle.grid.specs.Pixels.{side_of}
use Rattle.grid.specs.declared.pixels.TileSide.{TileSide}
use Rattle.draw_list.specs.Picture.{output_pixel_bytes}
use Rattle.draw_list.specs.Scene.{Scene}
use Rattle.tiling.specs.TileRow.{AreTileRows}
use Rattle.engine.specs.Runs.{WritesTileRows, WritesFileUpTo}
use Rattle.engine.specs.declared.fault.Fault.{Fault}
use Rattle.engine.specs.declared.fault.Fault.TheVariants.{OutOfMemory as NoMemory, WriteFailed as FailedWrite}
use Rattle.engine.specs.declared.picture.PictureFault.{PictureFault}
use Rattle.engine.specs.declared.picture.PictureFault.TheVariants.{NotBegun, OutOfMemory, WriteFailed}

-- How many bytes the rows of pixels in these tile rows have.
abbrev pub rows_length : Scene → TileSide → ℕ → ℕ → ℕ
rows_length l side first end = output_pixel_bytes l.output * ((min l.height (side_of side * end) - side_of side * first) * l.width)

-- What was written is the bytes of the tile rows from `first` to before `end`. With the bytes that were written before they are
-- `count`.
pub record WritesRows (l : Scene) (side : TileSide) (first end before count : ℕ) (held held_after : Option (List ℕ)) : Type 0 where
  pub rows : List ℕ
  pub are : AreTileRows l side first end rows
  pub many : count ≡ before + length rows
  pub written : Appends held held_after rows

-- What was written is a beginning of the bytes of the tile rows from `first` on. With the bytes that were written before it is
-- `count`.
pub record CutsRows (l : Scene) (side : TileSide) (first before count : ℕ) (held held_after : Option (List ℕ)) : Type 0 where
  pub end : ℕ
  pub ordered : first ≤ end
  pub rows : List ℕ
  pub are : AreTileRows l side first end rows
  pub within : (before ≤ count) × (count ≤ before + length rows)
  pub written : Appends held held_after (take (count - before) rows)

-- What was written of the tile rows from `first` to before `end` before this error.
abbrev pub ExplainsRows : Scene → TileSide → ℕ → ℕ → ℕ → PictureFault → Option (List ℕ) → Option (List ℕ) → Type 0
ExplainsRows l side first end before NotBegun held held_after = ⊥
ExplainsRows l side first end before (OutOfMemory row) held held_after = (first ≤ row) × (row < end) × ((count : ℕ) × WritesRows l side first row before count held held_after)
ExplainsRows l side first end before (WriteFailed count) held held_after = CutsRows l side first before count held held_after

-- How the writing of the tile rows from `first` to before `end` ends: they were written, or the error explains what was. It is a
-- failed write if and only if a write failed in the call.
pub record EndsRows (l : Scene) (side : TileSide) (first end before : ℕ) (result : Result ℕ PictureFault) (held held_after : Option (List ℕ)) (failed failed_after : ℕ) : Type 0 where
  pub rows : IfOk result (λ count. WritesRows l side first end before count held held_after)
  pub fault : IfErr result (λ e. ExplainsRows l side first end before e held held_after)
  pub write_failed : ((count : ℕ) × IsErrOf result (WriteFailed count)) ↔ (failed < failed_after)
  pub same_failures : OnOk result (failed_after ≡ failed)

-- What was written of the file of a list's picture before this error. If memory ran out for a tile row, it is exactly the header
-- and the tile rows before it.
abbrev pub ExplainsPicture : Scene → TileSide → PictureFault → Option (List ℕ) → Option (List ℕ) → Type 0
ExplainsPicture l side NotBegun held held_after = Keeps held held_after
ExplainsPicture l side (OutOfMemory row) held held_after = WritesTileRows l side row held held_after
ExplainsPicture l side (WriteFailed count) held held_after = WritesFileUpTo l count held held_after

-- The error of a run for an error of its picture.
abbrev pub fault_of : PictureFault → Fault
fault_of NotBegun = NoMemory
fault_of (OutOfMemory row) = NoMemory
fault_of (WriteFailed count) = FailedWrite count
