-- What the program writes, by its status.
use Rattle.std.specs.Prelude.{◌≡◌, ◌↔◌, ℕ, List, Option, codes}
use Rattle.grid.specs.declared.pixels.TileSide.{TileSide}
use Rattle.engine.specs.declared.fault.Fault.{Fault}
use Rattle.engine.specs.declared.fault.Fault.TheVariants.{InputFailed, WriteFailed}
use Rattle.engine.specs.Runs.{Explains}

-- The line that the program writes if its arguments ask for help.
abbrev pub usage_line : List ℕ
usage_line = codes "usage: trirast [--tile 8|16|32|64] [--workers 1..16] < list.json > picture.ppm\n"

-- There is an error, of a run with some tile size, that explains what the input gave and what was written. It is a failed input if
-- and only if a read failed, and a failed output if and only if a write did.
pub record EndsByFault (left left_after held held_after : Option (List ℕ)) (ReadHasFailed WriteHasFailed : Type 0) : Type 0 where
  pub side : TileSide
  pub fault : Fault
  pub explained : Explains side fault left left_after held held_after
  pub input_failed : (fault ≡ InputFailed) ↔ ReadHasFailed
  pub write_failed : ((count : ℕ) × (fault ≡ WriteFailed count)) ↔ WriteHasFailed
