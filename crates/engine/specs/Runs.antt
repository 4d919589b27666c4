-- What a run from an input to an output does.
use Rattle.std.specs.Prelude.{◌≡◌, ◌↔◌, ℕ, ◌+◌, ◌*◌, ◌<◌, ◌≤◌, ◌⊎◌, List, length, take, Option, Result, OnOk, IfErr, IsErrOf}
use Rattle.std.specs.Io.KnownBytes.{Keeps, Appends}
use Rattle.grid.specs.Pixels.{side_of}
use Rattle.grid.specs.declared.pixels.TileSide.{TileSide}
use Rattle.draw_list.specs.Picture.{output_pixel_bytes}
use Rattle.draw_list.specs.Scene.{Scene}
use Rattle.engine.specs.declared.fault.Fault.{Fault}
use Rattle.engine.specs.declared.fault.Fault.TheVariants.{List as BadList, Pool, InputFailed, InputTooLong, WriteFailed, OutOfMemory}
use Rattle.list_json.specs.Denotes.{Denotes}
use Rattle.picture_file.specs.File.{header_of, IsPictureFile}
use Rattle.engine.specs.Input.{GivesAll, Gives, HasFault}

-- What was written is the file of the draw list's picture.
pub record WritesFile (list : Scene) (held held_after : Option (List ℕ)) : Type 0 where
  pub file : List ℕ
  pub picture : IsPictureFile list file
  pub written : Appends held held_after file

-- What was written is the first `count` bytes of the file of the draw list's picture.
pub record WritesFileUpTo (list : Scene) (count : ℕ) (held held_after : Option (List ℕ)) : Type 0 where
  pub file : List ℕ
  pub picture : IsPictureFile list file
  pub within : count ≤ length file
  pub written : Appends held held_after (take count file)

-- What was written is the file of the draw list's picture, which has `count` bytes.
pub record WritesAll (list : Scene) (count : ℕ) (held held_after : Option (List ℕ)) : Type 0 where
  pub file : List ℕ
  pub picture : IsPictureFile list file
  pub many : count ≡ length file
  pub written : Appends held held_after file

-- How many bytes of the file come before the tile row of this number, with tiles of this size.
abbrev pub bytes_before : Scene → TileSide → ℕ → ℕ
bytes_before list side row = length (header_of list.output list.width list.height) + output_pixel_bytes list.output * (side_of side * row * list.width)

-- What was written is the header of the file of the draw list's picture, and all tile rows before this one. Each of these tile rows
-- is whole.
pub record WritesTileRows (list : Scene) (side : TileSide) (row : ℕ) (held held_after : Option (List ℕ)) : Type 0 where
  pub file : List ℕ
  pub picture : IsPictureFile list file
  pub within : side_of side * row < list.height
  pub written : Appends held held_after (take (bytes_before list side row) file)

-- The input's bytes, up to its end, denote a draw list, and what was written is the file of its picture.
pub record WritesPicture (left left_after held held_after : Option (List ℕ)) : Type 0 where
  pub bytes : List ℕ
  pub list : Scene
  pub input : GivesAll left left_after bytes
  pub denoted : Denotes bytes list
  pub output : WritesFile list held held_after

-- The input's bytes, up to its end, denote a draw list, and the first `count` bytes of its picture's file were written.
pub record WritesBeginning (left left_after held held_after : Option (List ℕ)) (count : ℕ) : Type 0 where
  pub bytes : List ℕ
  pub list : Scene
  pub input : GivesAll left left_after bytes
  pub denoted : Denotes bytes list
  pub output : WritesFileUpTo list count held held_after

-- The input's bytes denote a draw list, and whole tile rows of its picture's file were written. They are the first ones, behind the
-- header, and not all.
pub record WritesWholeTileRows (side : TileSide) (left left_after held held_after : Option (List ℕ)) : Type 0 where
  pub bytes : List ℕ
  pub list : Scene
  pub input : GivesAll left left_after bytes
  pub denoted : Denotes bytes list
  pub row : ℕ
  pub output : WritesTileRows list side row held held_after

-- What each error says of the input's and the output's bytes, with tiles of this size. A run never ends in an error of the pool:
-- what workers could not draw is drawn by the calling thread.
abbrev pub Explains : TileSide → Fault → Option (List ℕ) → Option (List ℕ) → Option (List ℕ) → Option (List ℕ) → Type 0
Explains side (BadList fault) left left_after held held_after = HasFault left left_after fault × Keeps held held_after
Explains side (Pool fault) left left_after held held_after = ⊥
Explains side InputFailed left left_after held held_after = Keeps held held_after
Explains side InputTooLong left left_after held held_after = Gives left left_after 67_108_865 × Keeps held held_after
Explains side (WriteFailed count) left left_after held held_after = WritesBeginning left left_after held held_after count
Explains side OutOfMemory left left_after held held_after = Keeps held held_after ⊎ WritesWholeTileRows side left left_after held held_after

-- How a run ends: the picture's file was written, or the error explains what was. It is a failed input if and only if a read
-- failed, and a failed output if and only if a write did.
pub record EndsAs {Done : Type 0} (side : TileSide) (result : Result Done Fault) (left left_after held held_after : Option (List ℕ)) (ReadHasFailed WriteHasFailed : Type 0) : Type 0 where
  pub picture : OnOk result (WritesPicture left left_after held held_after)
  pub fault : IfErr result (λ e. Explains side e left left_after held held_after)
  pub input_failed : IsErrOf result InputFailed ↔ ReadHasFailed
  pub write_failed : ((count : ℕ) × IsErrOf result (WriteFailed count)) ↔ WriteHasFailed
