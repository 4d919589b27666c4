-- How a run ends that comes to a fault in its picture.
use Rattle.std.proofs.Common.{rules, ◌↔◌, ℕ, inl, inr, List, Option, None, Some, Ok, Err, IsErrOf, ap, refl}
use Rattle.std.proofs.lemmas.Option.{none-some, same_Some}
use Rattle.std.specs.Result.{result_err}
use Rattle.grid.specs.declared.pixels.TileSide.{TileSide}
use Rattle.list_json.specs.Denotes.{Denotes}
use Rattle.draw_list.specs.Scene.{Scene}
use Rattle.engine.specs.Picture.{ExplainsPicture, fault_of}
use Rattle.engine.specs.Input.{GivesAll}
use Rattle.engine.specs.Runs.{EndsAs}
use Rattle.engine.specs.declared.fault.Fault.{Fault}
use Rattle.engine.specs.declared.fault.Fault.TheVariants.{InputFailed}
use Rattle.engine.specs.declared.picture.PictureFault.{PictureFault}
use Rattle.engine.specs.declared.picture.PictureFault.TheVariants.{NotBegun, OutOfMemory, WriteFailed}

-- a failed write's count, of none, one or another fault
abbrev written_of : PictureFault → Option ℕ
written_of NotBegun = None
written_of (OutOfMemory row) = None
written_of (WriteFailed count) = Some count

-- what was read whole did not fail
no_read : {B : Type 0} (R : Type 0) (b : B) → (IsErrOf {T = B} {E = Fault} (Ok b) InputFailed ↔ R) → R → ⊥
no_read R b read rose = none-some InputFailed (ap result_err (read.1 rose))

module _ {Done T B : Type 0} (side : TileSide) (left left' held held' : Option (List ℕ)) (R W : Type 0) (b : B) (bytes : List ℕ) (list : Scene) (given : GivesAll left left' bytes) (denoted : Denotes bytes list) (read : IsErrOf {T = B} {E = Fault} (Ok b) InputFailed ↔ R) where
  pub ends_by_picture : (e : PictureFault) → ExplainsPicture list side e held held' → (((count : ℕ) × IsErrOf {T = T} {E = PictureFault} (Err e) (WriteFailed count)) ↔ W) → EndsAs {Done = Done} side (Err (fault_of e)) left left' held held' R W
  ends_by_picture NotBegun explained write =
      let no_write : W → ⊥ = λ rose. let failed = write.1 rose in none-some failed.0 (ap written_of (same_Some _ _ (ap result_err failed.1))) in
      record { picture = tt; fault = inl explained; input_failed = (search rules, λ rose. absurd (no_read R b read rose)); write_failed = (search rules, λ rose. absurd (no_write rose)) }
  ends_by_picture (OutOfMemory row) explained write =
      let no_write : W → ⊥ = λ rose. let failed = write.1 rose in none-some failed.0 (ap written_of (same_Some _ _ (ap result_err failed.1))) in
      record {
        picture = tt;
        fault = inr (record { bytes = bytes; list = list; input = given; denoted = denoted; row = row; output = explained });
        input_failed = (search rules, λ rose. absurd (no_read R b read rose));
        write_failed = (search rules, λ rose. absurd (no_write rose));
      }
  ends_by_picture (WriteFailed count) explained write =
      record {
        picture = tt;
        fault = record { bytes = bytes; list = list; input = given; denoted = denoted; output = explained };
        input_failed = (search rules, λ rose. absurd (no_read R b read rose));
        write_failed = (λ failed. write.0 (count, refl), λ rose. (count, refl));
      }
