-- From the first fault of a value to the clauses of the reader.
use Rattle.std.proofs.Common.{◌≡◌, ◌≢◌, ◌≤◌, ℕ, List, [], ◌∷◌, length, Bool, true, false, cond, Option, Some, None, Result, Ok, Err, IfOk, IfErr, MatchResult, refl, ap, ◌∙◌}
use Rattle.serde_json.specs.Data.{Data}
use Rattle.draw_list.specs.declared.fault.ReadKind.TheVariants.{OutOfMemory}
use Rattle.draw_list.specs.declared.fault.ReadFault.{ReadFault}
use Rattle.list_json.specs.Json.{json_of}
use Rattle.draw_list.specs.Scene.{Scene}
use Rattle.checks.specs.FirstFault.{Check, first_fault, IsFirstFault}
use Rattle.checking_reader.specs.Answer.{ReadsAll}
use Rattle.list_json.specs.Checks.{all_checks, value_checks}
use Rattle.list_json.specs.Denotes.{IsDrawList, Denotes}
use Rattle.list_json.proofs.Passes.{listing_passes}
use Rattle.list_json.proofs.OneValue.{same_some}
use Rattle.draw_list.proofs.FaultKinds.{no_other}
use Rattle.list_json.proofs.OneList.{denotes-unique}

is_first-cons : {T : Type 0} (p : Check T) (ps : List (Check T)) (fault : T) (b : Bool) → p.fails ≡ b → (first_fault ps ≡ Some fault → IsFirstFault ps fault)
    → cond b (Some p.reported) (first_fault ps) ≡ Some fault → IsFirstFault (p ∷ ps) fault
is_first-cons p ps fault true fails later is = record { before = []; here = p; after = ps; order = refl; passed = tt; fails = fails; reported = cc }
is_first-cons p ps fault false fails later is =
    let rest = later is in
    record { before = p ∷ rest.before; here = rest.here; after = rest.after; order = ap (λ qs. p ∷ qs) rest.order; passed = (fails, rest.passed); fails = rest.fails; reported = rest.reported }

pub is_first : {T : Type 0} (ps : List (Check T)) (fault : T) → first_fault ps ≡ Some fault → IsFirstFault ps fault
is_first [] fault is = absurd (cc)
is_first (p ∷ ps) fault is = is_first-cons p ps fault p.fails refl (is_first ps fault) is

some_none : {A : Type 0} (o : Option A) (a : A) → o ≡ Some a → o ≡ None → ⊥
some_none None a e f = cc
some_none (Some b) a e f = cc

module _ (bytes : List ℕ) (d : Data) (json : json_of bytes ≡ Some d) where
  pub read_ok : (r : Result Scene ReadFault) → length bytes ≤ 67108864 → ReadsAll (value_checks d) (IsDrawList d) r → IfOk r (Denotes bytes)
  read_ok (Ok l) short h = record { size = short; value = d; json = json; is = h.1 }
  read_ok (Err e) short h = tt

  pub read_only : (r : Result Scene ReadFault) → ReadsAll (value_checks d) (IsDrawList d) r → (l : Scene) → Denotes bytes l → MatchResult r (λ found. found ≡ l) (λ e. e.kind ≡ OutOfMemory)
  read_only (Ok found) h l denotes = denotes-unique bytes found l (read_ok (Ok found) denotes.size h) denotes
  read_only (Err e) h l denotes =
      let same : d ≡ denotes.value = same_some (json_of bytes) d denotes.value json denotes.json in
      let none : first_fault (value_checks d) ≡ None = ap (λ v. first_fault (value_checks v)) same ∙ listing_passes denotes.value denotes.is.listing denotes.is.is in
      no_other e.kind (λ other. some_none (first_fault (value_checks d)) e (h other) none)

  pub read_first : (r : Result Scene ReadFault) → ReadsAll (value_checks d) (IsDrawList d) r → IfErr r (λ e. e.kind ≢ OutOfMemory → IsFirstFault (all_checks (json_of bytes)) e)
  read_first (Ok found) h = tt
  read_first (Err e) h = λ other. is_first (all_checks (json_of bytes)) e (ap (λ v. first_fault (all_checks v)) json ∙ h other)

pub not_denoted : (bytes : List ℕ) → json_of bytes ≡ None → (l : Scene) → Denotes bytes l → ⊥
not_denoted bytes none l denotes = some_none (json_of bytes) denotes.value denotes.json none
