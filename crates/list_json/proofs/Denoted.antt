-- Bytes that denote a draw list, and the checks.
use Rattle.std.proofs.Common.{List, ℕ, refl}
use Rattle.list_json.specs.Json.{json_of}
use Rattle.draw_list.specs.Scene.{Scene}
use Rattle.checks.specs.FirstFault.{AllPass}
use Rattle.list_json.specs.Checks.{all_checks, value_checks}
use Rattle.list_json.specs.Denotes.{Denotes}
use Rattle.checks.proofs.Faults.{all_pass}
use Rattle.list_json.proofs.Passes.{listing_passes}

-- bytes that denote a list fail no check
pub denoted_passes : (bytes : List ℕ) (l : Scene) → Denotes bytes l → AllPass (all_checks (json_of bytes))
denoted_passes bytes l denotes = rw denotes.json (refl, all_pass (value_checks denotes.value) (listing_passes denotes.value denotes.is.listing denotes.is.is))
