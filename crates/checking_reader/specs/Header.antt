-- The top object, with its draws still as JSON values.
use Rattle.std.specs.Prelude.{◌≡◌, ◌≤◌, length, false, codes, IsSome}
use Rattle.serde_json.specs.Data.{Data}
use Rattle.serde_json.specs.Find.{get, as_object}
use Rattle.serde_json.specs.View.{items_view}
use Rattle.list_json.specs.Json.{array_of, elements, has_other_key}
use Rattle.list_json.specs.Keys.{top_keys}
use Rattle.list_json.specs.Beginning.{IsBeginning}
use Rattle.list_json.specs.Denotes.{IsSize}
use Rattle.checking_reader.specs.declared.header.Header.{Header}

-- The value is a top object with this size, these samples, clear values and output, and these draws as JSON values.
pub record IsHeader (value : Data) (h : Header) : Type 0 where
  pub object : IsSome (as_object value)
  pub keys : has_other_key top_keys (as_object value) ≡ false
  pub width : IsSize (get (codes "width") value) h.target.width
  pub height : IsSize (get (codes "height") value) h.target.height
  pub beginning : IsBeginning value h.target.count h.target.clear h.target.output
  pub array : IsSome (array_of (get (codes "draws") value))
  pub draws : items_view h.draws.now ≡ elements (get (codes "draws") value)
  pub at_most : length h.draws.now ≤ 1024
