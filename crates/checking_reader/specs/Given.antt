-- The list of primitives that a draw has, still as a JSON value.
use Rattle.std.specs.Prelude.{◌≡◌, codes, Option, Some, None}
use Rattle.serde_json.specs.Data.{Data}
use Rattle.serde_json.specs.Find.{get}
use Rattle.serde_json.specs.View.{view}
use Rattle.checking_reader.specs.declared.primitives.PrimitiveArray.{PrimitiveArray}
use Rattle.checking_reader.specs.declared.primitives.PrimitiveArray.TheVariants.{Triangles, Strip, Quads}

-- The value of `triangles`, if that is the list of primitives.
abbrev pub given_triangles : PrimitiveArray → Option Data
given_triangles (Triangles array) = Some (view array.now)
given_triangles (Strip array) = None
given_triangles (Quads array) = None

-- The value of `strip`, if that is the list of primitives.
abbrev pub given_strip : PrimitiveArray → Option Data
given_strip (Triangles array) = None
given_strip (Strip array) = Some (view array.now)
given_strip (Quads array) = None

-- The value of `quads`, if that is the list of primitives.
abbrev pub given_quads : PrimitiveArray → Option Data
given_quads (Triangles array) = None
given_quads (Strip array) = None
given_quads (Quads array) = Some (view array.now)

-- The draw has this list of primitives, and no other.
pub record IsGiven (value : Data) (given : PrimitiveArray) : Type 0 where
  pub triangles : get (codes "triangles") value ≡ given_triangles given
  pub strip : get (codes "strip") value ≡ given_strip given
  pub quads : get (codes "quads") value ≡ given_quads given
