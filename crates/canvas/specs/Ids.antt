-- Triangles that are drawn in their ids in place of their colours, so that each sample keeps the id of the last one that
-- passed there (a visibility buffer; Burns and Hunt 2013).
use Rattle.std.specs.Prelude.{◌≡◌, ◌⊎◌, ℕ, ◌+◌, ◌/◌, ◌%◌, true, List, [], ◌∷◌, Option, None, Some}
use Rattle.grid.specs.Samples.{sample_position}
use Rattle.grid.specs.declared.sample_count.SampleCount.{SampleCount}
use Rattle.shade.specs.declared.sample.CanvasSample.{CanvasSample}
use Rattle.shade.specs.declared.placed.Placed.{Placed}
use Rattle.shade.specs.declared.state.State.{State}
use Rattle.shade.specs.Presets.{none_blend}
use Rattle.shade.specs.Depth.{Passes}
use Rattle.shade.specs.Placed.{IsInterpolated, Meets}
use Rattle.shade.specs.Canvas.{CanvasDraws}

-- An id as red, green, blue and alpha: red is its lowest byte, and alpha is opaque.
abbrev pub colour_of_id : ℕ → List ℕ
colour_of_id n = n % 256 ∷ n / 256 % 256 ∷ n / 65536 % 256 ∷ 255 ∷ []

-- The state in which a colour replaces what is stored, in red, green and blue, and in alpha if the draw writes it.
abbrev pub replacing : State → State
replacing state = record state { merge = record state.merge { write = true ∷ true ∷ true ∷ []; blend = record none_blend { write_alpha = state.merge.blend.write_alpha } } }

-- The triangle in the colour of its id, which replaces what is stored.
abbrev pub with_id : Placed → ℕ → Placed
with_id t n = record t { rgba = colour_of_id n ∷ colour_of_id n ∷ colour_of_id n ∷ []; state = replacing t.state }

-- The triangles in the colours of their ids, which are counted from n on.
abbrev pub with_ids : List Placed → ℕ → List Placed
with_ids [] n = []
with_ids (t ∷ ts) n = with_id t n ∷ with_ids ts (n + 1)

-- The triangle passes at sample s of pixel (i, j), at which `stored` is stored. It meets the sample, and its depth passes the test.
pub record PassesAt (t : Placed) (count : SampleCount) (i j s : ℕ) (stored : CanvasSample) : Type 0 where
  pub meets : Meets t count i j s
  pub z : ℕ
  pub depth : IsInterpolated t (sample_position i j s count) t.z z
  pub passes : Passes t.state.merge.test z stored.z

-- `last` is the id of the last triangle that passed at the sample, or `before` if none did. The triangles are counted from n on and
-- drawn one after another, in their own colours.
abbrev pub IsLast : List Placed → ℕ → SampleCount → ℕ → ℕ → ℕ → CanvasSample → Option ℕ → Option ℕ → Type 0
IsLast [] n count i j s stored before last = last ≡ before
IsLast (t ∷ ts) n count i j s stored before last =
    (next : CanvasSample) × CanvasDraws t count i j s stored next
    × ((PassesAt t count i j s stored × IsLast ts (n + 1) count i j s next (Some n) last) ⊎ ((¬ PassesAt t count i j s stored) × IsLast ts (n + 1) count i j s next before last))

-- The sample has the id as its colour: red is its lowest byte.
pub record HasColourOfId (n : ℕ) (sample : CanvasSample) : Type 0 where
  pub red : sample.r ≡ n % 256
  pub green : sample.g ≡ n / 256 % 256
  pub blue : sample.b ≡ n / 65536 % 256

-- The sample has the colour of `start`.
pub record HasColourOf (start sample : CanvasSample) : Type 0 where
  pub red : sample.r ≡ start.r
  pub green : sample.g ≡ start.g
  pub blue : sample.b ≡ start.b

-- The sample has the id as its colour, or the colour of `start` if there is no id.
abbrev pub HasId : CanvasSample → CanvasSample → Option ℕ → Type 0
HasId start sample None = HasColourOf start sample
HasId start sample (Some n) = HasColourOfId n sample
