-- Triangles that are drawn in their colours, or in the colours of ids that are counted from the first one on.
use Rattle.std.specs.Prelude.{ℕ, ◌+◌, ◌≤◌, ⊤, List, Option, None, Some}
use Rattle.shade.specs.declared.placed.Placed.{Placed}
use Rattle.canvas.specs.Ids.{with_ids}

-- The triangles as they are drawn.
abbrev pub drawn_as : Option ℕ → List Placed → List Placed
drawn_as None ts = ts
drawn_as (Some id) ts = with_ids ts id

-- There are ids of 24 bits for this many triangles, where they need any.
abbrev pub HasIds : Option ℕ → ℕ → Type 0
HasIds None count = ⊤
HasIds (Some id) count = id + count ≤ 16777216

-- The first id of the triangles that follow this many.
abbrev pub ids_after : Option ℕ → ℕ → Option ℕ
ids_after None count = None
ids_after (Some id) count = Some (id + count)
