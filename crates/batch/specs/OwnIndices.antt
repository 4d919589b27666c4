-- The indices of draws, however a caller has them.
use Rattle.std.specs.Prelude.{ℕ, List, length, take, drop, Option, Some, None}
use Rattle.std.specs.List.{range_with_len}
use Rattle.batch.specs.declared.draw.BatchDraw.{BatchDraw}
use Rattle.batch.specs.declared.indices.BatchIndices.{BatchIndices}
use Rattle.batch.specs.declared.indices.BatchIndices.TheVariants.{Words, Halves, InOrder}

-- The indices of a batch, if it has any, whichever bits they have.
abbrev pub indices_given : BatchIndices → Option (List ℕ)
indices_given (Words indices) = Some indices.now
indices_given (Halves indices) = Some indices.now
indices_given InOrder = None

-- How many indices there are.
abbrev pub count_of_indices : Option (List ℕ) → ℕ
count_of_indices (Some indices) = length indices
count_of_indices None = 0

-- The indices behind the first ones.
abbrev pub indices_behind : ℕ → Option (List ℕ) → Option (List ℕ)
indices_behind count (Some indices) = Some (drop count indices)
indices_behind count None = None

-- The indices of a draw: the first ones, or without any its vertices in their order.
abbrev pub own_indices : BatchDraw → Option (List ℕ) → List ℕ
own_indices d (Some indices) = take d.indices indices
own_indices d None = range_with_len 0 d.vertices
