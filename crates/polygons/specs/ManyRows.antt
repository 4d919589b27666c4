-- Several rows, or columns, of words.
use Rattle.std.specs.Prelude.{ℕ, List, [], slice_index_or}

-- Row r, by its words.
abbrev pub row_of : List (List ℕ) → ℕ → List ℕ
row_of rows r = slice_index_or rows r []
