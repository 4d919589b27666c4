-- Rows that are changed one after the other.
use Rattle.std.proofs.Common.{◌≡◌, ◌≢◌, refl, ℕ, ◌<◌, List, length, set, get_or-set_same, get_or-set_other}
use Rattle.polygons.specs.ManyRows.{row_of}

pub row-here : (rows : List (List ℕ)) (i : ℕ) (row : List ℕ) → i < length rows → row_of (set rows i row) i ≡ row
row-here rows i row h = rw get_or-set_same refl

pub row-other : (rows : List (List ℕ)) (i r : ℕ) (row : List ℕ) → r ≢ i → row_of (set rows i row) r ≡ row_of rows r
row-other rows i r row other = rw get_or-set_other refl
