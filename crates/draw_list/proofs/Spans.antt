-- The rows of triangles, one after another.
use Rattle.std.proofs.Common.{◌≡◌, refl, sym, ap, ◌∙◌, ℕ, zero, suc, ◌+◌, ◌<◌, List, [], ◌∷◌, ◌++◌, length, take, slice_get, get_or, IfSome, append_assoc}
use Rattle.std.specs.List.{flat_map}
use Rattle.std.proofs.lemmas.List.{flat_map_more, take_more}
use Rattle.draw_list.specs.Listing.{DrawListing, placed_all}
use Rattle.shade.specs.declared.placed.Placed.{Placed}
use Rattle.draw_list.specs.declared.rows.RowSpan.{RowSpan}
use Rattle.draw_list.specs.Rows.{IsRowSpan, AreRows}

pub rows-append : (ts us : List Placed) (xs ys : List RowSpan) → AreRows ts xs → AreRows us ys → AreRows (ts ++ us) (xs ++ ys)
rows-append [] us [] ys h k = k
rows-append [] us (x ∷ xs) ys h k = absurd h
rows-append (t ∷ ts) us [] ys h k = absurd h
rows-append (t ∷ ts) us (x ∷ xs) ys h k = (h.0, rows-append ts us xs ys h.1 k)

pub length-rows : (ts : List Placed) (xs : List RowSpan) → AreRows ts xs → length xs ≡ length ts
length-rows [] [] h = refl
length-rows [] (x ∷ xs) h = absurd h
length-rows (t ∷ ts) [] h = absurd h
length-rows (t ∷ ts) (x ∷ xs) h = ap suc (length-rows ts xs h.1)

-- the rows of the triangle of a number
pub rows_at : (ts : List Placed) (xs : List RowSpan) (k : ℕ) (d : RowSpan) → AreRows ts xs → IfSome (slice_get ts k) (λ t. IsRowSpan t.tri (get_or xs k d))
rows_at [] xs k d h = tt
rows_at (t ∷ ts) [] k d h = absurd h
rows_at (t ∷ ts) (x ∷ xs) zero d h = h.0
rows_at (t ∷ ts) (x ∷ xs) (suc k) d h = rows_at ts xs k d h.1

-- the rows of one more triangle
pub rows_more : (before ts : List Placed) (xs : List RowSpan) (n : ℕ) (t : Placed) (x : RowSpan) → n < length ts → get_or ts n t ≡ t → IsRowSpan t.tri x → AreRows (before ++ take n ts) xs → AreRows (before ++ take (n + 1) ts) (xs ++ x ∷ [])
rows_more before ts xs n t x h e here earlier =
    rw (take_more ts n t h, e, ← append_assoc) (rows-append (before ++ take n ts) (t ∷ []) xs (x ∷ []) earlier (here, tt))

-- the triangles of one more draw
pub placed_more : (ds : List DrawListing) (n : ℕ) (d : DrawListing) → n < length ds → get_or ds n d ≡ d → flat_map placed_all (take n ds) ++ placed_all d ≡ flat_map placed_all (take (n + 1) ds)
placed_more ds n d h e =
    flat_map_more placed_all [] (take n ds) d ∙ ap (flat_map placed_all) (sym (take_more ds n d h ∙ ap (λ x. take n ds ++ x ∷ []) e))
