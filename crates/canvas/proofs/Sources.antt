-- Triangles that are made one by one.
use Rattle.std.proofs.Common.{◌≡◌, ◌∙◌, refl, sym, ap, zero, suc, add-zero, ℕ, ◌+◌, ◌<◌, List, [], ◌∷◌, ◌++◌, map, length, take, get_or, slice_get, slice_set, Some, arith}
use Rattle.std.proofs.lemmas.List.{get_or-map, length-map, take_more, take_more_set}
use Rattle.std.proofs.lemmas.Option.{get_or_from_slice_get, slice_get-get_or, slice_get_within}
use Rattle.shade.specs.declared.placed.Placed.{Placed}
use Rattle.canvas.specs.Ids.{with_id, with_ids}

pub length-with_ids : (ts : List Placed) (n : ℕ) → length (with_ids ts n) ≡ length ts
length-with_ids [] n = refl
length-with_ids (t ∷ ts) n = ap suc (length-with_ids ts (n + 1))

with_ids_of : (ts : List Placed) (n k : ℕ) (t : Placed) → k < length ts → t ≡ get_or ts k t → slice_get (with_ids ts n) k ≡ Some (with_id t (n + k))
with_ids_of [] n k t less is = absurd (omega (arith, less))
with_ids_of (u ∷ ts) n zero t less is = rw (add-zero, is) refl
with_ids_of (u ∷ ts) n (suc k) t less is =
    let later = with_ids_of ts (n + 1) k t (omega (arith, less)) is in
    let sum : (n + 1) + k ≡ n + suc k = omega arith in
    later ∙ ap (λ m. Some (with_id t m)) sum

pub with_ids_at : (ts : List Placed) (n k : ℕ) (t : Placed) → slice_get ts k ≡ Some t → slice_get (with_ids ts n) k ≡ Some (with_id t (n + k))
with_ids_at ts n k t is = with_ids_of ts n k t (slice_get_within ts k t is) (sym (get_or_from_slice_get ts k t t is))

-- ---- one more in an array
pub one_taken : (ts chunk : List Placed) (k : ℕ) (t : Placed) → slice_get ts k ≡ Some t → k < length chunk → take k chunk ≡ take k ts → take (k + 1) (slice_set chunk k t) ≡ take (k + 1) ts
one_taken ts chunk k t found room before =
    let within = slice_get_within ts k t found in
    take_more_set chunk k t room ∙ ap (λ us. us ++ (t ∷ [])) before ∙ ap (λ x. take k ts ++ (x ∷ [])) (sym (get_or_from_slice_get ts k t t found)) ∙ sym (take_more ts k t within)

pub mapped_or : {X : Type 0} (f : X → Placed) (xs : List X) (k : ℕ) (d : X) → k < length xs → slice_get (map f xs) k ≡ Some (f (get_or xs k d))
mapped_or f xs k d less = slice_get-get_or (map f xs) k (f d) (omega (arith, less, length-map xs f)) ∙ ap Some (get_or-map f xs k d (f d) less)

pub mapped_at : (f : Placed → Placed) (ts : List Placed) (k : ℕ) (t : Placed) → slice_get ts k ≡ Some t → slice_get (map f ts) k ≡ Some (f t)
mapped_at f ts k t is = mapped_or f ts k t (slice_get_within ts k t is) ∙ ap (λ u. Some (f u)) (get_or_from_slice_get ts k t t is)
