-- Vertices that lie a stride apart.
use Rattle.std.proofs.Common.{◌≡◌, ◌∙◌, refl, ap, ℕ, zero, suc, ◌+◌, ◌-◌, List, length, map, drop, arith}
use Rattle.std.specs.List.{range_with_len}
use Rattle.std.proofs.lemmas.List.{drop-map}
use Rattle.std.proofs.lemmas.List.FromFn.{length-map-range_with_len}
use Rattle.batch.specs.Strides.{vertex_in, vertices_from}

drop_range : (a n k : ℕ) → drop k (range_with_len a n) ≡ range_with_len (a + k) (n - k)
drop_range a n zero =
    let e : a + 0 ≡ a = omega arith in
    let f : n - 0 ≡ n = omega arith in
    rw (e, f) refl
drop_range a zero (suc k) =
    let f : 0 - suc k ≡ 0 = omega arith in
    rw f refl
drop_range a (suc n) (suc k) =
    let e : a + suc k ≡ a + 1 + k = omega arith in
    let f : suc n - suc k ≡ n - k = omega arith in
    rw (e, f) (drop_range (a + 1) n k)

pub count_from : (stride : ℕ) (bytes : List ℕ) (begin count : ℕ) → length (vertices_from stride bytes begin count) ≡ count
count_from stride bytes begin count = length-map-range_with_len (vertex_in stride bytes) begin count

pub drop_from : (stride : ℕ) (bytes : List ℕ) (begin count k : ℕ)
    → drop k (vertices_from stride bytes begin count) ≡ vertices_from stride bytes (begin + k) (count - k)
drop_from stride bytes begin count k =
    drop-map (vertex_in stride bytes) k (range_with_len begin count) ∙ ap (map (vertex_in stride bytes)) (drop_range begin count k)
