-- The indices of triangles and of quads by their places.
use Rattle.std.proofs.Common.{◌≡◌, ◌∙◌, sym, ℕ, ℤ, zero, suc, ◌+◌, ◌*◌, ◌/◌, ◌%◌, ◌<◌, ◌≤◌, ◌⊎◌, inl, inr, List, [], ◌∷◌, length, take, drop, get_or, slice_index, refl, ap, arith}
use Rattle.std.specs.List.{All}
use Rattle.std.specs.Simd.{first_chunks}
use Rattle.std.proofs.lemmas.List.{drop-drop, drop_more}
use Rattle.std.proofs.lemmas.List.Elements.{All-nil, All-cons, All-get_or}
use Rattle.draw_list.specs.Primitives.{triangles_of, count_of_triangles, quad_triangles}
use Rattle.draw_list.proofs.Triangulated.{quad_triangle_at, strip_triangle_at}
use Rattle.batch.specs.declared.vertex.BatchVertex.{BatchVertex}
use Rattle.batch.specs.Listed.{quads_of, primitives_listed}
use Rattle.batch.specs.Places.{places_of}
use Rattle.batch.specs.Seen.{vertex_at, CanBeSeen, NameSeenVertices}

pub count_of_chunks : {X : Type 0} (n k : ℕ) (xs : List X) → length (first_chunks n k xs) ≡ k
count_of_chunks n zero xs = refl
count_of_chunks n (suc k) xs = ap suc (count_of_chunks n k (drop n xs))

-- ---- the elements of a chunk
chunk_of_three : (k : ℕ) (xs : List ℕ) (m : ℕ) → m < k → get_or (first_chunks 3 k xs) m [] ≡ take 3 (drop (3 * m) xs)
chunk_of_three zero xs m inside = absurd (omega (arith, inside))
chunk_of_three (suc k) xs zero inside = refl
chunk_of_three (suc k) xs (suc m) inside =
    let place : 3 * suc m ≡ 3 + 3 * m = omega arith in
    chunk_of_three k (drop 3 xs) m (omega (arith, inside)) ∙ ap (take 3) (drop-drop (3 * m) 3 xs ∙ sym (ap (λ n. drop n xs) place))

chunk_of_four : (k : ℕ) (xs : List ℕ) (m : ℕ) → m < k → get_or (first_chunks 4 k xs) m [] ≡ take 4 (drop (4 * m) xs)
chunk_of_four zero xs m inside = absurd (omega (arith, inside))
chunk_of_four (suc k) xs zero inside = refl
chunk_of_four (suc k) xs (suc m) inside =
    let place : 4 * suc m ≡ 4 + 4 * m = omega arith in
    chunk_of_four k (drop 4 xs) m (omega (arith, inside)) ∙ ap (take 4) (drop-drop (4 * m) 4 xs ∙ sym (ap (λ n. drop n xs) place))

take_three : (xs : List ℕ) (i : ℕ) → i + 2 < length xs → take 3 (drop i xs) ≡ slice_index xs i ∷ slice_index xs (i + 1) ∷ slice_index xs (i + 2) ∷ []
take_three xs i inside =
    let a = drop_more xs i 0 (omega (arith, inside)) in
    let b = drop_more xs (i + 1) 0 (omega (arith, inside)) in
    let c = drop_more xs (i + 2) 0 (omega (arith, inside)) in
    let two : i + 1 + 1 ≡ i + 2 = omega arith in
    ap (take 3) (a ∙ ap (λ rest. get_or xs i 0 ∷ rest) (b ∙ ap (λ rest. get_or xs (i + 1) 0 ∷ rest) (ap (λ n. drop n xs) two ∙ c)))

take_four : (xs : List ℕ) (i : ℕ) → i + 3 < length xs → take 4 (drop i xs) ≡ slice_index xs i ∷ slice_index xs (i + 1) ∷ slice_index xs (i + 2) ∷ slice_index xs (i + 3) ∷ []
take_four xs i inside =
    let a = drop_more xs i 0 (omega (arith, inside)) in
    let b = take_three xs (i + 1) (omega (arith, inside)) in
    let two : i + 1 + 1 ≡ i + 2 = omega arith in
    let three : i + 1 + 2 ≡ i + 3 = omega arith in
    ap (take 4) a ∙ ap (λ rest. slice_index xs i ∷ rest) (b ∙ ap (λ n. slice_index xs (i + 1) ∷ slice_index xs n ∷ slice_index xs (i + 1 + 2) ∷ []) two ∙ ap (λ n. slice_index xs (i + 1) ∷ slice_index xs (i + 2) ∷ slice_index xs n ∷ []) three)

-- the quad of a number
pub quad_at : (xs : List ℕ) (m : ℕ) → m < length xs / 4
    → get_or (quads_of xs) m [] ≡ slice_index xs (4 * m) ∷ slice_index xs (4 * m + 1) ∷ slice_index xs (4 * m + 2) ∷ slice_index xs (4 * m + 3) ∷ []
quad_at xs m inside = chunk_of_four (length xs / 4) xs m inside ∙ take_four xs (4 * m) (omega (arith, inside))

-- ---- the indices of the triangle of a number, by its places
abbrev at : List ℕ → List ℕ → List ℕ
at xs places = slice_index xs (slice_index places 0) ∷ slice_index xs (slice_index places 1) ∷ slice_index xs (slice_index places 2) ∷ []

one_of_two : (k : ℕ) → k < 2 → (k ≡ 0) ⊎ (k ≡ 1)
one_of_two zero less = inl refl
one_of_two (suc zero) less = inr refl
one_of_two (suc (suc k)) less = absurd (omega (arith, less))

even_or_odd : (m : ℕ) → (m % 2 ≡ 0) ⊎ (m % 2 ≡ 1)
even_or_odd m = one_of_two (m % 2) (omega arith)

of_quad : (xs : List ℕ) (m : ℕ) → m < 2 * (length xs / 4) → (m % 2 ≡ 0) ⊎ (m % 2 ≡ 1) → get_or (quad_triangles (get_or (quads_of xs) (m / 2) [])) (m % 2) [] ≡ at xs (places_of 2 m)
of_quad xs m inside (inl even) = let quad = quad_at xs (m / 2) (omega (arith, inside)) in let place : 4 * (m / 2) ≡ m / 2 * 4 = omega arith in rw (even, quad, place) refl
of_quad xs m inside (inr odd) = let quad = quad_at xs (m / 2) (omega (arith, inside)) in let place : 4 * (m / 2) ≡ m / 2 * 4 = omega arith in rw (odd, quad, place) refl

pub triangle_at : (topology : ℕ) (xs : List ℕ) (m : ℕ) → topology ≤ 2 → m < count_of_triangles (primitives_listed topology xs)
    → get_or (triangles_of (primitives_listed topology xs)) m [] ≡ at xs (places_of topology m)
triangle_at zero xs m known inside =
    let below : m < length xs / 3 = omega (arith, inside, count_of_chunks 3 (length xs / 3) xs) in
    chunk_of_three (length xs / 3) xs m below ∙ take_three xs (3 * m) (omega (arith, below))
triangle_at (suc zero) xs m known inside = strip_triangle_at xs m [] inside
triangle_at (suc (suc zero)) xs m known inside =
    let below : m < 2 * (length xs / 4) = omega (arith, inside, count_of_chunks 4 (length xs / 4) xs) in
    quad_triangle_at (quads_of xs) m [] inside ∙ of_quad xs m below (even_or_odd m)
triangle_at (suc (suc (suc topology))) xs m known inside = absurd (omega (arith, known))

-- ---- each place is one of the indices
pub record AreInside (places : List ℕ) (n : ℕ) : Type 0 where
  pub first : slice_index places 0 < n
  pub second : slice_index places 1 < n
  pub third : slice_index places 2 < n

inside_quad : (n m : ℕ) → m < 2 * (n / 4) → (m % 2 ≡ 0) ⊎ (m % 2 ≡ 1) → AreInside (places_of 2 m) n
inside_quad n m inside (inl even) = rw even (record { first = omega (arith, inside); second = omega (arith, inside); third = omega (arith, inside) })
inside_quad n m inside (inr odd) = rw odd (record { first = omega (arith, inside); second = omega (arith, inside); third = omega (arith, inside) })

pub are_inside : (topology : ℕ) (xs : List ℕ) (m : ℕ) → topology ≤ 2 → m < count_of_triangles (primitives_listed topology xs) → AreInside (places_of topology m) (length xs)
are_inside zero xs m known inside =
    let below : m < length xs / 3 = omega (arith, inside, count_of_chunks 3 (length xs / 3) xs) in
    record { first = omega (arith, below); second = omega (arith, below); third = omega (arith, below) }
are_inside (suc zero) xs m known inside = record { first = omega (arith, inside); second = omega (arith, inside); third = omega (arith, inside) }
are_inside (suc (suc zero)) xs m known inside =
    inside_quad (length xs) m (omega (arith, inside, count_of_chunks 4 (length xs / 4) xs)) (even_or_odd m)
are_inside (suc (suc (suc topology))) xs m known inside = absurd (omega (arith, known))

-- there are fewer triangles than indices
pub fewer_triangles : (topology : ℕ) (xs : List ℕ) (m : ℕ) → topology ≤ 2 → m < count_of_triangles (primitives_listed topology xs) → m < length xs
fewer_triangles zero xs m known inside = omega (arith, inside, count_of_chunks 3 (length xs / 3) xs)
fewer_triangles (suc zero) xs m known inside = omega (arith, inside)
fewer_triangles (suc (suc zero)) xs m known inside = omega (arith, inside, count_of_chunks 4 (length xs / 4) xs)
fewer_triangles (suc (suc (suc topology))) xs m known inside = absurd (omega (arith, known))

-- what holds of each index of a draw holds of three of them
three : (P : ℕ → Type 0) (xs : List ℕ) (a b c : ℕ) → a < length xs → b < length xs → c < length xs → All P xs → All P (slice_index xs a ∷ slice_index xs b ∷ slice_index xs c ∷ [])
three P xs a b c first second third all =
    All-cons P (slice_index xs a) (slice_index xs b ∷ slice_index xs c ∷ []) (All-get_or P xs a 0 first all)
    (All-cons P (slice_index xs b) (slice_index xs c ∷ []) (All-get_or P xs b 0 second all) (All-cons P (slice_index xs c) [] (All-get_or P xs c 0 third all) (All-nil P)))

pub named_three : (x y : ℤ) (vertices : List BatchVertex) (xs : List ℕ) (a b c : ℕ) → a < length xs → b < length xs → c < length xs
    → NameSeenVertices x y vertices xs → NameSeenVertices x y vertices (slice_index xs a ∷ slice_index xs b ∷ slice_index xs c ∷ [])
named_three x y vertices xs a b c first second third all = record {
  named = three (λ i. i < length vertices) xs a b c first second third all.named;
  seen = three (λ i. CanBeSeen x y (vertex_at vertices i)) xs a b c first second third all.seen;
}
