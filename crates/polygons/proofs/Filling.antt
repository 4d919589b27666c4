-- Words that are filled one after another, and columns of words.
use Rattle.std.proofs.Common.{◌≡◌, ◌≢◌, inl, inr, refl, sym, subst, ap, ◌∙◌, arith, ℕ, zero, suc, ◌+◌, ◌*◌, ◌/◌, ◌%◌, ◌<◌, ◌≤◌, Bool, true, eqb, ◌&&◌, List, [], ◌∷◌, length, set, slice_index, get_or-set_same, get_or-set_other}
use Rattle.std.proofs.lemmas.Bool.{cases_eq, cases_lt, eqb-true}
use Rattle.std.specs.Int.{bit_at}
use Rattle.polygons.specs.Rows.{parity}
use Rattle.polygons.specs.ManyRows.{row_of}
use Rattle.polygons.specs.Cells.{word_of, flag_of}
use Rattle.polygons.specs.Spreading.{IsFilled, IsNextCarry}
use Rattle.polygons.proofs.Parity.{parity-append, parity-same}
use Rattle.polygons.proofs.ByteRows.{both}
use Rattle.polygons.proofs.Plotted.{before_of}

-- ---- one element more
pub one_more_element : (R : ℕ → ℕ → Type 0) (xs : List ℕ) (n x : ℕ) → n < length xs → ((i : ℕ) → i < n → R i (slice_index xs i)) → R n x → (i : ℕ) → i < n + 1 → R i (slice_index (set xs n x) i)
one_more_element R xs n x h done here i l = elim (cases_eq i n) [
  | inl e ↦
      let same : slice_index (set xs n x) n ≡ x = rw get_or-set_same refl in
      subst (λ (j : ℕ). R j (slice_index (set xs n x) j)) (sym e) (subst (R n) (sym same) here)
  | inr e ↦
      let apart : i ≢ n = e in
      let same : slice_index (set xs n x) i ≡ slice_index xs i = rw get_or-set_other refl in
      subst (R i) (sym same) (done i (before_of i n l e))
]

pub element-other : (xs : List ℕ) (n i x : ℕ) → n + 1 ≤ i → slice_index (set xs n x) i ≡ slice_index xs i
element-other xs n i x h = let apart : i ≢ n = λ e. let f : n < i = omega arith in let g = e in omega arith in rw get_or-set_other refl

abbrev pub are_zeros : List ℕ → Bool
are_zeros [] = true
are_zeros (x ∷ xs) = eqb x 0 && are_zeros xs

pub zero_of : (xs : List ℕ) → are_zeros xs ≡ true → (i : ℕ) → slice_index xs i ≡ 0
zero_of [] h i = refl
zero_of (x ∷ xs) h zero = eqb-true x 0 (both (eqb x 0) (are_zeros xs) h).0
zero_of (x ∷ xs) h (suc i) = zero_of xs (both (eqb x 0) (are_zeros xs) h).1 i

pub changed_or_not : (P : ℕ → Type 0) (xs : List ℕ) (n i x : ℕ) → n < length xs → P x → P (slice_index xs i) → P (slice_index (set xs n x) i)
changed_or_not P xs n i x h new old = elim (cases_eq i n) [
  | inl e ↦
      let same : slice_index (set xs n x) n ≡ x = rw get_or-set_same refl in
      subst (λ (j : ℕ). P (slice_index (set xs n x) j)) (sym e) (subst P (sym same) new)
  | inr e ↦
      let apart : i ≢ n = e in
      let same : slice_index (set xs n x) i ≡ slice_index xs i = rw get_or-set_other refl in
      subst P (sym same) old
]

-- ---- a column of a strip
flag_in : (flags : List (List ℕ)) (s row n k : ℕ) → k < 8 → flag_of flags s row (8 * n + k) ≡ bit_at (slice_index (row_of flags n) (word_of s row)) (8 * (row % 8) + k)
flag_in flags s row n k h =
    let a : (8 * n + k) / 8 ≡ n = omega arith in
    let b : (8 * n + k) % 8 ≡ k = omega arith in
    λ i. bit_at (slice_index (row_of flags (a i)) (word_of s row)) (8 * (row % 8) + b i)

pub column_parity : (flags : List (List ℕ)) (s row n m : ℕ) → m ≤ 8
    → parity (flag_of flags s row) (8 * n + m) ≡ (parity (flag_of flags s row) (8 * n) + parity (λ k. bit_at (slice_index (row_of flags n) (word_of s row)) (8 * (row % 8) + k)) m) % 2
column_parity flags s row n m h =
    let a = parity-append (flag_of flags s row) (8 * n) m in
    let b = parity-same (λ k. flag_of flags s row (8 * n + k)) (λ k. bit_at (slice_index (row_of flags n) (word_of s row)) (8 * (row % 8) + k)) m (λ k l. flag_in flags s row n k (omega arith)) in
    a ∙ ap (λ p. (parity (flag_of flags s row) (8 * n) + p) % 2) b

-- what a filled word says, if its carries are those of the columns before
pub filled_flag : (flags : List (List ℕ)) (s row n k carry filled : ℕ) → k < 8 → bit_at carry (8 * (row % 8)) ≡ parity (flag_of flags s row) (8 * n)
    → IsFilled (slice_index (row_of flags n) (word_of s row)) carry filled → bit_at filled (8 * (row % 8) + k) ≡ parity (flag_of flags s row) ((8 * n + k) + 1)
filled_flag flags s row n k carry filled h c f =
    let a = f (row % 8) k (omega arith) h in
    let b = column_parity flags s row n (k + 1) (omega arith) in
    let e : 8 * n + (k + 1) ≡ (8 * n + k) + 1 = omega arith in
    let b' = rw e at b in
    a ∙ ap (λ x. (x + parity (λ k. bit_at (slice_index (row_of flags n) (word_of s row)) (8 * (row % 8) + k)) (k + 1)) % 2) c ∙ sym b'

pub next_carry : (flags : List (List ℕ)) (s row n carry next : ℕ) → bit_at carry (8 * (row % 8)) ≡ parity (flag_of flags s row) (8 * n)
    → IsNextCarry (slice_index (row_of flags n) (word_of s row)) carry next → bit_at next (8 * (row % 8)) ≡ parity (flag_of flags s row) (8 * (n + 1))
next_carry flags s row n carry next c f =
    let a = f (row % 8) (omega arith) in
    let b = column_parity flags s row n 8 (omega arith) in
    let e : 8 * n + 8 ≡ 8 * (n + 1) = omega arith in
    let b' = rw e at b in
    a ∙ ap (λ x. (x + parity (λ k. bit_at (slice_index (row_of flags n) (word_of s row)) (8 * (row % 8) + k)) 8) % 2) c ∙ sym b'

pub before_column : (k n : ℕ) → k < 8 * (n + 1) → (k / 8 ≡ n → ⊥) → k < 8 * n
before_column k n h e = elim (cases_lt (k / 8) n) [ inl l ↦ omega arith | inr l ↦ absurd (e (omega arith)) ]
