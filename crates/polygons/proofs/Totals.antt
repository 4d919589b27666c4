-- Flags and counters of a strip: one cell that changes, and what it does to the sums of its row.
use Rattle.std.proofs.Common.{◌≡◌, ◌≢◌, ◌⊎◌, inl, inr, refl, sym, subst, ap, ◌∙◌, arith, ℕ, zero, suc, ◌+◌, ◌-◌, ◌*◌, ◌/◌, ◌%◌, ◌^◌, ◌<◌, ◌≤◌, Bool, true, false, cond, List, length, take, drop, set, slice_index, get_or-set_same, get_or-set_other, bit_and, pow_pos, ℤ, pos, neg_ℤ, ◌+ℤ◌, ◌-ℤ◌, ◌*ℤ◌}
use Rattle.std.proofs.lemmas.Int.{ints, clamps}
use Rattle.std.proofs.lemmas.Bool.{cases_eq}
use Rattle.std.proofs.lemmas.List.{get_or-take, get_or-drop, length-take, length-drop}
use Rattle.std.proofs.lemmas.Nat.Bits.{bit_at-pow_same, bit_at-lt, bit_at_xor, and_pow}
use Rattle.std.specs.Int.{bit_at, int_max}
use Rattle.std.specs.Int.RustNames.{int_le, bit_xor}
use borrow.Rule.Slice.PartMut.{put_mid, set_mid_at}
use Rattle.polygons.specs.Rows.{sum_to, from_column}
use Rattle.polygons.specs.ManyRows.{row_of}
use Rattle.polygons.specs.declared.rule.Rule.{Rule}
use Rattle.polygons.specs.declared.rule.Rule.TheVariants.{EvenOdd}
use Rattle.polygons.specs.Cells.{word_of, bit_in_block, flag_of, cell, running_sum, modulus, columns_in, signed, IsAlike, AreMarked, IsAdded}
use Rattle.polygons.proofs.RowLists.{row-here, row-other}
use Rattle.polygons.proofs.Tests.{le_no}
use Rattle.polygons.proofs.Counters.{number_at, number-here, number-elsewhere, sum-same, sums-added, same-test}

-- ---- one word
pub word-here : (flags : List (List ℕ)) (j i v : ℕ) → j < length flags → i < length (row_of flags j) → slice_index (row_of (set flags j (set (row_of flags j) i v)) j) i ≡ v
word-here flags j i v h k =
    let a = row-here flags j (set (row_of flags j) i v) h in
    let b : slice_index (set (row_of flags j) i v) i ≡ v = rw get_or-set_same refl in
    ap (λ w. slice_index w i) a ∙ b

pub word-other : (flags : List (List ℕ)) (j i v l m : ℕ) → j < length flags → (l ≡ j → m ≡ i → ⊥) → slice_index (row_of (set flags j (set (row_of flags j) i v)) l) m ≡ slice_index (row_of flags l) m
word-other flags j i v l m h other = elim (cases_eq l j) [
  | inl e ↦
      let a = row-here flags j (set (row_of flags j) i v) h in
      let apart : m ≢ i = other e in
      let b : slice_index (set (row_of flags j) i v) m ≡ slice_index (row_of flags j) m = rw get_or-set_other refl in
      ap (λ n. slice_index (row_of (set flags j (set (row_of flags j) i v)) n) m) e ∙ ap (λ w. slice_index w m) a ∙ b ∙ sym (ap (λ n. slice_index (row_of flags n) m) e)
  | inr e ↦ ap (λ w. slice_index w m) (row-other flags j l (set (row_of flags j) i v) e)
]

-- ---- one flag
pub set_here : (flags : List (List ℕ)) (s row block k v : ℕ) → k / 8 ≡ block → block < length flags → word_of s row < length (row_of flags block)
    → flag_of (set flags block (set (row_of flags block) (word_of s row) v)) s row k ≡ bit_at v (bit_in_block row k)
set_here flags s row block k v at h l =
    let changed : List (List ℕ) = set flags block (set (row_of flags block) (word_of s row) v) in
    ap (λ n. bit_at (slice_index (row_of changed n) (word_of s row)) (bit_in_block row k)) at ∙ ap (λ x. bit_at x (bit_in_block row k)) (word-here flags block (word_of s row) v h l)

-- another flag stays, if its bit does where it lies in the word that changes
pub set_other : (flags : List (List ℕ)) (s row block v : ℕ) → block < length flags → word_of s row < length (row_of flags block) → s < 4 → (r j m : ℕ) → r < 4
    → (r ≡ s → j / 8 ≡ row / 8 → m / 8 ≡ block → bit_at v (bit_in_block j m) ≡ bit_at (slice_index (row_of flags block) (word_of s row)) (bit_in_block j m))
    → flag_of (set flags block (set (row_of flags block) (word_of s row) v)) r j m ≡ flag_of flags r j m
set_other flags s row block v h l small r j m r_small same =
    let w : ℕ = word_of s row in
    let changed : List (List ℕ) = set flags block (set (row_of flags block) w v) in
    elim (cases_eq (m / 8) block) [
      | inr e ↦ ap (λ x. bit_at x (bit_in_block j m)) (word-other flags block w v (m / 8) (word_of r j) h (λ f g. e f))
      | inl e ↦ elim (cases_eq (word_of r j) w) [
        | inr f ↦ ap (λ x. bit_at x (bit_in_block j m)) (word-other flags block w v (m / 8) (word_of r j) h (λ q g. f g))
        | inl f ↦
            let new : slice_index (row_of changed (m / 8)) (word_of r j) ≡ v = ap (λ n. slice_index (row_of changed n) (word_of r j)) e ∙ ap (λ n. slice_index (row_of changed block) n) f ∙ word-here flags block w v h l in
            let old : slice_index (row_of flags (m / 8)) (word_of r j) ≡ slice_index (row_of flags block) w = ap (λ n. slice_index (row_of flags n) (word_of r j)) e ∙ ap (λ n. slice_index (row_of flags block) n) f in
            ap (λ x. bit_at x (bit_in_block j m)) new ∙ same (omega arith) (omega arith) e ∙ sym (ap (λ x. bit_at x (bit_in_block j m)) old)
      ]
    ]

-- a sample's word among those from its row of blocks on
pub word_in_part : (words : List ℕ) (s row : ℕ) → s < length words - 4 * (row / 8) → slice_index (take (length words - 4 * (row / 8)) (drop (4 * (row / 8)) words)) s ≡ slice_index words (word_of s row)
word_in_part words s row h = get_or-take (length words - 4 * (row / 8)) (drop (4 * (row / 8)) words) s 0 h ∙ get_or-drop (4 * (row / 8)) words s 0

-- the words with that one changed
pub part_set : (words : List ℕ) (s row v : ℕ) → s < length words - 4 * (row / 8)
    → put_mid (4 * (row / 8)) (length words - 4 * (row / 8)) words (set (take (length words - 4 * (row / 8)) (drop (4 * (row / 8)) words)) s v) ≡ set words (word_of s row) v
part_set words s row v h =
    set_mid_at (4 * (row / 8)) (length words - 4 * (row / 8)) s words v (omega (arith, h, length-take (length words - 4 * (row / 8)) (drop (4 * (row / 8)) words), length-drop (4 * (row / 8)) words))

-- bits of a word that is flipped by another
pub flipped_here : (x b i : ℕ) → b ≡ 2 ^ i → bit_at (bit_xor x b) i ≡ (bit_at x i + 1) % 2
flipped_here x b i e = bit_at_xor x b i ∙ ap (λ n. (bit_at x i + bit_at n i) % 2) e ∙ ap (λ n. (bit_at x i + n) % 2) (bit_at-pow_same i)

pub flipped_other : (x b i : ℕ) → bit_at b i ≡ 0 → bit_at (bit_xor x b) i ≡ bit_at x i
flipped_other x b i e = bit_at_xor x b i ∙ (let s = bit_at-lt x i in omega arith)

-- a flag that is flipped, and one that is not
pub flip_here : (flags : List (List ℕ)) (s row block k b : ℕ) → k / 8 ≡ block → block < length flags → word_of s row < length (row_of flags block) → b ≡ 2 ^ bit_in_block row k
    → flag_of (set flags block (set (row_of flags block) (word_of s row) (bit_xor (slice_index (row_of flags block) (word_of s row)) b))) s row k ≡ (flag_of flags s row k + 1) % 2
flip_here flags s row block k b at h l bit =
    set_here flags s row block k _ at h l ∙ flipped_here (slice_index (row_of flags block) (word_of s row)) b (bit_in_block row k) bit
    ∙ ap (λ n. (bit_at (slice_index (row_of flags n) (word_of s row)) (bit_in_block row k) + 1) % 2) (sym at)

pub flip_other : (flags : List (List ℕ)) (s row block b : ℕ) → block < length flags → word_of s row < length (row_of flags block) → s < 4 → (r j m : ℕ) → r < 4
    → (r ≡ s → j / 8 ≡ row / 8 → m / 8 ≡ block → bit_at b (bit_in_block j m) ≡ 0)
    → flag_of (set flags block (set (row_of flags block) (word_of s row) (bit_xor (slice_index (row_of flags block) (word_of s row)) b))) r j m ≡ flag_of flags r j m
flip_other flags s row block b h l small r j m r_small none =
    set_other flags s row block _ h l small r j m r_small (λ same e f. flipped_other (slice_index (row_of flags block) (word_of s row)) b (bit_in_block j m) (none same e f))

-- whether a bit is set, as code asks it
pub clear_bit : (x b i : ℕ) → b ≡ 2 ^ i → bit_and x b ≡ 0 → bit_at x i ≡ 0
clear_bit x b i e h = by_bit (bit_at x i) (bit_at-lt x i) (sym (and_pow x i) ∙ ap (bit_and x) (sym e) ∙ h)
  where
    by_bit : (v : ℕ) → v < 2 → v * 2 ^ i ≡ 0 → v ≡ 0
    by_bit zero l q = refl
    by_bit (suc zero) l q = absurd (omega (arith, pow_pos i))
    by_bit (suc (suc v)) l q = absurd (omega arith)

pub set_bit : (x b i : ℕ) → b ≡ 2 ^ i → (bit_and x b ≡ 0 → ⊥) → bit_at x i ≡ 1
set_bit x b i e h = by_bit (bit_at x i) (bit_at-lt x i) refl
  where
    by_bit : (v : ℕ) → v < 2 → bit_at x i ≡ v → v ≡ 1
    by_bit zero l q = absurd (h (ap (bit_and x) e ∙ and_pow x i ∙ ap (λ n. n * 2 ^ i) q ∙ (omega arith)))
    by_bit (suc zero) l q = refl
    by_bit (suc (suc v)) l q = absurd (omega arith)

-- ---- sums
pub alike_added : (m : ℕ) (t v d : ℤ) → IsAlike m v d → IsAlike m (t +ℤ v) (t +ℤ d)
alike_added m t v d h = record { times = h.times; is = let e = h.is in omega (arith, ints) }

pub alike_same : (m : ℕ) (x y : ℤ) → x ≡ y → IsAlike m x y
alike_same m x y e = record { times = pos 0; is = omega (arith, ints) }

-- a row in which one cell changes by a number that is alike the direction
crossed_once : (f g : ℕ → ℤ) (c m : ℕ) (column v d : ℤ) (k : ℕ) → pos c ≡ int_max column (pos 0) → ((j : ℕ) → j < k + 1 → g j ≡ f j +ℤ number_at c v j) → IsAlike m v d
    → IsAlike m (sum_to g (k + 1)) (sum_to f (k + 1) +ℤ cond (int_le column (pos k)) d (pos 0))
crossed_once f g c m column v d k is change alike =
    let a = sums-added f g c v k change in
    let t = same-test column c k is in
    let b : sum_to g (k + 1) ≡ sum_to f (k + 1) +ℤ cond (int_le column (pos k)) v (pos 0) = a ∙ ap (λ (x : Bool). sum_to f (k + 1) +ℤ cond x v (pos 0)) t in
    rw b (by_test (int_le column (pos k)))
  where
    by_test : (x : Bool) → IsAlike m (sum_to f (k + 1) +ℤ cond x v (pos 0)) (sum_to f (k + 1) +ℤ cond x d (pos 0))
    by_test true = alike_added m (sum_to f (k + 1)) v d alike
    by_test false = alike_same m _ _ refl

signed_column : (down : Bool) (column : ℤ) (k : ℕ) → cond (int_le column (pos k)) (signed down (pos 1)) (pos 0) ≡ signed down (from_column column (pos 1) k)
signed_column down column k = both down (int_le column (pos k))
  where
    both : (down test : Bool) → cond test (signed down (pos 1)) (pos 0) ≡ signed down (cond test (pos 1) (pos 0))
    both true true = refl
    both true false = refl
    both false true = refl
    both false false = refl

-- by how much a flag changes that is flipped
abbrev flip_of : ℕ → ℤ
flip_of old = pos 1 -ℤ pos 2 *ℤ pos old

flag_changes : (old new : ℕ) → old < 2 → new ≡ (old + 1) % 2 → pos new ≡ pos old +ℤ flip_of old
flag_changes old new h e = omega (arith, ints)

flip_alike : (old : ℕ) (down : Bool) → IsAlike 2 (flip_of old) (signed down (pos 1))
flip_alike old true = record { times = neg_ℤ (pos old); is = omega (arith, ints) }
flip_alike old false = record { times = pos 1 -ℤ pos old; is = omega (arith, ints) }

flipped_alike : (old new : ℕ) (down : Bool) → old < 2 → new ≡ (old + 1) % 2 → IsAlike 2 (pos new) (pos old +ℤ signed down (pos 1))
flipped_alike old new down h e = let f = flip_alike old down in let is = f.is in let n = flag_changes old new h e in record { times = f.times; is = omega (arith, ints) }

-- by how much a counter changes
pub counter_alike : (old new : ℕ) (down : Bool) → new ≡ (old + cond down 1 4294967295) % 2 ^ 32 → IsAlike (2 ^ 32) (pos new -ℤ pos old) (signed down (pos 1))
counter_alike old new true e = record { times = neg_ℤ (pos ((old + 1) / 2 ^ 32)); is = omega (arith, ints) }
counter_alike old new false e = record { times = pos 1 -ℤ pos ((old + 4294967295) / 2 ^ 32); is = omega (arith, ints) }

-- a row of cells in which only the one in column c changed
one_changed : (f g : ℕ → ℤ) (c n : ℕ) (v : ℤ) → g c ≡ f c +ℤ v → ((j : ℕ) → j < n → (j ≡ c → ⊥) → g j ≡ f j) → (j : ℕ) → j < n → g j ≡ f j +ℤ number_at c v j
one_changed f g c n v here other j h = elim (cases_eq j c) [
  | inl e ↦ let n = number_at c v j in let z = number-here c v j e in ap g e ∙ here ∙ (let w = ap f e in omega (arith, ints))
  | inr e ↦ let z = number-elsewhere c v j e in other j h e ∙ (omega (arith, ints))
]

-- an edge that is crossed right of column k alone
right_of : (m : ℕ) (t column : ℤ) (c k : ℕ) (down : Bool) → pos c ≡ int_max column (pos 0) → k < c → IsAlike m t (t +ℤ signed down (from_column column (pos 1) k))
right_of m t column c k down is h =
    let e : int_le column (pos k) ≡ false = le_no column (pos k) (omega (arith, ints, clamps)) in
    rw e (alike_same m _ _ (none down))
  where
    none : (down : Bool) → t ≡ t +ℤ signed down (pos 0)
    none true = omega (arith, ints)
    none false = omega (arith, ints)

-- which cell it is
pub same_or_not : (s r row j c k : ℕ) → ((r ≡ s) × (j ≡ row) × (k ≡ c)) ⊎ (r ≡ s → j ≡ row → k ≡ c → ⊥)
same_or_not s r row j c k = elim (cases_eq r s) [
  | inr n ↦ inr (λ e f g. n e)
  | inl e ↦ elim (cases_eq j row) [
    | inr n ↦ inr (λ e f g. n f)
    | inl f ↦ elim (cases_eq k c) [ inr n ↦ inr (λ e f g. n g) | inl g ↦ inl (e, f, g) ]
  ]
]

-- what is said of one row is said of the rows from it to before the next one
one_row : (rule : Rule) (s row n : ℕ) (number : ℕ → ℤ) (f c f' c' : List (List ℕ)) → ((k : ℕ) → k < n → IsAlike (modulus rule) (running_sum rule f' c' s row k) (running_sum rule f c s row k +ℤ number k))
    → (j k : ℕ) → row ≤ j → j < row + 1 → k < n → IsAlike (modulus rule) (running_sum rule f' c' s j k) (running_sum rule f c s j k +ℤ number k)
one_row rule s row n number f c f' c' h j k l m o =
    let at : row ≡ j = omega arith in
    subst (λ (i : ℕ). IsAlike (modulus rule) (running_sum rule f' c' s i k) (running_sum rule f c s i k +ℤ number k)) at (h k o)

-- ---- one cell that changes
alike_difference : (m : ℕ) (x y d : ℤ) → IsAlike m x (y +ℤ d) → IsAlike m (x -ℤ y) d
alike_difference m x y d h = record { times = h.times; is = let e = h.is in omega (arith, ints) }

pub added_cell : (rule : Rule) (s row n : ℕ) (column : ℤ) (down : Bool) (f c f' c' : List (List ℕ)) → s < 4 → row < 64 → pos n ≡ int_max column (pos 0) → length f' ≡ length f → length c' ≡ length c
    → IsAlike (modulus rule) (cell rule f' c' s row n) (cell rule f c s row n +ℤ signed down (pos 1))
    → ((r j k : ℕ) → r < 4 → j < 64 → k < 8 * columns_in rule f c → (r ≡ s → j ≡ row → k ≡ n → ⊥) → cell rule f' c' r j k ≡ cell rule f c r j k)
    → (AreMarked rule f c → AreMarked rule f' c')
    → IsAdded rule s row (row + 1) (λ _ k. signed down (from_column column (pos 1) k)) f c f' c'
added_cell rule s row n column down f c f' c' s_small row_small is flags_len counters_len alike others marked = record {
  flags_len = flags_len;
  counters_len = counters_len;
  here = one_row rule s row (8 * columns_in rule f c) _ f c f' c' at;
  others = λ r j k r_small j_small k_small other. sum-same (cell rule f c r j) (cell rule f' c' r j) (k + 1) (λ m l. others r j m r_small j_small (omega arith) (λ e h _. other e (omega arith) (omega arith)));
  marked = marked;
}
  where
    old : ℕ → ℤ
    old = cell rule f c s row

    new : ℕ → ℤ
    new = cell rule f' c' s row

    v : ℤ
    v = new n -ℤ old n

    moved : (x y : ℤ) → x ≡ y +ℤ (x -ℤ y)
    moved x y = omega (arith, ints)

    at : (k : ℕ) → k < 8 * columns_in rule f c → IsAlike (modulus rule) (running_sum rule f' c' s row k) (running_sum rule f c s row k +ℤ signed down (from_column column (pos 1) k))
    at k h =
        let change = one_changed old new n (8 * columns_in rule f c) v (moved (new n) (old n)) (λ j l e. others s row j s_small row_small l (λ _ _ q. e q)) in
        let a = crossed_once old new n (modulus rule) column v (signed down (pos 1)) k is (λ j l. change j (omega arith)) (alike_difference (modulus rule) _ _ _ alike) in
        subst (λ (z : ℤ). IsAlike (modulus rule) (running_sum rule f' c' s row k) (running_sum rule f c s row k +ℤ z)) (signed_column down column k) a

-- of all flags only the one at this place may have changed
abbrev pub AreOthersKept : List (List ℕ) → ℕ → ℕ → ℕ → List (List ℕ) → Type 0
AreOthersKept f s row place f' = (r j k : ℕ) → r < 4 → j < 64 → (r ≡ s → j ≡ row → k ≡ place → ⊥) → flag_of f' r j k ≡ flag_of f r j k

-- by the even-odd rule an edge is counted by a flag that flips
pub flipped_added : (s row n place : ℕ) (column : ℤ) (down : Bool) (f c f' : List (List ℕ)) → s < 4 → row < 64 → pos n ≡ int_max column (pos 0) → place ≡ n → length f' ≡ length f
    → flag_of f' s row place ≡ (flag_of f s row place + 1) % 2 → AreOthersKept f s row place f' → IsAdded EvenOdd s row (row + 1) (λ _ k. signed down (from_column column (pos 1) k)) f c f' c
flipped_added s row n place column down f c f' s_small row_small is at long flipped kept =
    added_cell EvenOdd s row n column down f c f' c s_small row_small is long refl
    (flipped_alike (flag_of f s row n) (flag_of f' s row n) down (bit_at-lt _ _) (subst (λ k. flag_of f' s row k ≡ (flag_of f s row k + 1) % 2) at flipped))
    (λ r j k h l _ other. ap pos (kept r j k h l (λ x y z. other x y (z ∙ at)))) (λ h. h)

-- an edge right of the strip
pub added_right : (rule : Rule) (s row : ℕ) (column : ℤ) (n : ℕ) (down : Bool) (f c : List (List ℕ)) → pos n ≡ int_max column (pos 0) → columns_in rule f c ≤ n / 8
    → IsAdded rule s row (row + 1) (λ _ k. signed down (from_column column (pos 1) k)) f c f c
added_right rule s row column n down f c is beside = record {
  flags_len = refl;
  counters_len = refl;
  here = one_row rule s row (8 * columns_in rule f c) _ f c f c (λ k h. right_of (modulus rule) (running_sum rule f c s row k) column n k down is (omega arith));
  others = λ r j k r_small j_small k_small other. refl;
  marked = λ h. h;
}
