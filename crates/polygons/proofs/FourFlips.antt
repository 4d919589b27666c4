-- Flags of four samples in neighbouring words, which are flipped at once: what that does to the sums of one of them.
use Rattle.std.proofs.Common.{◌≡◌, inl, inr, refl, sym, ap, ◌∙◌, arith, ℕ, ◌+◌, ◌*◌, ◌/◌, ◌%◌, ◌^◌, ◌<◌, ◌≤◌, Bool, cond, List, length, set, bit_and, slice_index, ℤ, pos}
use Rattle.std.proofs.lemmas.Bool.{cases_eq}
use Rattle.std.proofs.lemmas.List.{length-set}
use Rattle.std.proofs.lemmas.Nat.Bits.{bit_at-zero, bit_at-pow_other}
use Rattle.std.specs.Int.{bit_at, int_max}
use Rattle.std.specs.Int.RustNames.{bit_xor}
use Rattle.polygons.specs.declared.rule.Rule.{Rule}
use Rattle.polygons.specs.declared.rule.Rule.TheVariants.{EvenOdd, NonZero}
use Rattle.polygons.specs.ManyRows.{row_of}
use Rattle.polygons.specs.Rows.{from_column}
use Rattle.polygons.specs.Cells.{word_of, bit_in_block, flag_of, running_sum, columns_in, signed, IsAdded}
use Rattle.polygons.proofs.Counters.{sum-same}
use Rattle.polygons.proofs.RowLists.{row-here, row-other}
use Rattle.polygons.proofs.Totals.{word-here, word-other, flip_here, flip_other, clear_bit, flipped_added, added_right}
use Rattle.polygons.proofs.Windings.{cell_same, first_added, flag_place}

-- what the sums of a sample's rows are by its flags
pub sums_of_sample : (q : Rule) (f c f' : List (List ℕ)) (s : ℕ) → ((j k : ℕ) → flag_of f' s j k ≡ flag_of f s j k) → (j k : ℕ) → running_sum q f' c s j k ≡ running_sum q f c s j k
sums_of_sample EvenOdd f c f' s same j k = sum-same _ _ (k + 1) (λ i _. ap pos (same j i))
sums_of_sample NonZero f c f' s same j k = sum-same _ _ (k + 1) (λ i _. cell_same f c f' c s j i refl (same j i) (same j (i + 8 * length c)) (same j (i + 16 * length c)) refl)

-- the flags of a sample are those after an edge was counted there alone, in a row from a column on
pub record IsSampleFlipped (rule : Rule) (s row : ℕ) (column : ℤ) (down : Bool) (f c f' : List (List ℕ)) : Type 0 where
  pub once : List (List ℕ)
  pub added : IsAdded rule s row (row + 1) (λ _ k. signed down (from_column column (pos 1) k)) f c once c
  pub same : (j k : ℕ) → flag_of f' s j k ≡ flag_of once s j k

-- an edge right of the strip flips nothing
pub flipped_right : (rule : Rule) (s row : ℕ) (column : ℤ) (n : ℕ) (down : Bool) (f c : List (List ℕ)) → pos n ≡ int_max column (pos 0) → columns_in rule f c ≤ n / 8 → IsSampleFlipped rule s row column down f c f
flipped_right rule s row column n down f c is beside = record { once = f; added = added_right rule s row column n down f c is beside; same = λ j k. refl }

module _ (rule : Rule) (s row : ℕ) (f : List (List ℕ)) (bit : ℕ) (words : List ℕ) (block : ℕ) (small : s < 4) (low : row < 64) (inside : block < length f) (room : length (row_of f block) ≡ 32)
    (flipped : slice_index words (word_of s row) ≡ bit_xor (slice_index (row_of f block) (word_of s row)) bit) (kept : (i : ℕ) → (i / 4 ≡ row / 8 → ⊥) → slice_index words i ≡ slice_index (row_of f block) i) where
  -- the flags if this sample alone is flipped, and those of all
  abbrev one_flipped : List (List ℕ)
  one_flipped = set f block (set (row_of f block) (word_of s row) (bit_xor (slice_index (row_of f block) (word_of s row)) bit))

  abbrev all_flipped : List (List ℕ)
  all_flipped = set f block words

  word_same : (j : ℕ) → slice_index words (word_of s j) ≡ slice_index (row_of one_flipped block) (word_of s j)
  word_same j = elim (cases_eq (j / 8) (row / 8)) [
    | inl e ↦
        let same : word_of s j ≡ word_of s row = ap (λ n. 4 * n + s) e in
        ap (slice_index words) same ∙ flipped ∙ sym (ap (slice_index (row_of one_flipped block)) same ∙ word-here f block (word_of s row) _ inside (omega (arith, room)))
    | inr e ↦
        kept (word_of s j) (λ same. e (omega (arith, same)))
        ∙ sym (word-other f block (word_of s row) _ block (word_of s j) inside (λ _ same. e (omega (arith, same))))
  ]

  flag_same : (j k : ℕ) → flag_of all_flipped s j k ≡ flag_of one_flipped s j k
  flag_same j k = elim (cases_eq (k / 8) block) [
    | inl e ↦
        ap (λ n. bit_at (slice_index (row_of all_flipped n) (word_of s j)) (bit_in_block j k)) e
        ∙ ap (λ ws. bit_at (slice_index ws (word_of s j)) (bit_in_block j k)) (row-here f block words inside)
        ∙ ap (λ w. bit_at w (bit_in_block j k)) (word_same j) ∙ sym (ap (λ n. bit_at (slice_index (row_of one_flipped n) (word_of s j)) (bit_in_block j k)) e)
    | inr e ↦
        ap (λ ws. bit_at (slice_index ws (word_of s j)) (bit_in_block j k)) (row-other f block (k / 8) words e)
        ∙ sym (ap (λ ws. bit_at (slice_index ws (word_of s j)) (bit_in_block j k)) (row-other f block (k / 8) _ e))
  ]

  -- a sample of which no flag is flipped
  pub unflipped : bit ≡ 0 → (j k : ℕ) → flag_of all_flipped s j k ≡ flag_of f s j k
  unflipped none j k = flag_same j k ∙ flip_other f s row block bit inside (omega (arith, room)) small s j k small (λ _ _ _. ap (λ b. bit_at b (bit_in_block j k)) none ∙ bit_at-zero (bit_in_block j k))

  -- one of which one flag is
  pub flipped_at : (n column : ℕ) (z : ℤ) (down : Bool) (c : List (List ℕ)) → pos n ≡ int_max z (pos 0) → n / 8 ≡ column → bit ≡ 2 ^ bit_in_block row n → column < columns_in rule f c
      → (rule ≡ EvenOdd → block ≡ column) → (rule ≡ NonZero → block ≡ column + cond down 0 (length c)) → (rule ≡ NonZero → bit_and (slice_index (row_of f block) (word_of s row)) bit ≡ 0) → IsSampleFlipped rule s row z down f c all_flipped
  flipped_at n column z down c place one is within even_odd nonzero clear = record { once = one_flipped; added = by_rule rule refl within; same = flag_same }
    where
      bit_is : bit ≡ 2 ^ bit_in_block row (8 * block + n % 8)
      bit_is = is ∙ ap (λ m. 2 ^ m) (omega arith)

      here : flag_of one_flipped s row (8 * block + n % 8) ≡ (flag_of f s row (8 * block + n % 8) + 1) % 2
      here = flip_here f s row block (8 * block + n % 8) bit (omega arith) inside (omega (arith, room)) bit_is

      others : (r j k : ℕ) → r < 4 → j < 64 → (r ≡ s → j ≡ row → k ≡ 8 * block + n % 8 → ⊥) → flag_of one_flipped r j k ≡ flag_of f r j k
      others r j k h m other =
          flip_other f s row block bit inside (omega (arith, room)) small r j k h (λ same e g.
          ap (λ b. bit_at b (bit_in_block j k)) bit_is ∙ bit_at-pow_other (bit_in_block row (8 * block + n % 8)) (bit_in_block j k) (λ q. other same (omega arith) (omega arith)))

      by_rule : (q : Rule) → q ≡ rule → column < columns_in q f c → IsAdded q s row (row + 1) (λ _ k. signed down (from_column z (pos 1) k)) f c one_flipped c
      by_rule EvenOdd e m =
          let at = even_odd (sym e) in
          flipped_added s row n (8 * block + n % 8) z down f c one_flipped small low place (omega arith) (length-set f block _) here others
      by_rule NonZero e m =
          first_added down f c one_flipped s row n (8 * block + n % 8) z small low (omega arith) place
          (flag_place down n (length c) block (nonzero (sym e) ∙ ap (λ m. m + cond down 0 (length c)) (sym one))) (length-set f block _)
          (ap (λ m. bit_at (slice_index (row_of f m) (word_of s row)) (bit_in_block row (8 * block + n % 8))) (omega arith) ∙ clear_bit (slice_index (row_of f block) (word_of s row)) bit (bit_in_block row (8 * block + n % 8)) bit_is (clear (sym e)))
          here others

-- four samples whose flags lie in the words of one row of blocks
module _ (rule : Rule) (f c : List (List ℕ)) (bits words : List ℕ) (column block blocks : ℕ) (down : Bool) (few : blocks < 8) (inside : block < length f) (room : length (row_of f block) ≡ 32) (within : column < columns_in rule f c)
    (even_odd : rule ≡ EvenOdd → block ≡ column) (nonzero : rule ≡ NonZero → block ≡ column + cond down 0 (length c))
    (clear : rule ≡ NonZero → (s : ℕ) → s < 4 → bit_and (slice_index (row_of f block) (4 * blocks + s)) (slice_index bits s) ≡ 0)
    (flipped : (s : ℕ) → s < 4 → slice_index words (4 * blocks + s) ≡ bit_xor (slice_index (row_of f block) (4 * blocks + s)) (slice_index bits s))
    (kept : (i : ℕ) → (i / 4 ≡ blocks → ⊥) → slice_index words i ≡ slice_index (row_of f block) i) where
  word_is : (s row : ℕ) → row / 8 ≡ blocks → word_of s row ≡ 4 * blocks + s
  word_is s row e = ap (λ n. 4 * n + s) e

  here : (s row : ℕ) → s < 4 → row / 8 ≡ blocks → slice_index words (word_of s row) ≡ bit_xor (slice_index (row_of f block) (word_of s row)) (slice_index bits s)
  here s row l e = ap (slice_index words) (word_is s row e) ∙ flipped s l ∙ sym (ap (λ i. bit_xor (slice_index (row_of f block) i) (slice_index bits s)) (word_is s row e))

  apart : (row : ℕ) → row / 8 ≡ blocks → (i : ℕ) → (i / 4 ≡ row / 8 → ⊥) → slice_index words i ≡ slice_index (row_of f block) i
  apart row e i other = kept i (λ g. other (g ∙ sym e))

  pub none_flipped : (s : ℕ) → s < 4 → slice_index bits s ≡ 0 → (j k : ℕ) → flag_of (set f block words) s j k ≡ flag_of f s j k
  none_flipped s l none = (let at : 8 * blocks / 8 ≡ blocks = omega arith in unflipped rule s (8 * blocks) f (slice_index bits s) words block l (omega arith) inside room (here s (8 * blocks) l at) (apart (8 * blocks) at) none)

  pub one_flipped_at : (s row n : ℕ) (z : ℤ) → s < 4 → row < 64 → row / 8 ≡ blocks → pos n ≡ int_max z (pos 0) → n / 8 ≡ column → slice_index bits s ≡ 2 ^ bit_in_block row n → IsSampleFlipped rule s row z down f c (set f block words)
  one_flipped_at s row n z l low e place one is =
      flipped_at rule s row f (slice_index bits s) words block l low inside room (here s row l e) (apart row e) n column z down c place one is within even_odd nonzero
      (λ q. ap (λ i. bit_and (slice_index (row_of f block) i) (slice_index bits s)) (word_is s row e) ∙ clear q s l)
