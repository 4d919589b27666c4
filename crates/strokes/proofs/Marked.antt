-- Marks in masks, one after another.
use Rattle.std.proofs.Common.{◌≡◌, ◌↔◌, ◌⊎◌, inl, inr, sym, ap, ◌∙◌, arith, ℕ, ◌+◌, ◌*◌, ◌/◌, ◌%◌, ◌<◌, ◌≤◌, List, slice_index, bit_or}
use Rattle.std.proofs.lemmas.Bool.{cases_eq}
use Rattle.std.proofs.lemmas.Nat.{same_from_place}
use Rattle.std.specs.Int.{bit_at}
use Rattle.polygons.specs.ManyRows.{row_of}
use Rattle.polygons.specs.Cells.{bit_in_block, mask_at}
use Rattle.strokes.specs.Marking.{IsMarkedAt}
use Rattle.strokes.proofs.Bits.{either_bit}

-- ---- a row's bits in one word
module _ (old new : List (List ℕ)) (columns s row block bits first end : ℕ) (inside : block < columns)
    (here : slice_index (row_of new (s / 4 * columns + block)) (4 * (row / 8) + s % 4) ≡ bit_or (slice_index (row_of old (s / 4 * columns + block)) (4 * (row / 8) + s % 4)) bits)
    (others : (c w : ℕ) → (c ≡ s / 4 * columns + block → w ≡ 4 * (row / 8) + s % 4 → ⊥) → slice_index (row_of new c) w ≡ slice_index (row_of old c) w)
    (are : (r j : ℕ) → r < 8 → j < 8 → (bit_at bits (8 * r + j) ≡ 1) ↔ ((r ≡ row % 8) × (first ≤ 8 * block + j) × (8 * block + j < end))) where
  -- in another word
  apart : (t j k : ℕ) → (t / 4 * columns + k / 8 ≡ s / 4 * columns + block → 4 * (j / 8) + t % 4 ≡ 4 * (row / 8) + s % 4 → ⊥)
      → IsMarkedAt new columns t j k ↔ (IsMarkedAt old columns t j k ⊎ ((t ≡ s) × (j ≡ row) × (first ≤ k) × (k < end) × (k / 8 ≡ block)))
  apart t j k other =
      let same : mask_at new columns (k / 8) (j / 8) t ≡ mask_at old columns (k / 8) (j / 8) t = others (t / 4 * columns + k / 8) (4 * (j / 8) + t % 4) other in
      let bit = ap (λ n. bit_at n (bit_in_block j k)) same in (
        λ set. inl (sym bit ∙ set),
        λ h. elim h [
          | inl set ↦ bit ∙ set
          | inr p ↦
              let column : t / 4 * columns ≡ s / 4 * columns = ap (λ n. n / 4 * columns) (p.0) in
              absurd (other (omega (arith, column, p.4)) (omega (arith, p.0, p.1)))
        ],
      )

  -- in this word
  within : (t j k : ℕ) → k < 8 * columns → t / 4 * columns + k / 8 ≡ s / 4 * columns + block → 4 * (j / 8) + t % 4 ≡ 4 * (row / 8) + s % 4
      → IsMarkedAt new columns t j k ↔ (IsMarkedAt old columns t j k ⊎ ((t ≡ s) × (j ≡ row) × (first ≤ k) × (k < end) × (k / 8 ≡ block)))
  within t j k l e f =
      let place = same_from_place (t / 4) (k / 8) (s / 4) block columns (omega (arith, l)) inside e in
      let part : t / 4 ≡ s / 4 = place.0 in
      let column : k / 8 ≡ block = place.1 in
      let word : mask_at new columns (k / 8) (j / 8) t ≡ bit_or (mask_at old columns (k / 8) (j / 8) t) bits =
      ap (λ n. slice_index (row_of new n) (4 * (j / 8) + t % 4)) e ∙ ap (λ n. slice_index (row_of new (s / 4 * columns + block)) n) f ∙ here
      ∙ ap (λ n. bit_or (slice_index (row_of old (s / 4 * columns + block)) n) bits) (sym f) ∙ ap (λ n. bit_or (slice_index (row_of old n) (4 * (j / 8) + t % 4)) bits) (sym e) in
      let bit = ap (λ n. bit_at n (bit_in_block j k)) word in
      let or = either_bit (mask_at old columns (k / 8) (j / 8) t) bits (bit_in_block j k) in
      let added = are (j % 8) (k % 8) (omega arith) (omega arith) in (
        λ set. elim (or.0 (sym bit ∙ set)) [
          | inl before ↦ inl before
          | inr now ↦ let p = added.0 now in
              inr (omega (arith, part, f), omega (arith, f, p.0), omega (arith, column, p.1), omega (arith, column, p.2), column)
        ],
        λ h. elim h [
          | inl before ↦ bit ∙ or.1 (inl before)
          | inr p ↦ bit ∙ or.1 (inr (added.1 (omega (arith, p.1), omega (arith, column, p.2), omega (arith, column, p.3))))
        ],
      )

  pub word_marked : (t j k : ℕ) → k < 8 * columns
      → IsMarkedAt new columns t j k ↔ (IsMarkedAt old columns t j k ⊎ ((t ≡ s) × (j ≡ row) × (first ≤ k) × (k < end) × (k / 8 ≡ block)))
  word_marked t j k l = elim (cases_eq (t / 4 * columns + k / 8) (s / 4 * columns + block)) [
    | inr other ↦ apart t j k (λ e f. other e)
    | inl e ↦ elim (cases_eq (4 * (j / 8) + t % 4) (4 * (row / 8) + s % 4)) [
      | inr other ↦ apart t j k (λ e f. other f)
      | inl f ↦ within t j k l e f
    ]
  ]
