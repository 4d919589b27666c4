-- Columns that are set to zeros one after another.
use Rattle.std.proofs.Common.{◌≡◌, inl, inr, ap, ◌∙◌, arith, ℕ, ◌+◌, ◌*◌, ◌<◌, ◌≤◌, List, [], length, set, slice_index}
use Rattle.std.proofs.lemmas.Bool.{cases_lt}
use Rattle.std.proofs.lemmas.List.{get_or_past}
use Rattle.polygons.specs.ManyRows.{row_of}
use Rattle.polygons.specs.Cells.{AreZeros}
use Rattle.blocks.proofs.Places.{part_within}
use Rattle.polygons.proofs.RowLists.{row-here, row-other}

pub one_more : (cells : List (List ℕ)) (n : ℕ) (zeros : List ℕ) → ((i : ℕ) → slice_index zeros i ≡ 0) → n < length cells → ((column i : ℕ) → column < n → slice_index (row_of cells column) i ≡ 0)
    → (column i : ℕ) → column < n + 1 → slice_index (row_of (set cells n zeros) column) i ≡ 0
one_more cells n zeros is fits before column i h =
    elim (cases_lt column n) [
      | inl less ↦ ap (λ (row : List ℕ). slice_index row i) (row-other cells n column zeros (λ e. omega (arith, e, less))) ∙ before column i less
      | inr more ↦
          let here : column ≡ n = omega (arith, h, more) in
          ap (λ c. slice_index (row_of (set cells n zeros) c) i) here ∙ ap (λ (row : List ℕ). slice_index row i) (row-here cells n zeros fits) ∙ is i
    ]

pub all : (cells : List (List ℕ)) (n : ℕ) → length cells ≤ n → ((column i : ℕ) → column < n → slice_index (row_of cells column) i ≡ 0) → AreZeros cells
all cells n past before column i =
    elim (cases_lt column n) [
      | inl less ↦ before column i less
      | inr more ↦ ap (λ (row : List ℕ). slice_index row i) (get_or_past cells column [] (omega (arith, past, more)))
    ]

-- a column of another part
pub apart_part : (p part column k each : ℕ) → (p ≡ part → ⊥) → column < each → k < each → p * each + column ≡ part * each + k → ⊥
apart_part p part column k each other h l e =
    elim (cases_lt p part) [
      | inl less ↦ let room = part_within p part each less in omega (arith, room, h, e)
      | inr not_less ↦ elim (cases_lt part p) [
        | inl more ↦ let room = part_within part p each more in omega (arith, room, l, e)
        | inr same ↦ other (omega (arith, not_less, same))
      ]
    ]

pub next_part : (part many : ℕ) → (part + 1) * many ≡ part * many + many
next_part part many = grind arith
