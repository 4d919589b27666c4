-- Tiles and tile rows that no triangle reaches.
use Rattle.std.proofs.Common.{◌≡◌, refl, ℕ, ◌+◌, ◌/◌, ◌<◌, ◌≤◌, List, [], ◌∷◌, zero, suc, min, max, slice_get, slice_index, Some, bit_and, arith}
use Rattle.grid.specs.declared.sample_count.SampleCount.{SampleCount}
use Rattle.shade.specs.declared.sample.CanvasSample.{CanvasSample}
use Rattle.shade.specs.declared.placed.Placed.{Placed}
use Rattle.shade.specs.Placed.{Meets}
use Rattle.shade.specs.Canvas.{CanvasEnds}
use Rattle.reach.specs.declared.marks.Reached.{Reached}
use Rattle.reach.specs.Reach.{IsMarked, MeetsOnScreen, AreReached}
use Rattle.reach.proofs.Bits.{both_set, no_bit}
use Rattle.canvas.specs.declared.canvas.Canvas.{Canvas}
use Rattle.canvas.specs.Layout.{IsStoredIn, columns_of, rows_of}
use Rattle.canvas.proofs.Ends.{AreMissed, column_of, row_of_tiles}

pub ends_unmet : (ts : List Placed) (count : SampleCount) (i j s : ℕ) (x : CanvasSample) → ((k : ℕ) (t : Placed) → slice_get ts k ≡ Some t → ¬ Meets t count i j s) → CanvasEnds ts count i j s x x
ends_unmet [] count i j s x unmet = refl
ends_unmet (t ∷ ts) count i j s x unmet =
    (x, record { met = λ m. absurd (unmet zero t refl m); missed = λ _. refl }, ends_unmet ts count i j s x (λ k u found. unmet (suc k) u found))

module _ (ts : List Placed) (c : Canvas) (r : Reached) (first end : ℕ) (within : end ≤ rows_of c) (reached : AreReached ts r) where
  -- a sample in a column of tiles and a tile row of which no triangle has marked both
  ends_unmarked : (i j s : ℕ) → IsStoredIn c first end i j s → ((k : ℕ) → IsMarked r.columns (i / 64) k → ¬ IsMarked r.rows (j / 64) k) → (x : CanvasSample) → CanvasEnds ts c.count i j s x x
  ends_unmarked i j s h unmarked x =
      let width = c.width_fits in
      let height = c.height_fits in
      ends_unmet ts c.count i j s x
      (λ k t found m.
      let on_screen : MeetsOnScreen t c.count i j s = record { column = omega (arith, h.column, width); row = omega (arith, h.below, within, height); is_sample = h.is_sample; meets = m } in
      let marks = reached k t found c.count i j s on_screen in
      unmarked k marks.0 marks.1)

  -- ---- tile rows
  pub above_rows : (n : ℕ) → n ≡ max first r.rows.span.first → AreMissed ts c first end row_of_tiles (λ p. p < n)
  above_rows n is i j s h above =
      let less : j / 64 < n = above in
      let from = h.from in
      ends_unmarked i j s h (λ k across down. let low = down.in_span.from in omega (arith, less, is, from, low))

  pub behind_rows : (n : ℕ) → min end r.rows.span.end ≤ n → AreMissed ts c first end row_of_tiles (λ p. n ≤ p)
  behind_rows n past i j s h behind =
      let more : n ≤ j / 64 = behind in
      let below = h.below in
      ends_unmarked i j s h (λ k across down. let high = down.in_span.below in omega (arith, more, past, below, high))

  pub no_mark_in_row : (row : ℕ) → slice_index r.rows.words row ≡ 0 → AreMissed ts c first end row_of_tiles (λ p. p ≡ row)
  no_mark_in_row row none i j s h same =
      let here : j / 64 ≡ row = same in
      ends_unmarked i j s h (λ k across down. no_bit (slice_index r.rows.words row) k none (rw here at down.bit))

-- ---- the tiles of a row
module _ (ts : List Placed) (c : Canvas) (r : Reached) (row : ℕ) (within : row < rows_of c) (reached : AreReached ts r) where
  row_within : row + 1 ≤ rows_of c
  row_within = omega (arith, within)

  pub before_columns : (n : ℕ) → n ≤ r.columns.span.first → AreMissed ts c row (row + 1) column_of (λ p. p < n)
  before_columns n from i j s h before =
      let less : i / 64 < n = before in
      ends_unmarked ts c r row (row + 1) row_within reached i j s h (λ k across down. let low = across.in_span.from in omega (arith, less, from, low))

  pub behind_columns : (n : ℕ) → min r.columns.span.end (columns_of c) ≤ n → AreMissed ts c row (row + 1) column_of (λ p. n ≤ p)
  behind_columns n past i j s h behind =
      let more : n ≤ i / 64 = behind in
      let column = h.column in
      ends_unmarked ts c r row (row + 1) row_within reached i j s h (λ k across down. let high = across.in_span.below in omega (arith, more, past, column, high))

  pub no_mark_in_both : (column : ℕ) → bit_and (slice_index r.columns.words column) (slice_index r.rows.words row) ≡ 0 → AreMissed ts c row (row + 1) column_of (λ p. p ≡ column)
  no_mark_in_both column none i j s h same =
      let here : i / 64 ≡ column = same in
      let line : j / 64 ≡ row = omega (arith, h.from, h.below) in
      ends_unmarked ts c r row (row + 1) row_within reached i j s h
      (λ k across down. no_bit (bit_and (slice_index r.columns.words column) (slice_index r.rows.words row)) k none ((both_set (slice_index r.columns.words column) (slice_index r.rows.words row) k).1 (rw here at across.bit, rw line at down.bit)))
