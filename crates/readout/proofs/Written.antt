-- Pixels that are written run by run.
use Rattle.std.proofs.Common.{◌≡◌, ◌⊎◌, ◌∙◌, inl, inr, refl, sym, ap, subst, ℕ, ◌+◌, ◌-◌, ◌*◌, ◌<◌, ◌≤◌, List, length, slice_index, arith}
use Rattle.std.proofs.Math.Nat.{add-mul, mul-le-mul_right}
use Rattle.std.proofs.lemmas.Bool.{cases_lt}
use Rattle.std.proofs.lemmas.Nat.{same_from_place}
use Rattle.canvas.specs.declared.canvas.Canvas.{Canvas}
use Rattle.readout.specs.declared.pixel_rows.PixelRow.{PixelRow}
use Rattle.grid.specs.declared.sample_count.SampleCount.{SampleCount}
use Rattle.lanes.specs.declared.block_samples.BlockSamples.{BlockSamples}
use Rattle.lanes.specs.Block.{stored_at}
use Rattle.readout.specs.declared.format.Format.{Format}
use Rattle.readout.specs.declared.pixel_rows.PixelRows.{PixelRows}
use Rattle.blocks.specs.Means.{HasMeansOf}
use Rattle.readout.specs.Colours.{IsSampleColour, IsPixelWith, LiesInBlock, AreWrittenTo}
use Rattle.blocks.specs.Layout.{block_in_tile, pixel_in_block, stored_in_tile}
use Rattle.canvas.specs.Layout.{HasPixel}
use Rattle.readout.specs.Pixels.{entry_of, shown_rows, IsPixelRow, AreWritten, AreWrittenIn}
use Rattle.blocks.proofs.Cut.{put, put_here, put_elsewhere}
use Rattle.readout.proofs.Units.{IsEntryOf, below_unit}

module _ (c : Canvas) (first end w stride : ℕ) (P : ℕ → ℕ → (ℕ → ℕ) → Type 0) where
  -- no pixel
  pub nothing_written : (In : ℕ → ℕ → Type 0) (xs : List ℕ) → ((i j : ℕ) → HasPixel c first end i j → In i j → ⊥) → AreWrittenIn c first end w stride In P xs xs
  nothing_written In xs none = record { pixels = λ i j h here. absurd (none i j h here); others = λ n apart. refl }

  -- all pixels
  pub all_written : (In : ℕ → ℕ → Type 0) (old new : List ℕ) → ((i j : ℕ) → HasPixel c first end i j → In i j) → AreWrittenIn c first end w stride In P old new → AreWritten c first end w stride P old new
  all_written In old new all d = record { pixels = λ i j h. d.pixels i j h (all i j h); others = λ n apart. d.others n (λ i j k h here small. apart i j k h small) }

  -- the same pixels, as another property says
  pub written_as : (In Is : ℕ → ℕ → Type 0) (Q : ℕ → ℕ → (ℕ → ℕ) → Type 0) (old new : List ℕ) → ((i j : ℕ) → HasPixel c first end i j → Is i j → In i j) → ((i j : ℕ) → HasPixel c first end i j → In i j → Is i j)
      → ((i j : ℕ) (bytes : ℕ → ℕ) → HasPixel c first end i j → In i j → P i j bytes → Q i j bytes) → AreWrittenIn c first end w stride In P old new → AreWrittenIn c first end w stride Is Q old new
  written_as In Is Q old new from to means d = record {
    pixels = λ i j h here. means i j _ h (from i j h here) (d.pixels i j h (from i j h here));
    others = λ n apart. d.others n (λ i j k h here small. apart i j k h (to i j h here) small);
  }

  module _ (same : (i j : ℕ) (f g : ℕ → ℕ) → ((k : ℕ) → k < w → g k ≡ f k) → P i j f → P i j g) where
    -- two pixels have no entry in common
    one_pixel : (i j k x y m : ℕ) → c.width * w ≤ stride → HasPixel c first end i j → HasPixel c first end x y → k < w → m < w → entry_of first w stride i j + k ≡ entry_of first w stride x y + m → (i ≡ x) × (j ≡ y)
    one_pixel i j k x y m wide h g small low e =
        let row = same_from_place (j - 64 * first) (i * w + k) (y - 64 * first) (x * w + m) stride (omega (arith, wide, below_unit w i k c.width h.column small)) (omega (arith, wide, below_unit w x m c.width g.column low)) (omega (arith, e)) in
        let column = same_from_place i k x m w small low row.1 in
        (column.0, omega (arith, row.0, h.from, g.from))

    -- some pixels, and then others
    pub both_written : (In Next Both : ℕ → ℕ → Type 0) (old middle new : List ℕ) → c.width * w ≤ stride
        → ((i j : ℕ) → HasPixel c first end i j → Both i j → In i j ⊎ Next i j) → ((i j : ℕ) → HasPixel c first end i j → In i j → Both i j) → ((i j : ℕ) → HasPixel c first end i j → Next i j → Both i j)
        → ((i j : ℕ) → In i j → Next i j → ⊥)
        → AreWrittenIn c first end w stride In P old middle → AreWrittenIn c first end w stride Next P middle new → AreWrittenIn c first end w stride Both P old new
    both_written In Next Both old middle new wide split left right apart before after = record {
      pixels = λ i j h here. elim (split i j h here) [
        | inl earlier ↦
            same i j _ _
            (λ k small.
            after.others (entry_of first w stride i j + k)
            (λ x y m g next low e.
            let is = one_pixel i j k x y m wide h g small low e in
            apart i j earlier (subst (λ b. Next i b) (sym is.1) (subst (λ a. Next a y) (sym is.0) next))))
            (before.pixels i j h earlier)
        | inr later ↦ after.pixels i j h later
      ];
      others = λ n other. after.others n (λ i j k h next small. other i j k h (right i j h next) small) ∙ before.others n (λ i j k h earlier small. other i j k h (left i j h earlier) small);
    }

    -- a run of pixels in a row, from column x on
    pub run_written : (index x many a size : ℕ) (r : PixelRow) (middle run : List ℕ) → IsPixelRow c first end w stride (length middle) index r → x + many ≤ c.width → a ≡ r.entries.start + x * w → size ≡ many * w → length run ≡ size
        → ((s : ℕ) → s < many * w → IsEntryOf w many s) → ((i : ℕ) → i < many → P (x + i) r.j (λ k. slice_index run (i * w + k)))
        → AreWrittenIn c first end w stride (λ i j. (j ≡ 64 * first + index) × (x ≤ i) × (i < x + many)) P middle (put middle run a size)
    run_written index x many a size r middle run is_row inside at is_size long entry written =
        let ends : (x + many) * w ≤ c.width * w = mul-le-mul_right w inside in
        let room : a + size ≤ length middle = omega (arith, ends, at, is_size, is_row.entries, is_row.entries_fit, add-mul x many w) in
        let start : (j : ℕ) → j ≡ 64 * first + index → (j - 64 * first) * stride ≡ r.entries.start =
        λ j here. ap (λ y. (y - 64 * first) * stride) (here ∙ sym is_row.line) ∙ omega (arith, is_row.first_entry) in
        let place : (i j k : ℕ) → j ≡ 64 * first + index → entry_of first w stride (x + i) j + k ≡ a + (i * w + k) = λ i j k here. omega (arith, start j here, at, add-mul x i w) in
        record {
          pixels = λ i j h here.
              let column : x + (i - x) ≡ i = omega (arith, here.1) in
              let run_of : P (x + (i - x)) j (λ k. slice_index (put middle run a size) (entry_of first w stride (x + (i - x)) j + k)) =
              same (x + (i - x)) j _ _
              (λ k small. ap (λ p. slice_index (put middle run a size) p) (place (i - x) j k here.0) ∙ put_here middle run a size 0 room long ((i - x) * w + k) (omega (arith, is_size, below_unit w (i - x) k many (omega (arith, here.1, here.2)) small)))
              (subst (λ y. P (x + (i - x)) y (λ k. slice_index run ((i - x) * w + k))) (is_row.line ∙ sym here.0) (written (i - x) (omega (arith, here.1, here.2)))) in
              subst (λ m. P m j (λ k. slice_index (put middle run a size) (entry_of first w stride m j + k))) column run_of;
          others = λ n other.
              put_elsewhere middle run a size 0 room long n
              (λ s l e.
              let is = entry s (omega (arith, l, is_size)) in
              let y : ℕ = 64 * first + index in
              let pixel : HasPixel c first end (x + is.i) y = record { column = omega (arith, is.inside, inside); row = omega (arith, is_row.line, is_row.shown); from = omega arith; below = omega (arith, is_row.line, is_row.below) } in
              other (x + is.i) y is.k pixel (refl, omega arith, omega (arith, is.inside)) is.small (omega (arith, e, place is.i y is.k refl, is.is)));
        }

  -- ---- whole rows
  -- the rows before this one
  abbrev pub AreRowsWritten : ℕ → List ℕ → List ℕ → Type 0
  AreRowsWritten row = AreWrittenIn c first end w stride (λ i j. j < 64 * first + row) P

  pub all_rows_written : (row : ℕ) (old new : List ℕ) → shown_rows c first end ≤ row → AreRowsWritten row old new → AreWritten c first end w stride P old new
  all_rows_written row old new past d = all_written (λ i j. j < 64 * first + row) old new (λ i j h. omega (arith, h.from, h.below, h.row, past)) d

  -- and one row more
  module _ (same : (i j : ℕ) (f g : ℕ → ℕ) → ((k : ℕ) → k < w → g k ≡ f k) → P i j f → P i j g) (index : ℕ) (r : PixelRow) (old middle out : List ℕ) (is_row : IsPixelRow c first end w stride (length middle) index r) (wide : c.width * w ≤ stride)
      (long : length out ≡ r.entries.end - r.entries.start) (before : AreRowsWritten index old middle) (entry : (s : ℕ) → s < c.width * w → IsEntryOf w c.width s)
      (written : (i : ℕ) → i < c.width → P i r.j (λ k. slice_index out (i * w + k))) where
    pub one_row_written : AreRowsWritten (index + 1) old (put middle out r.entries.start (r.entries.end - r.entries.start))
    one_row_written =
        both_written same (λ i j. j < 64 * first + index) (λ i j. (j ≡ 64 * first + index) × (0 ≤ i) × (i < 0 + c.width)) (λ i j. j < 64 * first + (index + 1)) old middle (put middle out r.entries.start (r.entries.end - r.entries.start)) wide
        (λ i j h here. elim (cases_lt j (64 * first + index)) [ inl less ↦ inl less | inr more ↦ inr (omega (arith, here, more), omega arith, omega (arith, h.column)) ])
        (λ i j h here. omega (arith, here)) (λ i j h here. omega (arith, here.0)) (λ i j here there. omega (arith, here, there.0)) before
        (run_written same index 0 c.width r.entries.start (r.entries.end - r.entries.start) r middle out is_row (omega arith) (omega arith) (omega (arith, is_row.entries)) long entry
        (λ i l. let here : i ≡ 0 + i = omega arith in subst (λ m. P m r.j (λ k. slice_index out (i * w + k))) here (written i l)))

-- the pixels have the colours of their means
pub by_means : (rows : PixelRows) (count : SampleCount) (xs : List BlockSamples) (plane : BlockSamples) (across down k : ℕ) (format : Format) (old new : List ℕ) → k ≡ block_in_tile (8 * across) (8 * down) → HasMeansOf count xs k plane
    → AreWrittenTo rows (LiesInBlock rows.tile_rows.first across down) (λ i j bytes. IsSampleColour format (stored_at plane (pixel_in_block i j)) bytes) old new
    → AreWrittenTo rows (LiesInBlock rows.tile_rows.first across down) (λ i j bytes. IsPixelWith count (stored_in_tile count xs i j) format bytes) old new
by_means rows count xs plane across down k format old new is means =
    written_as rows.tile_rows.canvas rows.tile_rows.first rows.tile_rows.end rows.unit rows.stride (λ i j bytes. IsSampleColour format (stored_at plane (pixel_in_block i j)) bytes)
    (LiesInBlock rows.tile_rows.first across down) (LiesInBlock rows.tile_rows.first across down) (λ i j bytes. IsPixelWith count (stored_in_tile count xs i j) format bytes) old new (λ i j h here. here) (λ i j h here. here)
    (λ i j bytes h here order.
    let block : block_in_tile i j ≡ k = omega (arith, here.column, here.row, is) in
    record { mean = stored_at plane (pixel_in_block i j); is_mean = means i j block; order = order })
