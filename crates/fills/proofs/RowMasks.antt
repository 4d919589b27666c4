-- What the bits of a tile row's masks say.
use Rattle.std.proofs.Common.{◌≡◌, ◌↔◌, subst, arith, ℕ, ◌+◌, ◌-◌, ◌*◌, ◌/◌, ◌%◌, ◌^◌, ◌<◌, ◌≤◌, List, slice_index, IsBitSet, ℤ, pos, ◌+ℤ◌, ◌*ℤ◌}
use Rattle.std.proofs.lemmas.Int.{ints, clamps}
use Rattle.std.specs.Int.{bit_at}
use Rattle.grid.specs.Position.{Position}
use Rattle.grid.specs.Samples.{count_of, offsets_x, offsets_y}
use Rattle.grid.specs.declared.sample_count.SampleCount.{SampleCount}
use Rattle.lanes.specs.declared.block_samples.BlockSamples.{BlockSamples}
use Rattle.shade.specs.declared.state.State.{State}
use Rattle.polygons.specs.declared.strip.Strip.{Strip}
use Rattle.polygons.specs.Blocks.{in_block, IsBlockMask}
use Rattle.polygons.specs.Cells.{mask_at}
use Rattle.polygons.specs.Polygon.{PolygonCovers, polygon_edges}
use Rattle.polygons.specs.Rings.{rings_from}
use Rattle.polygons.specs.Screen.{screen_sample}
use Rattle.polygons.specs.Strip.{strip_sample}
use Rattle.raster.specs.Drawing.{Allows}
use Rattle.raster.proofs.Bits.{is_one, is_set}
use Rattle.canvas.specs.declared.canvas.Canvas.{Canvas}
use Rattle.canvas.specs.declared.window.Origin.{Origin}
use Rattle.canvas.specs.Layout.{IsStoredIn, columns_of}
use Rattle.canvas.specs.Window.{moved_state}
use Rattle.block_fills.specs.declared.masks.Masks.{Masks}
use Rattle.fills.specs.declared.polygon.Polygon.{Polygon}
use Rattle.fills.specs.Painting.{IsInScissor, shape_of}
use Rattle.block_fills.specs.Parts.{IsFlagged, RowsPaint}
use Rattle.fills.specs.Parts.{seen_fragment, AreMasksOfRow, MeetsHere}
use Rattle.block_fills.proofs.Joined.{rows_same}

-- the state as seen from the origin lets the same samples be drawn
allows_here : (state : State) (x y : ℤ) (i j s : ℕ) → i < 4096 → j < 4096 → Allows (moved_state x y state) i j s → IsInScissor state.scissor (pos i +ℤ x) (pos j +ℤ y)
allows_here state x y i j s h l p =
    let q = p.in_scissor in
    record {
      left = (let e = q.left in omega (arith, ints, clamps));
      right = (let e = q.right in omega (arith, ints, clamps));
      top = (let e = q.top in omega (arith, ints, clamps));
      bottom = (let e = q.bottom in omega (arith, ints, clamps));
    }

here_allows : (state : State) (x y : ℤ) (i j s : ℕ) → i < 4096 → j < 4096 → IsInScissor state.scissor (pos i +ℤ x) (pos j +ℤ y) → state.sample_mask / 2 ^ s % 2 ≡ 1 → Allows (moved_state x y state) i j s
here_allows state x y i j s h l q m = record {
  in_scissor = record {
    left = (let e = q.left in omega (arith, ints, clamps));
    right = (let e = q.right in omega (arith, ints, clamps));
    top = (let e = q.top in omega (arith, ints, clamps));
    bottom = (let e = q.bottom in omega (arith, ints, clamps));
  };
  in_mask = m;
}

-- where a bit's sample lies
place_of : (strip : Strip) (origin : Origin) (count : SampleCount) (first row i j s : ℕ) → strip.column ≡ origin.x +ℤ pos (8 * first) → strip.row ≡ origin.y +ℤ pos (64 * row) → strip.count ≡ count → first ≤ i / 8 → j / 64 ≡ row
    → in_block (strip_sample strip s (8 * (j % 64 / 8)) (8 * (i / 8 - first))) (j % 8) (i % 8) ≡ screen_sample (pos i +ℤ origin.x) (pos j +ℤ origin.y) s count
place_of strip origin count first row i j s across down same left line =
    let ox : slice_index (offsets_x strip.count) s ≡ slice_index (offsets_x count) s = λ k. slice_index (offsets_x (same k)) s in
    let oy : slice_index (offsets_y strip.count) s ≡ slice_index (offsets_y count) s = λ k. slice_index (offsets_y (same k)) s in
    let x : ((pos 256 *ℤ strip.column +ℤ pos (slice_index (offsets_x strip.count) s)) +ℤ pos 256 *ℤ pos (8 * (i / 8 - first))) +ℤ pos 256 *ℤ pos (i % 8) ≡ pos 256 *ℤ (pos i +ℤ origin.x) +ℤ pos (slice_index (offsets_x count) s) =
    at_x strip.column origin.x first i (slice_index (offsets_x strip.count) s) (slice_index (offsets_x count) s) across ox left in
    let y : ((pos 256 *ℤ strip.row +ℤ pos (slice_index (offsets_y strip.count) s)) +ℤ pos (256 * (8 * (j % 64 / 8)))) +ℤ pos (256 * (j % 8)) ≡ pos 256 *ℤ (pos j +ℤ origin.y) +ℤ pos (slice_index (offsets_y count) s) =
    at_y strip.row origin.y row j (slice_index (offsets_y strip.count) s) (slice_index (offsets_y count) s) down oy line in
    λ k. record { x = x k; y = y k }
  where
    at_x : (column x : ℤ) (first i o p : ℕ) → column ≡ x +ℤ pos (8 * first) → o ≡ p → first ≤ i / 8
        → ((pos 256 *ℤ column +ℤ pos o) +ℤ pos 256 *ℤ pos (8 * (i / 8 - first))) +ℤ pos 256 *ℤ pos (i % 8) ≡ pos 256 *ℤ (pos i +ℤ x) +ℤ pos p
    at_x column x first i o p e f l = omega (arith, ints)

    at_y : (line y : ℤ) (row j o p : ℕ) → line ≡ y +ℤ pos (64 * row) → o ≡ p → j / 64 ≡ row
        → ((pos 256 *ℤ line +ℤ pos o) +ℤ pos (256 * (8 * (j % 64 / 8)))) +ℤ pos (256 * (j % 8)) ≡ pos 256 *ℤ (pos j +ℤ y) +ℤ pos p
    at_y line y row j o p e f l = omega (arith, ints)

-- the masks of a strip are those of the tile row
pub masks_of_row : (polygon : Polygon) (origin : Origin) (c : Canvas) (row first many each : ℕ) (strip : Strip) (flags : List (List ℕ)) → strip.column ≡ origin.x +ℤ pos (8 * first) → strip.row ≡ origin.y +ℤ pos (64 * row) → strip.count ≡ c.count
    → ((s row column : ℕ) → s < count_of strip.count → row < 8 → column < many
    → IsBlockMask polygon.rule (polygon_edges (rings_from polygon.rings.corners.now polygon.rings.start polygon.rings.ends.now)) (strip_sample strip s (8 * row) (8 * column)) (mask_at flags each column row s))
    → AreMasksOfRow polygon origin c row first many each flags
masks_of_row polygon origin c row first many each strip flags across down same masks i j s h left right =
    let line : j / 64 ≡ row = (let lower = h.from in let below = h.below in omega (arith, lower, below)) in
    let column : ℕ = i / 8 - first in
    let m = masks s (j % 64 / 8) column (rw same h.is_sample) (omega arith) (omega (arith, left, right)) (j % 8) (i % 8) (omega arith) (omega arith) in
    let sample = place_of strip origin c.count first row i j s across down same left line in
    let at = subst (λ (p : Position). (bit_at (mask_at flags each column (j % 64 / 8) s) (8 * (j % 8) + i % 8) ≡ 1) ↔ PolygonCovers polygon.rule (shape_of polygon).rings p) sample m in
    ((λ set. at.0 (is_one _ (8 * (j % 8) + i % 8) set)), (λ covers. is_set _ (8 * (j % 8) + i % 8) (at.1 covers)))

-- ---- all masks
module _ (polygon : Polygon) (origin : Origin) (c : Canvas) (row first many each : ℕ) (masks : Masks) (columns : masks.each ≡ each) (inside : first + many ≤ 8 * columns_of c) (in_picture : row < 64)
    (are : AreMasksOfRow polygon origin c row first many each masks.flags.now) where
  module _ (i j s : ℕ) (h : IsStoredIn c row (row + 1) i j s) (left : first ≤ i / 8) (right : i / 8 < first + many) where
    thin : i < 4096
    thin = let wide = c.width_fits in omega (arith, inside, right, wide)

    short : j < 4096
    short = let below = h.below in omega (arith, below, in_picture)

    said : IsBitSet (mask_at masks.flags.now masks.each (i / 8 - first) (j % 64 / 8) s) (8 * (j % 8) + i % 8)
        ↔ PolygonCovers polygon.rule (shape_of polygon).rings (screen_sample (pos i +ℤ origin.x) (pos j +ℤ origin.y) s c.count)
    said = rw columns (are i j s h left right)

    meets_flagged : IsFlagged (seen_fragment polygon origin).state first many masks i j s → MeetsHere polygon origin c.count i j s
    meets_flagged p = record {
      covered = said.0 p.in_masks;
      in_scissor = allows_here polygon.state origin.x origin.y i j s thin short (record { in_scissor = p.allowed.in_scissor; in_mask = p.allowed.in_mask });
      in_mask = p.allowed.in_mask;
    }

    flagged_met : MeetsHere polygon origin c.count i j s → IsFlagged (seen_fragment polygon origin).state first many masks i j s
    flagged_met m =
        let allowed = here_allows polygon.state origin.x origin.y i j s thin short m.in_scissor m.in_mask in
        record { left = omega (arith, left); right = omega (arith, right); in_masks = said.1 m.covered; allowed = record { in_scissor = allowed.in_scissor; in_mask = allowed.in_mask } }

  pub all_met : (held : (i j s : ℕ) → IsStoredIn c row (row + 1) i j s → MeetsHere polygon origin c.count i j s → (first ≤ i / 8) × (i / 8 < first + many)) (old new : List BlockSamples)
      → RowsPaint (seen_fragment polygon origin) c row (row + 1) (IsFlagged (seen_fragment polygon origin).state first many masks) old new
      → RowsPaint (seen_fragment polygon origin) c row (row + 1) (MeetsHere polygon origin c.count) old new
  all_met held old new paints =
      rows_same (seen_fragment polygon origin) c row (row + 1) (IsFlagged (seen_fragment polygon origin).state first many masks) (MeetsHere polygon origin c.count) old new paints
      (λ i j s h m. let place = held i j s h m in flagged_met i j s h place.0 place.1 m)
      (λ i j s h p. meets_flagged i j s h (omega (arith, p.left)) (omega (arith, p.right)) p)
