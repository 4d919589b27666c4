-- Triangles by their numbers in a list, and those of a tile row.
use Rattle.std.proofs.Common.{◌≡◌, ◌≢◌, ◌∙◌, sym, ap, subst, inl, inr, ℕ, pos, ◌+◌, ◌-◌, ◌*◌, ◌/◌, ◌<◌, ◌≤◌, List, [], ◌∷◌, ◌++◌, map, length, take, get_or, slice_get, slice_index, slice_index_or, Some, false, IsBitSet, arith}
use Rattle.std.proofs.lemmas.Bool.{cases_lt}
use Rattle.std.proofs.lemmas.List.{get_or-map, get_or-take, length-take, length-map, map-append, take_all}
use Rattle.std.proofs.lemmas.Option.{get_or_from_slice_get, slice_get-get_or, slice_get_within}
use Rattle.grid.specs.declared.cull.Cull.TheVariants.{None as Kept}
use Rattle.grid.specs.declared.pixels.TileSide.TheVariants.{T64}
use Rattle.grid.specs.Samples.{count_of}
use Rattle.shade.specs.declared.depth.DepthTest.TheVariants.{Never}
use Rattle.shade.specs.declared.sample.CanvasSample.{CanvasSample}
use Rattle.shade.specs.declared.placed.Placed.{Placed}
use Rattle.shade.specs.Presets.{none_blend}
use Rattle.shade.specs.Placed.{Meets}
use Rattle.shade.specs.Canvas.{CanvasDraws, CanvasEnds}
use Rattle.shade.proofs.Endings.{of_canvas, ends_more, ends_past, append-ends}
use Rattle.lanes.specs.declared.block_samples.BlockSamples.{BlockSamples}
use Rattle.raster.specs.declared.tile.Tile.{Tile}
use Rattle.raster.specs.Samples.{IsSampleOf}
use Rattle.raster.specs.Drawing.{DrawsTile}
use Rattle.reach.specs.declared.span.Span.{Span}
use Rattle.reach.specs.Bounds.{HasPlace, AreBounds}
use Rattle.reach.specs.Reach.{IsInSpan}
use Rattle.canvas.specs.declared.canvas.Canvas.{Canvas}
use Rattle.canvas.specs.Layout.{IsStoredIn, columns_of, rows_of}
use Rattle.canvas.specs.Drawing.{TileHasEnds}
use Rattle.canvas.specs.Rows.{AreOfRow, AreOfTile, numbered}
use Rattle.canvas.proofs.Ends.{tile_more}
use Rattle.canvas.proofs.Missed.{ends_unmet}

-- a triangle for numbers that are none's
pub nothing : Placed
nothing = record {
  tri = record { a = record { x = pos 0; y = pos 0 }; b = record { x = pos 0; y = pos 0 }; c = record { x = pos 0; y = pos 0 } };
  z = [];
  rgba = [];
  state = record { merge = record { test = Never; depth_write = false; write = []; blend = none_blend }; cull = Kept; sample_mask = 0; scissor = record { x0 = pos 0; y0 = pos 0; x1 = pos 0; y1 = pos 0 } };
}

-- ---- triangles by their numbers
module _ (ts : List Placed) (none : Placed) (numbers : List ℕ) (many : ℕ) (below : (p : ℕ) → p < many → slice_index numbers p < length ts) where
  abbrev us : List Placed
  us = numbered ts none (take many numbers)

  pub numbered_from : (p : ℕ) (t : Placed) → slice_get us p ≡ Some t → (p < many) × (slice_get ts (slice_index numbers p) ≡ Some t)
  numbered_from p t found =
      let f : ℕ → Placed = λ n. slice_index_or ts n none in
      let within : p < length us = slice_get_within us p t found in
      let short : p < length (take many numbers) = omega (arith, within, length-map (take many numbers) f) in
      let less : p < many = omega (arith, short, length-take many numbers) in
      let value : f (get_or (take many numbers) p 0) ≡ t = sym (get_or-map f (take many numbers) p 0 t short) ∙ get_or_from_slice_get us p t t found in
      let number : get_or (take many numbers) p 0 ≡ slice_index numbers p = get_or-take many numbers p 0 less in
      (less, slice_get-get_or ts (slice_index numbers p) none (below p less) ∙ ap Some (ap f (sym number) ∙ value))

  pub numbered_to : (p : ℕ) (t : Placed) → p < many → many ≤ length numbers → slice_get ts (slice_index numbers p) ≡ Some t → slice_get us p ≡ Some t
  numbered_to p t less whole found =
      let f : ℕ → Placed = λ n. slice_index_or ts n none in
      let short : p < length (take many numbers) = omega (arith, less, whole, length-take many numbers) in
      let within : p < length us = omega (arith, short, length-map (take many numbers) f) in
      let number : get_or (take many numbers) p 0 ≡ slice_index numbers p = get_or-take many numbers p 0 less in
      let value : f (slice_index numbers p) ≡ t = get_or_from_slice_get ts (slice_index numbers p) t none found in
      slice_get-get_or us p none within ∙ ap Some (get_or-map f (take many numbers) p 0 none short ∙ ap f number ∙ value)

-- ---- those of a tile row
module _ (ts : List Placed) (c : Canvas) (row : ℕ) where
  module _ (numbers firsts ends : List ℕ) (many : ℕ) (span : Span) where
    -- triangles that do not meet the row
    pub row_past : (n more : ℕ) → ((k : ℕ) (t : Placed) → n ≤ k → k < n + more → slice_get ts k ≡ Some t → (i j s : ℕ) → IsStoredIn c row (row + 1) i j s → ¬ Meets t c.count i j s)
        → AreOfRow ts c row n numbers firsts ends many span → AreOfRow ts c row (n + more) numbers firsts ends many span
    row_past n more missed a = record {
      below = a.below;
      columns = a.columns;
      makes = λ none i j s h x y e. ends_past (of_canvas c.count i j s) ts n more x y (λ k t low high found. missed k t low high found i j s h) (a.makes none i j s h x y e);
    }

    -- a sample of a tile in none of the columns
    pub row_unmet : AreOfRow ts c row (length ts) numbers firsts ends many span → (i j s : ℕ) → IsStoredIn c row (row + 1) i j s → ¬ IsInSpan span (i / 64) → (x : CanvasSample) → CanvasEnds ts c.count i j s x x
    row_unmet a i j s h outside x =
        let unmet : CanvasEnds (numbered ts nothing (take many numbers)) c.count i j s x x = ends_unmet (numbered ts nothing (take many numbers)) c.count i j s x
        (λ p t found m.
        let there = numbered_from ts nothing numbers many a.below p t found in
        outside (a.columns p t there.0 there.1 i j s h m).1) in
        let made : CanvasEnds (take (length ts) ts) c.count i j s x x = a.makes nothing i j s h x x unmet in
        rw (take_all (length ts) ts (omega arith)) at made

    -- one more
    module _ (new_numbers new_firsts new_ends : List ℕ) (new_span columns : Span) (k : ℕ) (within : k < length ts) (added : take (many + 1) new_numbers ≡ take many numbers ++ k ∷ [])
        (last : slice_index new_numbers many ≡ k) (first : slice_index new_firsts many ≡ columns.first) (end : slice_index new_ends many ≡ columns.end)
        (numbers_kept : (p : ℕ) → p ≢ many → slice_index new_numbers p ≡ slice_index numbers p) (firsts_kept : (p : ℕ) → p ≢ many → slice_index new_firsts p ≡ slice_index firsts p)
        (ends_kept : (p : ℕ) → p ≢ many → slice_index new_ends p ≡ slice_index ends p) (in_span : (n : ℕ) → IsInSpan columns n → IsInSpan new_span n) (span_kept : (n : ℕ) → IsInSpan span n → IsInSpan new_span n)
        (reached : (t : Placed) (i j s : ℕ) → slice_get ts k ≡ Some t → IsStoredIn c row (row + 1) i j s → Meets t c.count i j s → IsInSpan columns (i / 64)) where
      one_makes : (none : Placed) (i j s : ℕ) (x y : CanvasSample) → (CanvasEnds (numbered ts none (take many numbers)) c.count i j s x y → CanvasEnds (take k ts) c.count i j s x y) → CanvasEnds (numbered ts none (take many numbers ++ k ∷ [])) c.count i j s x y
          → ((z : CanvasSample) → CanvasEnds (numbered ts none (take many numbers)) c.count i j s x z → CanvasEnds (take k ts) c.count i j s x z) → CanvasEnds (take (k + 1) ts) c.count i j s x y
      one_makes none i j s x y here e before =
          let f : ℕ → Placed = λ n. slice_index_or ts n none in
          let joined : CanvasEnds (map f (take many numbers) ++ (f k ∷ [])) c.count i j s x y = subst (λ us. CanvasEnds us c.count i j s x y) (map-append f (take many numbers) (k ∷ [])) e in
          let parts = append-ends (of_canvas c.count i j s) (map f (take many numbers)) (f k ∷ []) x y joined in
          let draws : CanvasDraws (f k) c.count i j s parts.0 y = subst (λ z. CanvasDraws (f k) c.count i j s parts.0 z) (sym parts.2.2) parts.2.1 in
          ends_more (of_canvas c.count i j s) ts k (f k) x parts.0 y within (slice_get-get_or ts k none within) (before parts.0 parts.1) draws

      pub row_more : AreOfRow ts c row k numbers firsts ends many span → AreOfRow ts c row (k + 1) new_numbers new_firsts new_ends (many + 1) new_span
      row_more a = record {
        below = λ p l. elim (cases_lt p many) [
          | inl less ↦ let same = numbers_kept p (λ e. omega (arith, e, less)) in omega (arith, a.below p less, same)
          | inr more ↦ let here : p ≡ many = omega (arith, l, more) in let same : slice_index new_numbers p ≡ k = ap (slice_index new_numbers) here ∙ last in omega (arith, within, same)
        ];
        columns = λ p t l found i j s h m. elim (cases_lt p many) [
          | inl less ↦
              let other : p ≢ many = λ e. omega (arith, e, less) in
              let old : slice_get ts (slice_index numbers p) ≡ Some t = ap (slice_get ts) (sym (numbers_kept p other)) ∙ found in
              let there = a.columns p t less old i j s h m in
              let low = there.0.from in
              let high = there.0.below in
              (record { from = omega (arith, low, firsts_kept p other); below = omega (arith, high, ends_kept p other) }, span_kept (i / 64) there.1)
          | inr more ↦
              let here : p ≡ many = omega (arith, l, more) in
              let new : slice_get ts k ≡ Some t = ap (slice_get ts) (sym (ap (slice_index new_numbers) here ∙ last)) ∙ found in
              let there = reached t i j s new h m in
              let low = there.from in
              let high = there.below in
              let at_first : slice_index new_firsts p ≡ columns.first = ap (slice_index new_firsts) here ∙ first in
              let at_end : slice_index new_ends p ≡ columns.end = ap (slice_index new_ends) here ∙ end in
              (record { from = omega (arith, low, at_first); below = omega (arith, high, at_end) }, in_span (i / 64) there)
        ];
        makes = λ none i j s h x y e. one_makes none i j s x y (a.makes none i j s h x y) (subst (λ ns. CanvasEnds (numbered ts none ns) c.count i j s x y) added e) (λ z. a.makes none i j s h x z);
      }

  -- ---- from the bounds of sixteen triangles
  module _ (high : row < rows_of c) (column_firsts column_ends row_firsts row_ends : List ℕ) (span : Span) (bounds : AreBounds ts (length ts) column_firsts column_ends row_firsts row_ends span) where
    bounds_of : (k : ℕ) (t : Placed) → slice_get ts k ≡ Some t → (i j s : ℕ) → IsStoredIn c row (row + 1) i j s → Meets t c.count i j s → HasPlace column_firsts column_ends k (i / 64) × HasPlace row_firsts row_ends k (j / 64) × IsInSpan span (j / 64)
    bounds_of k t found i j s h m =
        let width = c.width_fits in
        let height = c.height_fits in
        bounds k t (slice_get_within ts k t found) found c.count i j s (record { column = omega (arith, h.column, width); row = omega (arith, h.below, high, height); is_sample = h.is_sample; meets = m })

    pub column_of_bounds : (k : ℕ) (t : Placed) → slice_get ts k ≡ Some t → (i j s : ℕ) → IsStoredIn c row (row + 1) i j s → Meets t c.count i j s → HasPlace column_firsts column_ends k (i / 64)
    column_of_bounds k t found i j s h m = (bounds_of k t found i j s h m).0

    row_of_bounds : (k : ℕ) (t : Placed) → slice_get ts k ≡ Some t → (i j s : ℕ) → IsStoredIn c row (row + 1) i j s → Meets t c.count i j s → HasPlace row_firsts row_ends k row
    row_of_bounds k t found i j s h m =
        let there = (bounds_of k t found i j s h m).1 in
        let same : j / 64 ≡ row = omega (arith, h.from, h.below) in
        let from = there.from in
        let below = there.below in
        record { from = omega (arith, from, same); below = omega (arith, below, same) }

    -- those from bit a to before bit z, if their bits are not set or there are no such triangles
    pub bits_past : (having from a z : ℕ) → a ≤ z → z ≤ 16 → ((bit : ℕ) → bit < 16 → HasPlace row_firsts row_ends (from + bit) row → IsBitSet having bit)
        → ((bit : ℕ) → a ≤ bit → bit < z → from + bit < length ts → ¬ IsBitSet having bit) → (numbers firsts ends : List ℕ) (many : ℕ) (others : Span)
        → AreOfRow ts c row (from + a) numbers firsts ends many others → AreOfRow ts c row (from + z) numbers firsts ends many others
    bits_past having from a z order most has unset numbers firsts ends many others before =
        let sum : (from + a) + (z - a) ≡ from + z = omega (arith, order) in
        subst (λ n. AreOfRow ts c row n numbers firsts ends many others) sum
        (row_past numbers firsts ends many others (from + a) (z - a)
        (λ k t low less found i j s h m.
        let there : from + (k - from) ≡ k = omega (arith, low) in
        let place : HasPlace row_firsts row_ends (from + (k - from)) row = subst (λ n. HasPlace row_firsts row_ends n row) (sym there) (row_of_bounds k t found i j s h m) in
        let within = slice_get_within ts k t found in
        unset (k - from) (omega (arith, low)) (omega (arith, low, less, order)) (omega (arith, there, within)) (has (k - from) (omega (arith, low, less, order, most)) place)) before)

-- ---- a tile of the row
module _ (ts : List Placed) (none : Placed) (numbers firsts ends : List ℕ) (many column : ℕ) (tile : Tile) (below : (p : ℕ) → p < many → slice_index numbers p < length ts)
    (of_tile : AreOfTile ts numbers firsts ends many column tile) where
  abbrev vs : List Placed
  vs = numbered ts none (take many numbers)

  tile_past : (n more : ℕ) (old new : List BlockSamples) → ((p : ℕ) (t : Placed) → n ≤ p → p < n + more → slice_get vs p ≡ Some t → (row across s : ℕ) → IsSampleOf tile row across s → ¬ Meets t tile.count (8 * tile.bx + across) (8 * tile.by + row) s)
      → TileHasEnds (take n vs) tile old new → TileHasEnds (take (n + more) vs) tile old new
  tile_past n more old new missed before row across s h =
      ends_past (of_canvas tile.count (8 * tile.bx + across) (8 * tile.by + row) s) vs n more _ _ (λ p t low high found. missed p t low high found row across s h) (before row across s h)

  pub tile_bits_past : (having from a z : ℕ) → a ≤ z → z ≤ 16 → ((bit : ℕ) → bit < 16 → HasPlace firsts ends (from + bit) column → IsBitSet having bit)
      → ((bit : ℕ) → a ≤ bit → bit < z → from + bit < many → ¬ IsBitSet having bit) → (old new : List BlockSamples) → TileHasEnds (take (from + a) vs) tile old new → TileHasEnds (take (from + z) vs) tile old new
  tile_bits_past having from a z order most has unset old new before =
      let sum : (from + a) + (z - a) ≡ from + z = omega (arith, order) in
      subst (λ n. TileHasEnds (take n vs) tile old new) sum
      (tile_past (from + a) (z - a) old new
      (λ p t low less found row across s h m.
      let there = numbered_from ts none numbers many below p t found in
      let place : from + (p - from) ≡ p = omega (arith, low) in
      let has_place : HasPlace firsts ends (from + (p - from)) column = subst (λ n. HasPlace firsts ends n column) (sym place) (of_tile p t there.0 there.1 row across s h m) in
      unset (p - from) (omega (arith, low)) (omega (arith, low, less, order)) (omega (arith, place, there.0)) (has (p - from) (omega (arith, low, less, order, most)) has_place)) before)

  pub tile_one : (n : ℕ) (t : Placed) (old middle new : List BlockSamples) → n < many → many ≤ length numbers → slice_get ts (slice_index numbers n) ≡ Some t → TileHasEnds (take n vs) tile old middle → DrawsTile t tile middle new
      → TileHasEnds (take (n + 1) vs) tile old new
  tile_one n t old middle new less whole found before draws =
      let found_here = numbered_to ts none numbers many below n t less whole found in
      tile_more vs tile n t old middle new (slice_get_within vs n t found_here) found_here before draws

-- the tile has the column's samples of the tile row
module _ (ts : List Placed) (c : Canvas) (row column : ℕ) (numbers firsts ends : List ℕ) (many : ℕ) (span : Span) (a : AreOfRow ts c row (length ts) numbers firsts ends many span)
    (tile : Tile) (is : (tile.bx ≡ 8 * column) × (tile.by ≡ 8 * row) × (tile.side ≡ T64) × (tile.count ≡ c.count)) (wide : column < columns_of c) where
  in_row : (across down s : ℕ) → IsSampleOf tile down across s → IsStoredIn c row (row + 1) (8 * tile.bx + across) (8 * tile.by + down) s
  in_row across down s h =
      let sample_wide : across < 64 = rw is.2 at h.wide in
      let sample_high : down < 64 = rw is.2 at h.high in
      let sample : s < count_of c.count = rw is.3 at h.is_sample in
      record { column = omega (arith, is.0, sample_wide, wide); from = omega (arith, is.1, sample_high); below = omega (arith, is.1, sample_high); is_sample = sample }

  pub columns_of_tile : AreOfTile ts numbers firsts ends many column tile
  columns_of_tile p t less found down across s h m =
      let sample_wide : across < 64 = rw is.2 at h.wide in
      let here : (8 * tile.bx + across) / 64 ≡ column = omega (arith, is.0, sample_wide) in
      subst (λ n. HasPlace firsts ends p n) here (a.columns p t less found (8 * tile.bx + across) (8 * tile.by + down) s (in_row across down s h) (rw is.3 at m)).0

  pub tile_of_row : (n : ℕ) → many ≤ n → (old new : List BlockSamples) → TileHasEnds (take n (numbered ts nothing (take many numbers))) tile old new → TileHasEnds ts tile old new
  tile_of_row n past old new drawn down across s h =
      let us : List Placed = numbered ts nothing (take many numbers) in
      let whole : take n us ≡ us = take_all n us (omega (arith, past, length-map (take many numbers) (λ k. slice_index_or ts k nothing), length-take many numbers)) in
      let ends = drawn down across s h in
      let all = rw (whole, is.3) at ends in
      let made = a.makes nothing (8 * tile.bx + across) (8 * tile.by + down) s (in_row across down s h) _ _ all in
      rw (take_all (length ts) ts (omega arith)) at (rw (← is.3) at made)

-- a sample of a tile row in which no triangle is
pub outside_bounds : (ts : List Placed) (c : Canvas) (first end : ℕ) → end ≤ rows_of c → (column_firsts column_ends row_firsts row_ends : List ℕ) (span : Span) → AreBounds ts (length ts) column_firsts column_ends row_firsts row_ends span
    → (i j s : ℕ) → IsStoredIn c first end i j s → ¬ IsInSpan span (j / 64) → (x : CanvasSample) → CanvasEnds ts c.count i j s x x
outside_bounds ts c first end within column_firsts column_ends row_firsts row_ends span bounds i j s h outside x =
    let width = c.width_fits in
    let height = c.height_fits in
    ends_unmet ts c.count i j s x
    (λ k t found m. outside (bounds k t (slice_get_within ts k t found) found c.count i j s (record { column = omega (arith, h.column, width); row = omega (arith, h.below, within, height); is_sample = h.is_sample; meets = m })).2)
