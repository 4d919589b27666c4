-- What triangles make of tiles, one after another.
use Rattle.std.proofs.Common.{◌≡◌, ◌≢◌, ◌∙◌, inl, inr, refl, sym, ap, subst, ℕ, ◌+◌, ◌-◌, ◌*◌, ◌/◌, ◌%◌, ◌<◌, ◌≤◌, List, ◌++◌, length, take, drop, slice_get, Some, arith}
use Rattle.std.proofs.lemmas.Bool.{cases_lt}
use Rattle.std.proofs.Math.Seq.{take-add}
use Rattle.std.proofs.lemmas.List.{take_all}
use Rattle.grid.specs.declared.pixels.TileSide.TheVariants.{T64}
use Rattle.grid.specs.declared.sample_count.SampleCount.{SampleCount}
use Rattle.shade.specs.declared.sample.CanvasSample.{CanvasSample}
use Rattle.lanes.specs.declared.block_samples.BlockSamples.{BlockSamples}
use Rattle.shade.specs.declared.placed.Placed.{Placed}
use Rattle.shade.specs.Canvas.{CanvasEnds}
use Rattle.shade.proofs.Endings.{of_canvas, ends_more, ends-append, ends-unique}
use Rattle.raster.specs.declared.tile.Tile.{Tile}
use Rattle.raster.specs.Samples.{IsSampleOf}
use Rattle.raster.specs.Drawing.{DrawsTile}
use Rattle.blocks.proofs.Cut.{put}
use Rattle.canvas.specs.declared.canvas.Canvas.{Canvas}
use Rattle.blocks.specs.Layout.{planes_of_tile, stored_in_tile}
use Rattle.canvas.specs.Layout.{IsStoredIn, planes_of_row, stored}
use Rattle.canvas.specs.Drawing.{HaveEnds, TileEnds, TileHasEnds}
use Rattle.canvas.proofs.Places.{row_of, tile_of, row_put, row_kept, tile_put, tile_kept}

-- the same at equal arguments
pub ends_at : (ts : List Placed) (n n' : SampleCount) (i i' j j' s : ℕ) (x x' y y' : CanvasSample) → n ≡ n' → i ≡ i' → j ≡ j' → x ≡ x' → y ≡ y' → CanvasEnds ts n i j s x y → CanvasEnds ts n' i' j' s x' y'
ends_at ts n n' i i' j j' s x x' y y' count across down old new h = rw (← count, ← across, ← down, ← old, ← new) h

-- ---- triangles at one tile

pub tile_more : (ts : List Placed) (tile : Tile) (n : ℕ) (t : Placed) (old middle new : List BlockSamples) → n < length ts → slice_get ts n ≡ Some t
    → TileHasEnds (take n ts) tile old middle → DrawsTile t tile middle new → TileHasEnds (take (n + 1) ts) tile old new
tile_more ts tile n t old middle new below is before draws row column s h =
    ends_more (of_canvas tile.count (8 * tile.bx + column) (8 * tile.by + row) s) ts n t _ _ _ below is (before row column s h) (draws row column s h)

pub tile_ends : (ts : List Placed) (tile : Tile) (n : ℕ) (old new : List BlockSamples) → length ts ≤ n → TileHasEnds (take n ts) tile old new → TileHasEnds ts tile old new
tile_ends ts tile n old new past h = rw (take_all n ts past) at h

-- ---- parts of tile rows, one after another: the tiles of a row, or the tile rows
module _ (ts : List Placed) (c : Canvas) (first end : ℕ) (part_of_pixel : ℕ → ℕ → ℕ) where
  -- the parts before this one have been drawn, and the others are unchanged
  pub record AreDrawn (n : ℕ) (old new : List BlockSamples) : Type 0 where
    pub drawn : (i j s : ℕ) → IsStoredIn c first end i j s → part_of_pixel i j < n → CanvasEnds ts c.count i j s (stored c first old i j s) (stored c first new i j s)
    pub kept : (i j s : ℕ) → IsStoredIn c first end i j s → n ≤ part_of_pixel i j → stored c first new i j s ≡ stored c first old i j s

  -- none of the triangles meets a sample of these parts
  abbrev pub AreMissed : (ℕ → Type 0) → Type 0
  AreMissed IsPart = (i j s : ℕ) → IsStoredIn c first end i j s → IsPart (part_of_pixel i j) → (x : CanvasSample) → CanvasEnds ts c.count i j s x x

  pub none_drawn : (n : ℕ) (xs : List BlockSamples) → AreMissed (λ p. p < n) → AreDrawn n xs xs
  none_drawn n xs missed = record { drawn = λ i j s h l. missed i j s h l (stored c first xs i j s); kept = λ i j s h l. refl }

  pub one_missed : (n : ℕ) (old new : List BlockSamples) → AreMissed (λ p. p ≡ n) → AreDrawn n old new → AreDrawn (n + 1) old new
  one_missed n old new missed before = record {
    drawn = λ i j s h l. elim (cases_lt (part_of_pixel i j) n) [
      | inl less ↦ before.drawn i j s h less
      | inr more ↦ subst (λ x. CanvasEnds ts c.count i j s (stored c first old i j s) x) (sym (before.kept i j s h more)) (let here : part_of_pixel i j ≡ n = omega (arith, l, more) in missed i j s h here (stored c first old i j s))
    ];
    kept = λ i j s h l. before.kept i j s h (omega (arith, l));
  }

  pub all_drawn : (n : ℕ) (old new : List BlockSamples) → AreMissed (λ p. n ≤ p) → AreDrawn n old new → HaveEnds ts c first end old new
  all_drawn n old new missed d i j s h =
      elim (cases_lt (part_of_pixel i j) n) [
        | inl less ↦ d.drawn i j s h less
        | inr more ↦ subst (λ x. CanvasEnds ts c.count i j s (stored c first old i j s) x) (sym (d.kept i j s h more)) (missed i j s h more (stored c first old i j s))
      ]

  pub one_drawn : (n : ℕ) (old middle new : List BlockSamples)
      → ((i j s : ℕ) → IsStoredIn c first end i j s → ¬ (part_of_pixel i j ≡ n) → stored c first new i j s ≡ stored c first middle i j s)
      → ((i j s : ℕ) → IsStoredIn c first end i j s → part_of_pixel i j ≡ n → CanvasEnds ts c.count i j s (stored c first middle i j s) (stored c first new i j s))
      → AreDrawn n old middle → AreDrawn (n + 1) old new
  one_drawn n old middle new stays ends before = record {
    drawn = λ i j s h l. elim (cases_lt (part_of_pixel i j) n) [
      | inl less ↦ subst (λ x. CanvasEnds ts c.count i j s (stored c first old i j s) x) (sym (stays i j s h (λ e. omega (arith, e, less)))) (before.drawn i j s h less)
      | inr more ↦ subst (λ x. CanvasEnds ts c.count i j s x (stored c first new i j s)) (before.kept i j s h more) (ends i j s h (omega (arith, l, more)))
    ];
    kept = λ i j s h l. stays i j s h (λ e. omega (arith, e, l)) ∙ before.kept i j s h (omega (arith, l));
  }

-- ---- the tiles of a row
-- a sample is found by its pixel's place in the tile
within : (n m : SampleCount) (xs : List BlockSamples) (i j s : ℕ) → n ≡ m → stored_in_tile n xs (i % 64) (j % 64) s ≡ stored_in_tile m xs i j s
within n m xs i j s same =
    let across : i % 64 % 64 ≡ i % 64 = omega arith in
    let down : j % 64 % 64 ≡ j % 64 = omega arith in
    let column : i % 64 % 8 ≡ i % 8 = omega arith in
    let line : j % 64 % 8 ≡ j % 8 = omega arith in
    rw (across, down, column, line, same) refl

abbrev pub column_of : ℕ → ℕ → ℕ
column_of i j = i / 64

module _ (ts : List Placed) (c : Canvas) (row : ℕ) where
  abbrev pub AreTilesDrawn : ℕ → List BlockSamples → List BlockSamples → Type 0
  AreTilesDrawn column old new = AreDrawn ts c row (row + 1) column_of column old new

  module _ (column : ℕ) (old middle part : List BlockSamples) (n a : ℕ) (room : a + n ≤ length middle) (long : length part ≡ n) (many : n ≡ planes_of_tile c.count) (at : a ≡ column * planes_of_tile c.count)
      (tile : Tile) (is : (tile.bx ≡ 8 * column) × (tile.by ≡ 8 * row) × (tile.side ≡ T64) × (tile.count ≡ c.count)) (before : AreTilesDrawn column old middle) (draws : TileEnds ts tile (take n (drop a middle)) part) where
    module _ (i j s : ℕ) (h : IsStoredIn c row (row + 1) i j s) where
      in_row : j / 64 ≡ row
      in_row = omega (arith, h.from, h.below)

      sample_kept : i / 64 ≢ column → stored c row (put middle part a n) i j s ≡ stored c row middle i j s
      sample_kept other = tile_kept c i j s middle part n a room long row in_row column many at h.is_sample other

      sample_drawn : i / 64 ≡ column → CanvasEnds ts c.count i j s (stored c row middle i j s) (stored c row (put middle part a n) i j s)
      sample_drawn same =
          let in_tile_here : IsSampleOf tile (j % 64) (i % 64) s = record { high = rw is.2 (omega arith); wide = rw is.2 (omega arith); is_sample = rw is.3 h.is_sample } in
          let across : 8 * tile.bx + i % 64 ≡ i = omega (arith, is.0, same) in
          let down : 8 * tile.by + j % 64 ≡ j = omega (arith, is.1, in_row) in
          let old_is : stored_in_tile tile.count (take n (drop a middle)) (i % 64) (j % 64) s ≡ stored c row middle i j s =
          within tile.count c.count (take n (drop a middle)) i j s is.3 ∙ tile_of c i j s row middle n a in_row many (at ∙ ap (λ k. k * planes_of_tile c.count) (sym same)) h.is_sample in
          let new_is : stored_in_tile tile.count part (i % 64) (j % 64) s ≡ stored c row (put middle part a n) i j s =
          within tile.count c.count part i j s is.3 ∙ sym (tile_put c i j s middle part n a room long row in_row column many at h.is_sample same) in
          ends_at ts _ _ _ _ _ _ s _ _ _ _ is.3 across down old_is new_is (draws (j % 64) (i % 64) s in_tile_here)

    pub one_tile_drawn : AreTilesDrawn (column + 1) old (put middle part a n)
    one_tile_drawn = one_drawn ts c row (row + 1) column_of column old middle (put middle part a n) sample_kept sample_drawn before

-- ---- the tile rows
abbrev pub row_of_tiles : ℕ → ℕ → ℕ
row_of_tiles i j = j / 64

module _ (ts : List Placed) (c : Canvas) (first end : ℕ) where
  abbrev pub AreRowsDrawn : ℕ → List BlockSamples → List BlockSamples → Type 0
  AreRowsDrawn row old new = AreDrawn ts c first end row_of_tiles row old new

  module _ (row : ℕ) (from : first ≤ row) (old middle part : List BlockSamples) (n a : ℕ) (room : a + n ≤ length middle) (long : length part ≡ n) (many : n ≡ planes_of_row c) (at : a ≡ (row - first) * planes_of_row c)
      (before : AreRowsDrawn row old middle) (draws : HaveEnds ts c row (row + 1) (take n (drop a middle)) part) where
    module _ (i j s : ℕ) (h : IsStoredIn c first end i j s) where
      sample_stays : j / 64 ≢ row → stored c first (put middle part a n) i j s ≡ stored c first middle i j s
      sample_stays other = row_kept c i j s middle part n a room long first row many at from h.from h.column h.is_sample other

      sample_ends : j / 64 ≡ row → CanvasEnds ts c.count i j s (stored c first middle i j s) (stored c first (put middle part a n) i j s)
      sample_ends same =
          let in_row : IsStoredIn c row (row + 1) i j s = record { column = h.column; from = omega (arith, same); below = omega (arith, same); is_sample = h.is_sample } in
          let old_is : stored c row (take n (drop a middle)) i j s ≡ stored c first middle i j s = (row_of c i j s row first middle n a same many (at ∙ ap (λ k. (k - first) * planes_of_row c) (sym same)) h.column h.is_sample) in
          let new_is : stored c row part i j s ≡ stored c first (put middle part a n) i j s = sym (row_put c i j s middle part n a room long first row many at from h.from h.column h.is_sample same) in
          ends_at ts _ _ _ _ _ _ s _ _ _ _ refl refl refl old_is new_is (draws i j s in_row)

    pub one_row_drawn : AreRowsDrawn (row + 1) old (put middle part a n)
    one_row_drawn = one_drawn ts c first end row_of_tiles row old middle (put middle part a n) sample_stays sample_ends before

-- ---- batches

pub ends_joined : (ts us : List Placed) (c : Canvas) (first end : ℕ) (old middle new : List BlockSamples) → HaveEnds ts c first end old middle → HaveEnds us c first end middle new → HaveEnds (ts ++ us) c first end old new
ends_joined ts us c first end old middle new a b i j s h = ends-append (of_canvas c.count i j s) ts us _ _ _ (a i j s h) (b i j s h)

pub ends_one : (ts : List Placed) (c : Canvas) (first end : ℕ) (old new other : List BlockSamples) → HaveEnds ts c first end old new → HaveEnds ts c first end old other
    → (i j s : ℕ) → IsStoredIn c first end i j s → stored c first new i j s ≡ stored c first other i j s
ends_one ts c first end old new other a b i j s h = ends-unique (of_canvas c.count i j s) ts _ _ _ (a i j s h) (b i j s h)

pub one_chunk_more : (ts : List Placed) (c : Canvas) (first end n many : ℕ) (old middle new : List BlockSamples) → HaveEnds (take n ts) c first end old middle → HaveEnds (take many (drop n ts)) c first end middle new
    → HaveEnds (take (n + many) ts) c first end old new
one_chunk_more ts c first end n many old middle new a b =
    let joined : HaveEnds (take n ts ++ take many (drop n ts)) c first end old new = ends_joined (take n ts) (take many (drop n ts)) c first end old middle new a b in
    subst (λ us. HaveEnds us c first end old new) (sym (take-add n many ts)) joined

pub all_chunks : (ts : List Placed) (c : Canvas) (first end n : ℕ) (old new : List BlockSamples) → length ts ≤ n → HaveEnds (take n ts) c first end old new → HaveEnds ts c first end old new
all_chunks ts c first end n old new past h = rw (take_all n ts past) at h
