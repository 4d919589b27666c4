-- Triangles that are left out of a tile.
use Rattle.std.proofs.Common.{zero, suc, ◌-◌, subst, ◌≡◌, ◌⊎◌, inl, inr, refl, sym, ◌∙◌, ap, ℕ, ◌+◌, ◌*◌, ◌/◌, ◌%◌, ◌^◌, ◌<◌, ◌≤◌, List, length, take, get_or, slice_get, slice_index, None, Some, IsBitSet, bit_and, arith}
use Rattle.std.specs.Int.{bit_at}
use Rattle.std.proofs.lemmas.Option.{slice_get_cases, slice_get-get_or}
use Rattle.std.proofs.lemmas.Nat.{shr-shr}
use Rattle.canvas.proofs.Ends.{tile_ends}
use Rattle.std.proofs.lemmas.Nat.Bits.{bit_at-zero}
use Rattle.grid.specs.declared.pixels.TileSide.TheVariants.{T64}
use Rattle.lanes.specs.declared.block_samples.BlockSamples.{BlockSamples}
use Rattle.shade.specs.declared.placed.Placed.{Placed}
use Rattle.shade.specs.Placed.{Meets}
use Rattle.shade.proofs.Endings.{of_canvas, ends_more}
use Rattle.raster.specs.declared.tile.Tile.{Tile}
use Rattle.raster.specs.Samples.{IsSampleOf}
use Rattle.reach.specs.declared.marks.Reached.{Reached}
use Rattle.reach.specs.Reach.{MeetsOnScreen, AreReached}
use Rattle.reach.proofs.Bits.{is_one, both_set}
use Rattle.canvas.specs.declared.canvas.Canvas.{Canvas}
use Rattle.canvas.specs.Layout.{columns_of, rows_of}
use Rattle.canvas.specs.Drawing.{TileHasEnds}
use Rattle.canvas.specs.Rows.{IsMaskOf}

-- ---- a triangle that is left out
pub tile_past : (ts : List Placed) (tile : Tile) (n : ℕ) (t : Placed) (old new : List BlockSamples) → n < length ts → slice_get ts n ≡ Some t
    → ((row column s : ℕ) → IsSampleOf tile row column s → ¬ Meets t tile.count (8 * tile.bx + column) (8 * tile.by + row) s)
    → TileHasEnds (take n ts) tile old new → TileHasEnds (take (n + 1) ts) tile old new
tile_past ts tile n t old new below is missed before row column s h =
    ends_more (of_canvas tile.count (8 * tile.bx + column) (8 * tile.by + row) s) ts n t _ _ _ below is (before row column s h)
    (record { met = λ m. absurd (missed row column s h m); missed = λ _. refl })

-- the bits that a column and a row have in common
pub mask_of_tile : (c : Canvas) (ts : List Placed) (r : Reached) (column row : ℕ) (tile : Tile) → (tile.bx ≡ 8 * column) × (tile.by ≡ 8 * row) × (tile.side ≡ T64) × (tile.count ≡ c.count)
    → column < columns_of c → row < rows_of c → AreReached ts r → IsMaskOf ts tile (bit_and (slice_index r.columns.words column) (slice_index r.rows.words row))
mask_of_tile c ts r column row tile is wide high reached k t found unset tile_row tile_column s h m =
    let sample_wide : tile_column < 64 = rw is.2 at h.wide in
    let sample_high : tile_row < 64 = rw is.2 at h.high in
    let across : (8 * tile.bx + tile_column) / 64 ≡ column = omega (arith, is.0, sample_wide) in
    let down : (8 * tile.by + tile_row) / 64 ≡ row = omega (arith, is.1, sample_high) in
    let width = c.width_fits in
    let height = c.height_fits in
    let on_screen : MeetsOnScreen t tile.count (8 * tile.bx + tile_column) (8 * tile.by + tile_row) s =
    record { column = omega (arith, is.0, sample_wide, wide, width); row = omega (arith, is.1, sample_high, high, height); is_sample = h.is_sample; meets = m } in
    let marks = rw (across, down) at (reached k t found tile.count (8 * tile.bx + tile_column) (8 * tile.by + tile_row) s on_screen) in
    unset ((both_set (slice_index r.columns.words column) (slice_index r.rows.words row) k).1 (marks.0.bit, marks.1.bit))

-- ---- places in the chunk
pub item_found : (ts : List Placed) (k : ℕ) (item : Placed) → k < length ts → item ≡ get_or ts k item → slice_get ts k ≡ Some item
item_found ts k item below is = slice_get-get_or ts k item below ∙ ap Some (sym is)

skipped_when : (ts : List Placed) (tile : Tile) (n mask : ℕ) (old new : List BlockSamples) → n < length ts → IsMaskOf ts tile mask → ¬ IsBitSet mask n → TileHasEnds (take n ts) tile old new
    → ((x : Placed) × (n < length ts) × (slice_get ts n ≡ Some x) × (get_or ts n x ≡ x)) ⊎ ((length ts ≤ n) × (slice_get ts n ≡ None)) → TileHasEnds (take (n + 1) ts) tile old new
skipped_when ts tile n mask old new below is unset before (inl w) = tile_past ts tile n w.0 old new below w.2 (is n w.0 w.2 unset) before
skipped_when ts tile n mask old new below is unset before (inr w) = absurd (omega (arith, below, w.0))

pub tile_skipped : (ts : List Placed) (tile : Tile) (n mask : ℕ) (old new : List BlockSamples) → n < length ts → IsMaskOf ts tile mask → ¬ (mask / 2 ^ n % 2 ≡ 1) → TileHasEnds (take n ts) tile old new → TileHasEnds (take (n + 1) ts) tile old new
tile_skipped ts tile n mask old new below is unset before = skipped_when ts tile n mask old new below is (λ set. unset (is_one mask n set)) before (slice_get_cases ts n).1

-- those from the first on whose bits are not set
pub run_skipped : (ts : List Placed) (tile : Tile) (mask : ℕ) (old new : List BlockSamples) → IsMaskOf ts tile mask → (n many : ℕ) → n + many ≤ length ts → ((i : ℕ) → i < many → bit_at (mask / 2 ^ n) i ≡ 0) → TileHasEnds (take n ts) tile old new → TileHasEnds (take (n + many) ts) tile old new
run_skipped ts tile mask old new is n zero room unset before = let none : n + 0 ≡ n = omega arith in rw none before
run_skipped ts tile mask old new is n (suc many) room unset before =
    let more : n + suc many ≡ (n + many) + 1 = omega arith in
    let rest = run_skipped ts tile mask old new is n many (omega arith) (λ i l. unset i (omega arith)) before in
    let same : bit_at (mask / 2 ^ n) many ≡ mask / 2 ^ (n + many) % 2 = ap (λ x. x % 2) (shr-shr mask n many) in
    let last : bit_at (mask / 2 ^ n) many ≡ 0 = unset many (omega arith) in
    rw more (tile_skipped ts tile (n + many) mask old new (omega arith) is (λ one. omega (arith, one, same, last)) rest)

-- no bit is left
pub rest_skipped : (ts : List Placed) (tile : Tile) (mask n : ℕ) (old new : List BlockSamples) → IsMaskOf ts tile mask → n ≤ length ts → mask / 2 ^ n ≡ 0 → TileHasEnds (take n ts) tile old new → TileHasEnds ts tile old new
rest_skipped ts tile mask n old new is within none before =
    let all : n + (length ts - n) ≡ length ts = omega arith in
    let past = run_skipped ts tile mask old new is n (length ts - n) (omega arith) (λ i l. rw none (bit_at-zero i)) before in
    tile_ends ts tile (length ts) old new (omega arith) (subst (λ m. TileHasEnds (take m ts) tile old new) all past)

-- the next bit is behind the last triangle
pub last_skipped : (ts : List Placed) (tile : Tile) (mask n next : ℕ) (old new : List BlockSamples) → IsMaskOf ts tile mask → n ≤ length ts → length ts ≤ n + next → ((i : ℕ) → i < next → bit_at (mask / 2 ^ n) i ≡ 0) → TileHasEnds (take n ts) tile old new → TileHasEnds ts tile old new
last_skipped ts tile mask n next old new is within past unset before =
    let all : n + (length ts - n) ≡ length ts = omega arith in
    let run = run_skipped ts tile mask old new is n (length ts - n) (omega arith) (λ i l. unset i (omega arith)) before in
    tile_ends ts tile (length ts) old new (omega arith) (subst (λ m. TileHasEnds (take m ts) tile old new) all run)
