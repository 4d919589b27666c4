-- The columns of blocks of a tile row, one after another.
use Rattle.std.proofs.Common.{◌≡◌, ◌≢◌, ◌⊎◌, inl, inr, refl, sym, subst, ap, ◌∙◌, arith, ℕ, ◌+◌, ◌-◌, ◌*◌, ◌/◌, ◌%◌, ◌<◌, ◌≤◌, List, length, take, drop, IsBitSet}
use Rattle.std.proofs.lemmas.Bool.{cases_lt}
use Rattle.grid.specs.declared.pixels.TileSide.TheVariants.{T64}
use Rattle.grid.specs.declared.sample_count.SampleCount.{SampleCount}
use Rattle.lanes.specs.declared.block_samples.BlockSamples.{BlockSamples}
use Rattle.shade.specs.declared.sample.CanvasSample.{CanvasSample}
use Rattle.lanes.specs.Fragment.{FlatFragment, Takes}
use Rattle.raster.specs.declared.tile.Tile.{Tile}
use Rattle.raster.specs.Samples.{IsSampleOf}
use Rattle.canvas.specs.declared.canvas.Canvas.{Canvas}
use Rattle.blocks.specs.Layout.{planes_of_tile, stored_in_tile}
use Rattle.canvas.specs.Layout.{IsStoredIn, stored}
use Rattle.blocks.proofs.Cut.{put}
use Rattle.canvas.proofs.Places.{tile_of, tile_put, tile_kept}
use Rattle.block_fills.specs.declared.masks.Masks.{Masks}
use Rattle.block_fills.specs.Parts.{block_mask, IsInColumn, IsFlagged, TilePaints, RowsPaint}
use Rattle.block_fills.proofs.Joined.{rows_joined}

-- ---- a tile of the row
-- a sample is found by its pixel's place in the tile
within : (n m : SampleCount) (xs : List BlockSamples) (i j s : ℕ) → n ≡ m → stored_in_tile n xs (i % 64) (j % 64) s ≡ stored_in_tile m xs i j s
within n m xs i j s same =
    let across : i % 64 % 64 ≡ i % 64 = omega arith in
    let down : j % 64 % 64 ≡ j % 64 = omega arith in
    let column : i % 64 % 8 ≡ i % 8 = omega arith in
    let line : j % 64 % 8 ≡ j % 8 = omega arith in
    rw (across, down, column, line, same) refl

abbrev pub IsTileAt : Canvas → ℕ → ℕ → Tile → Type 0
IsTileAt c column row tile = (tile.bx ≡ 8 * column) × (tile.by ≡ 8 * row) × (tile.side ≡ T64) × (tile.count ≡ c.count)

pub cases_eq : (a b : ℕ) → (a ≡ b) ⊎ (a ≢ b)
cases_eq a b =
    elim (cases_lt a b) [
      | inl less ↦ inr (λ e. omega (arith, e, less))
      | inr from ↦ elim (cases_lt b a) [ inl more ↦ inr (λ e. omega (arith, e, more)) | inr to ↦ inl (omega (arith, from, to)) ]
    ]

module _ (f : FlatFragment) (c : Canvas) (row column : ℕ) (tile : Tile) (is : IsTileAt c column row tile) (Q : ℕ → ℕ → ℕ → Type 0) (mid part : List BlockSamples) (n a : ℕ) (room : a + n ≤ length mid) (long : length part ≡ n)
    (many : n ≡ planes_of_tile c.count) (at : a ≡ column * planes_of_tile c.count) (paints : TilePaints f tile Q (take n (drop a mid)) part) where
  module _ (i j s : ℕ) (h : IsStoredIn c row (row + 1) i j s) where
    in_row : j / 64 ≡ row
    in_row = omega (arith, h.from, h.below)

    in_tile : IsSampleOf tile (j % 64) (i % 64) s
    in_tile = record { high = rw is.2 (omega arith); wide = rw is.2 (omega arith); is_sample = rw is.3 h.is_sample }

    pub across : i / 64 ≡ column → 8 * tile.bx + i % 64 ≡ i
    across same = omega (arith, is.0, same)

    pub down : 8 * tile.by + j % 64 ≡ j
    down = omega (arith, is.1, in_row)

    old_is : i / 64 ≡ column → stored_in_tile tile.count (take n (drop a mid)) (i % 64) (j % 64) s ≡ stored c row mid i j s
    old_is same = within tile.count c.count (take n (drop a mid)) i j s is.3 ∙ tile_of c i j s row mid n a in_row many (at ∙ ap (λ k. k * planes_of_tile c.count) (sym same)) h.is_sample

    new_is : i / 64 ≡ column → stored_in_tile tile.count part (i % 64) (j % 64) s ≡ stored c row (put mid part a n) i j s
    new_is same = within tile.count c.count part i j s is.3 ∙ sym (tile_put c i j s mid part n a room long row in_row column many at h.is_sample same)

    met : i / 64 ≡ column → Q (j % 64) (i % 64) s → Takes f (stored c row mid i j s) (stored c row (put mid part a n) i j s)
    met same q =
        subst (λ (x : CanvasSample). Takes f x (stored c row (put mid part a n) i j s)) (old_is same)
        (subst (λ (y : CanvasSample). Takes f (stored_in_tile tile.count (take n (drop a mid)) (i % 64) (j % 64) s) y) (new_is same) (paints.met (j % 64) (i % 64) s in_tile q))

    missed : ¬ ((i / 64 ≡ column) × Q (j % 64) (i % 64) s) → stored c row (put mid part a n) i j s ≡ stored c row mid i j s
    missed other =
        elim (cases_eq (i / 64) column) [
          | inl same ↦ sym (new_is same) ∙ paints.missed (j % 64) (i % 64) s in_tile (λ q. other (same, q)) ∙ old_is same
          | inr apart ↦ tile_kept c i j s mid part n a room long row in_row column many at h.is_sample apart
        ]

  pub tile_in_row : RowsPaint f c row (row + 1) (λ i j s. (i / 64 ≡ column) × Q (j % 64) (i % 64) s) mid (put mid part a n)
  tile_in_row = record { met = λ i j s h q. met i j s h q.0 q.1; missed = missed }

-- ---- one column of blocks more
module _ (f : FlatFragment) (c : Canvas) (row first k : ℕ) (masks : Masks) (tile : Tile) (is : IsTileAt c ((first + k) / 8) row tile) where
  abbrev bx : ℕ
  bx = first + k

  abbrev Before : ℕ → ℕ → ℕ → Type 0
  Before i j s = IsFlagged f.state first k masks i j s

  abbrev After : ℕ → ℕ → ℕ → Type 0
  After i j s = IsFlagged f.state first (k + 1) masks i j s

  abbrev Here : ℕ → ℕ → ℕ → Type 0
  Here i j s = (i / 64 ≡ bx / 8) × IsInColumn f.state tile bx 8 masks k (j % 64) (i % 64) s

  module _ (i j s : ℕ) (h : IsStoredIn c row (row + 1) i j s) where
    abbrev bit : ℕ
    bit = 8 * (j % 8) + i % 8

    same_bit : 8 * (j % 64 % 8) + i % 64 % 8 ≡ bit
    same_bit = omega arith

    line : 8 * tile.by + j % 64 ≡ j
    line = let low = h.from in let high = h.below in omega (arith, is.1, low, high)

    after_before : Before i j s → After i j s
    after_before p = record { left = p.left; right = omega (arith, p.right); in_masks = p.in_masks; allowed = p.allowed }

    before_after : i < 8 * (first + k) → After i j s → Before i j s
    before_after l p = record { left = p.left; right = l; in_masks = p.in_masks; allowed = p.allowed }

    here_after : 8 * (first + k) ≤ i → After i j s → Here i j s
    here_after l p =
        let block : i / 8 - first ≡ k = omega (arith, l, p.right) in
        let same : i / 64 ≡ bx / 8 = omega (arith, l, p.right) in
        let column : 8 * tile.bx + i % 64 ≡ i = omega (arith, is.0, same) in (
          same,
          record {
            left = omega (arith, column, l);
            right = omega (arith, column, p.right);
            before = omega arith;
            in_masks = rw same_bit (subst (λ b. IsBitSet (block_mask masks b (j % 64 / 8) s) bit) block p.in_masks);
            allowed = rw (column, line) p.allowed;
          },
        )

    after_here : Here i j s → After i j s
    after_here q =
        let p = q.1 in
        let column : 8 * tile.bx + i % 64 ≡ i = omega (arith, is.0, q.0) in
        let block : i / 8 - first ≡ k = omega (arith, column, p.left, p.right) in
        record {
          left = omega (arith, column, p.left);
          right = omega (arith, column, p.right);
          in_masks = subst (λ b. IsBitSet (block_mask masks b (j % 64 / 8) s) bit) (sym block) (rw same_bit at p.in_masks);
          allowed = rw (column, line) at p.allowed;
        }

  module _ (old mid part : List BlockSamples) (n a : ℕ) (room : a + n ≤ length mid) (long : length part ≡ n) (many : n ≡ planes_of_tile c.count) (at : a ≡ bx / 8 * planes_of_tile c.count)
      (before : RowsPaint f c row (row + 1) Before old mid) (paints : TilePaints f tile (IsInColumn f.state tile bx 8 masks k) (take n (drop a mid)) part) where
    pub one_column_more : RowsPaint f c row (row + 1) After old (put mid part a n)
    one_column_more =
        rows_joined f c row (row + 1) Before Here After old mid (put mid part a n) before
        (tile_in_row f c row (bx / 8) tile is (IsInColumn f.state tile bx 8 masks k) mid part n a room long many at paints)
        (λ i j s h p q. let l = p.right in let column : 8 * tile.bx + i % 64 ≡ i = omega (arith, is.0, q.0) in let m = q.1.left in omega (arith, l, m, column))
        (λ i j s h r. elim (cases_lt i (8 * (first + k))) [ inl less ↦ inl (before_after i j s h less r) | inr more ↦ inr (here_after i j s h more r) ])
        (λ i j s h p. after_before i j s h p)
        (λ i j s h q. after_here i j s h q)
