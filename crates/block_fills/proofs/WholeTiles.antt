-- A tile that is drawn whole in its tile row.
use Rattle.std.proofs.Common.{◌≡◌, inl, inr, arith, ℕ, ◌+◌, ◌-◌, ◌*◌, ◌/◌, ◌%◌, ◌<◌, ◌≤◌, List, length, take, drop, IsBitSet}
use Rattle.std.proofs.lemmas.Bool.{cases_lt}
use Rattle.grid.specs.Samples.{count_of}
use Rattle.lanes.specs.declared.block_samples.BlockSamples.{BlockSamples}
use Rattle.lanes.specs.Fragment.{FlatFragment}
use Rattle.raster.specs.declared.tile.Tile.{Tile}
use Rattle.canvas.specs.declared.canvas.Canvas.{Canvas}
use Rattle.blocks.specs.Layout.{planes_of_tile}
use Rattle.canvas.specs.Layout.{IsStoredIn}
use Rattle.blocks.proofs.Cut.{put}
use Rattle.block_fills.specs.declared.masks.Masks.{Masks}
use Rattle.block_fills.specs.Parts.{block_mask, IsAllowed, IsFlagged, TilePaints, RowsPaint}
use Rattle.block_fills.proofs.Joined.{rows_joined}
use Rattle.block_fills.proofs.Strips.{IsTileAt, tile_in_row}

-- ---- eight columns of blocks more
module _ (f : FlatFragment) (c : Canvas) (row first k : ℕ) (masks : Masks) (tile : Tile) (is : IsTileAt c ((first + k) / 8) row tile) (begins : (first + k) % 8 ≡ 0)
    (full : (column r s bit : ℕ) → k ≤ column → column < k + 8 → r < 8 → s < count_of c.count → bit < 64 → IsBitSet (block_mask masks column r s) bit) where
  abbrev Before : ℕ → ℕ → ℕ → Type 0
  Before i j s = IsFlagged f.state first k masks i j s

  abbrev After : ℕ → ℕ → ℕ → Type 0
  After i j s = IsFlagged f.state first (k + 8) masks i j s

  abbrev Here : ℕ → ℕ → ℕ → Type 0
  Here i j s = (i / 64 ≡ (first + k) / 8) × IsAllowed f.state tile (j % 64) (i % 64) s

  module _ (i j s : ℕ) (h : IsStoredIn c row (row + 1) i j s) where
    line : 8 * tile.by + j % 64 ≡ j
    line = let low = h.from in let high = h.below in omega (arith, is.1, low, high)

    after_before : Before i j s → After i j s
    after_before p = record { left = p.left; right = omega (arith, p.right); in_masks = p.in_masks; allowed = p.allowed }

    before_after : i < 8 * (first + k) → After i j s → Before i j s
    before_after l p = record { left = p.left; right = l; in_masks = p.in_masks; allowed = p.allowed }

    here_after : 8 * (first + k) ≤ i → After i j s → Here i j s
    here_after l p =
        let same : i / 64 ≡ (first + k) / 8 = omega (arith, l, p.right, begins) in
        let column : 8 * tile.bx + i % 64 ≡ i = omega (arith, is.0, same) in
        (same, rw (column, line) p.allowed)

    after_here : Here i j s → After i j s
    after_here q =
        let column : 8 * tile.bx + i % 64 ≡ i = omega (arith, is.0, q.0) in
        let low : 8 * (first + k) ≤ i = omega (arith, q.0, begins) in
        let high : i < 8 * (first + (k + 8)) = omega (arith, q.0, begins) in
        record {
          left = omega (arith, low);
          right = high;
          in_masks = full (i / 8 - first) (j % 64 / 8) s (8 * (j % 8) + i % 8) (omega (arith, low)) (omega (arith, high, low)) (omega arith) h.is_sample (omega arith);
          allowed = rw (column, line) at q.1;
        }

  module _ (old mid part : List BlockSamples) (n a : ℕ) (room : a + n ≤ length mid) (long : length part ≡ n) (many : n ≡ planes_of_tile c.count) (at : a ≡ (first + k) / 8 * planes_of_tile c.count)
      (before : RowsPaint f c row (row + 1) Before old mid) (paints : TilePaints f tile (IsAllowed f.state tile) (take n (drop a mid)) part) where
    pub one_tile_more : RowsPaint f c row (row + 1) After old (put mid part a n)
    one_tile_more =
        rows_joined f c row (row + 1) Before Here After old mid (put mid part a n) before
        (tile_in_row f c row ((first + k) / 8) tile is (IsAllowed f.state tile) mid part n a room long many at paints)
        (λ i j s h p q. let l = p.right in omega (arith, l, q.0, begins))
        (λ i j s h r. elim (cases_lt i (8 * (first + k))) [ inl less ↦ inl (before_after i j s h less r) | inr more ↦ inr (here_after i j s h more r) ])
        (λ i j s h p. after_before i j s h p)
        (λ i j s h q. after_here i j s h q)
