-- How calls end that read or store the samples of one tile.
use Rattle.std.proofs.Common.{◌≡◌, ◌≢◌, inl, inr, refl, sym, ap, subst, ℕ, ◌≤◌, List, take, slice_index, arith}
use Rattle.lanes.specs.declared.block_samples.BlockSamples.{BlockSamples}
use Rattle.canvas.specs.declared.canvas.Canvas.{Canvas}
use Rattle.readout.specs.declared.misfit.Misfit.{Misfit}
use Rattle.canvas.specs.declared.tile_rows.TileRows.{TileRows as Rows}
use Rattle.canvas.specs.Layout.{HasTile}
use Rattle.readout.specs.Tiles.{IsTileMisfit, IsIdCount, AreTileIds}
use Rattle.readout.proofs.TileEntries.{many_entries}
use Rattle.checks.specs.Checking.{Checks, done, check, followed_by, Pass, FirstIs}
use Rattle.checks.proofs.Checking.{pass_both, fails_later}
use Rattle.c_abi.specs.declared.status.Status.{Status}
use Rattle.c_abi.specs.declared.status.Status.TheVariants.{BufferTooSmall, BadTile}
use Rattle.canvas_c.specs.declared.piece.CanvasHead.{CanvasHead}
use Rattle.canvas_c.specs.Pieces.{AreRowsOf}
use Rattle.canvas_c.specs.Samples.{NamesTile, status_for, AreIdsOfTile}

module _ (head : CanvasHead) (rows : Rows) (are : AreRowsOf head rows) (column row : ℕ) where
  pub tile_named : HasTile rows.canvas rows.first rows.end column row → NamesTile head column row
  tile_named h = record { wide = rw are.width at h.wide; from = rw are.first at h.from; below = rw are.end at h.below }

  pub named_tile : NamesTile head column row → HasTile rows.canvas rows.first rows.end column row
  named_tile h = record { wide = rw are.width h.wide; from = rw are.first h.from; below = rw are.end h.below }

  module _ (before : Checks Status) (Room Fit : Type 0) (pass : Pass before) where
    pub tile_fits : HasTile rows.canvas rows.first rows.end column row → Room → Pass (followed_by before (check (NamesTile head column row) BadTile (check Room BufferTooSmall done)))
    tile_fits h room = pass_both before (check (NamesTile head column row) BadTile (check Room BufferTooSmall done)) pass (tile_named h, (room, tt))

    -- what does not fit is reported by the first check that fails
    pub tile_fails : (misfit : Misfit) → (Room → Fit) → IsTileMisfit rows.canvas rows.first rows.end column row Fit misfit
        → FirstIs (followed_by before (check (NamesTile head column row) BadTile (check Room BufferTooSmall done))) (status_for misfit)
    tile_fails misfit into reason =
        fails_later before (check (NamesTile head column row) BadTile (check Room BufferTooSmall done)) (status_for misfit) pass
        (elim reason [
          | inl none ↦ inl ((λ named. none.1 (named_tile named)), sym (ap status_for none.0))
          | inr small ↦ inr (tile_named small.1, inl ((λ room. small.2 (into room)), sym (ap status_for small.0)))
        ])

-- what was written of a tile, by whether it was one entry
pub told_ids : (c : Canvas) (first end column row : ℕ) (samples : List BlockSamples) (old ids : List ℕ) (many uniform : ℕ) → IsIdCount c first column row samples many → AreTileIds c first end column row samples (take many ids)
    → ((n : ℕ) → many ≤ n → slice_index ids n ≡ slice_index old n) → (many ≡ 1 → uniform ≡ 1) → (many ≢ 1 → uniform ≡ 0) → AreIdsOfTile c first end column row samples old ids uniform
told_ids c first end column row samples old ids many uniform is are others one more =
    elim is [
      | inl uni ↦
          subst (λ u. AreIdsOfTile c first end column row samples old ids u) (sym (one uni.0))
          (record {
            said = inl (refl, uni.1);
            written = subst (λ n. AreTileIds c first end column row samples (take n ids)) uni.0 are;
            others = subst (λ m. (n : ℕ) → m ≤ n → slice_index ids n ≡ slice_index old n) uni.0 others;
          })
      | inr drawn ↦
          let entries = many_entries c.count in
          subst (λ u. AreIdsOfTile c first end column row samples old ids u) (sym (more (λ e. omega (arith, e, entries, drawn.0))))
          (record {
            said = inr (refl, drawn.1);
            written = subst (λ n. AreTileIds c first end column row samples (take n ids)) drawn.0 are;
            others = subst (λ m. (n : ℕ) → m ≤ n → slice_index ids n ≡ slice_index old n) drawn.0 others;
          })
    ]
