-- Parts that are painted one after another.
use Rattle.std.proofs.Common.{◌≡◌, ◌⊎◌, inl, inr, refl, subst, sym, ◌∙◌, ℕ, List}
use Rattle.shade.specs.declared.sample.CanvasSample.{CanvasSample}
use Rattle.lanes.specs.declared.block_samples.BlockSamples.{BlockSamples}
use Rattle.lanes.specs.Fragment.{FlatFragment, Takes}
use Rattle.raster.specs.declared.tile.Tile.{Tile}
use Rattle.raster.specs.Samples.{IsSampleOf}
use Rattle.canvas.specs.declared.canvas.Canvas.{Canvas}
use Rattle.blocks.specs.Layout.{stored_in_tile, IsSameTile}
use Rattle.canvas.specs.Layout.{IsStoredIn, stored}
use Rattle.block_fills.specs.Parts.{TilePaints, RowsPaint}

-- ---- in a tile
module _ (f : FlatFragment) (tile : Tile) where
  pub tile_none : (P : ℕ → ℕ → ℕ → Type 0) (xs : List BlockSamples) → ((row column s : ℕ) → IsSampleOf tile row column s → P row column s → ⊥) → TilePaints f tile P xs xs
  tile_none P xs none = record { met = λ row column s h p. absurd (none row column s h p); missed = λ row column s h n. refl }

  pub tile_same : (P R : ℕ → ℕ → ℕ → Type 0) (old new : List BlockSamples) → TilePaints f tile P old new
      → ((row column s : ℕ) → IsSampleOf tile row column s → R row column s → P row column s)
      → ((row column s : ℕ) → IsSampleOf tile row column s → P row column s → R row column s)
      → TilePaints f tile R old new
  tile_same P R old new d from into = record {
    met = λ row column s h r. d.met row column s h (from row column s h r);
    missed = λ row column s h n. d.missed row column s h (λ p. n (into row column s h p));
  }

  -- painted over the same samples, which may be kept in another way
  pub tile_after_same : (P : ℕ → ℕ → ℕ → Type 0) (old mid new : List BlockSamples) → IsSameTile tile.count old mid → TilePaints f tile P mid new → TilePaints f tile P old new
  tile_after_same P old mid new kept d = record {
    met = λ row column s h p.
        subst (λ (x : CanvasSample). Takes f x (stored_in_tile tile.count new column row s)) (kept column row s h.is_sample)
        (d.met row column s h p);
    missed = λ row column s h n. d.missed row column s h n ∙ kept column row s h.is_sample;
  }

  module _ (P Q R : ℕ → ℕ → ℕ → Type 0) (old mid new : List BlockSamples) (first : TilePaints f tile P old mid) (second : TilePaints f tile Q mid new)
      (apart : (row column s : ℕ) → IsSampleOf tile row column s → P row column s → Q row column s → ⊥) where
    in_either : (row column s : ℕ) → IsSampleOf tile row column s → P row column s ⊎ Q row column s
        → Takes f (stored_in_tile tile.count old column row s) (stored_in_tile tile.count new column row s)
    in_either row column s h (inl p) =
        let same : stored_in_tile tile.count new column row s ≡ stored_in_tile tile.count mid column row s = second.missed row column s h (λ q. apart row column s h p q) in
        subst (λ (x : CanvasSample). Takes f (stored_in_tile tile.count old column row s) x) (sym same) (first.met row column s h p)
    in_either row column s h (inr q) =
        let same : stored_in_tile tile.count mid column row s ≡ stored_in_tile tile.count old column row s = first.missed row column s h (λ p. apart row column s h p q) in
        subst (λ (x : CanvasSample). Takes f x (stored_in_tile tile.count new column row s)) same (second.met row column s h q)

    pub tile_joined : ((row column s : ℕ) → IsSampleOf tile row column s → R row column s → P row column s ⊎ Q row column s)
        → ((row column s : ℕ) → IsSampleOf tile row column s → P row column s → R row column s)
        → ((row column s : ℕ) → IsSampleOf tile row column s → Q row column s → R row column s)
        → TilePaints f tile R old new
    tile_joined from left right = record {
      met = λ row column s h r. in_either row column s h (from row column s h r);
      missed = λ row column s h n. second.missed row column s h (λ q. n (right row column s h q)) ∙ first.missed row column s h (λ p. n (left row column s h p));
    }

-- ---- in tile rows
module _ (f : FlatFragment) (c : Canvas) (first_row end_row : ℕ) where
  pub rows_none : (P : ℕ → ℕ → ℕ → Type 0) (xs : List BlockSamples) → ((i j s : ℕ) → IsStoredIn c first_row end_row i j s → P i j s → ⊥) → RowsPaint f c first_row end_row P xs xs
  rows_none P xs none = record { met = λ i j s h p. absurd (none i j s h p); missed = λ i j s h n. refl }

  pub rows_same : (P R : ℕ → ℕ → ℕ → Type 0) (old new : List BlockSamples) → RowsPaint f c first_row end_row P old new
      → ((i j s : ℕ) → IsStoredIn c first_row end_row i j s → R i j s → P i j s)
      → ((i j s : ℕ) → IsStoredIn c first_row end_row i j s → P i j s → R i j s)
      → RowsPaint f c first_row end_row R old new
  rows_same P R old new d from into = record {
    met = λ i j s h r. d.met i j s h (from i j s h r);
    missed = λ i j s h n. d.missed i j s h (λ p. n (into i j s h p));
  }

  module _ (P Q R : ℕ → ℕ → ℕ → Type 0) (old mid new : List BlockSamples) (first : RowsPaint f c first_row end_row P old mid) (second : RowsPaint f c first_row end_row Q mid new)
      (apart : (i j s : ℕ) → IsStoredIn c first_row end_row i j s → P i j s → Q i j s → ⊥) where
    stored_in_either : (i j s : ℕ) → IsStoredIn c first_row end_row i j s → P i j s ⊎ Q i j s → Takes f (stored c first_row old i j s) (stored c first_row new i j s)
    stored_in_either i j s h (inl p) =
        let same : stored c first_row new i j s ≡ stored c first_row mid i j s = second.missed i j s h (λ q. apart i j s h p q) in
        subst (λ (x : CanvasSample). Takes f (stored c first_row old i j s) x) (sym same) (first.met i j s h p)
    stored_in_either i j s h (inr q) =
        let same : stored c first_row mid i j s ≡ stored c first_row old i j s = first.missed i j s h (λ p. apart i j s h p q) in
        subst (λ (x : CanvasSample). Takes f x (stored c first_row new i j s)) same (second.met i j s h q)

    pub rows_joined : ((i j s : ℕ) → IsStoredIn c first_row end_row i j s → R i j s → P i j s ⊎ Q i j s)
        → ((i j s : ℕ) → IsStoredIn c first_row end_row i j s → P i j s → R i j s)
        → ((i j s : ℕ) → IsStoredIn c first_row end_row i j s → Q i j s → R i j s)
        → RowsPaint f c first_row end_row R old new
    rows_joined from left right = record {
      met = λ i j s h r. stored_in_either i j s h (from i j s h r);
      missed = λ i j s h n. second.missed i j s h (λ q. n (right i j s h q)) ∙ first.missed i j s h (λ p. n (left i j s h p));
    }
