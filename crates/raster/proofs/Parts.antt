-- A triangle is drawn at one part of a tile after another.
use Rattle.std.proofs.Common.{◌⊎◌, inl, inr, refl, ◌∙◌, ℕ, ◌+◌, ◌*◌, List}
use Rattle.shade.specs.declared.sample.CanvasSample.{CanvasSample}
use Rattle.lanes.specs.declared.block_samples.BlockSamples.{BlockSamples}
use Rattle.shade.specs.declared.placed.Placed.{Placed}
use Rattle.shade.specs.Placed.{Meets}
use Rattle.shade.specs.Canvas.{CanvasDraws}
use Rattle.raster.specs.declared.tile.Tile.{Tile}
use Rattle.raster.specs.Samples.{IsSampleOf, stored}
use Rattle.raster.specs.Drawing.{DrawsPart, DrawsAt, KeepsAt}

-- a triangle that does not meet a sample leaves it
pub draws_missed : (t : Placed) (tile : Tile) (row column s : ℕ) (x : CanvasSample) → ¬ Meets t tile.count (8 * tile.bx + column) (8 * tile.by + row) s → CanvasDraws t tile.count (8 * tile.bx + column) (8 * tile.by + row) s x x
draws_missed t tile row column s x n = record { met = λ m. absurd (n m); missed = λ _. refl }

module _ (t : Placed) (tile : Tile) where
  -- a part that the triangle does not meet
  pub missed_part : (part : ℕ → ℕ → ℕ → Type 0) (xs : List BlockSamples)
      → ((row column s : ℕ) → IsSampleOf tile row column s → part row column s → ¬ Meets t tile.count (8 * tile.bx + column) (8 * tile.by + row) s)
      → DrawsPart t tile part xs xs
  missed_part part xs n = record {
    drawn = λ row column s h p. draws_missed t tile row column s (stored tile xs row column s) (n row column s h p);
    kept = λ row column s h p. refl;
  }

  -- two parts that have no sample in common
  module _ (P Q R : ℕ → ℕ → ℕ → Type 0) (a b c : List BlockSamples) (first : DrawsPart t tile P a b) (second : DrawsPart t tile Q b c)
      (apart : (row column s : ℕ) → IsSampleOf tile row column s → P row column s → Q row column s → ⊥) where
    drawn_in : (row column s : ℕ) → IsSampleOf tile row column s → P row column s ⊎ Q row column s → DrawsAt t tile a c row column s
    drawn_in row column s h (inl p) =
        let same : KeepsAt tile b c row column s = second.kept row column s h (λ q. apart row column s h p q) in
        rw same (first.drawn row column s h p)
    drawn_in row column s h (inr q) =
        let same : KeepsAt tile a b row column s = first.kept row column s h (λ p. apart row column s h p q) in
        rw (← same) (second.drawn row column s h q)

    pub joined : ((row column s : ℕ) → IsSampleOf tile row column s → R row column s → P row column s ⊎ Q row column s)
        → ((row column s : ℕ) → IsSampleOf tile row column s → P row column s ⊎ Q row column s → R row column s)
        → DrawsPart t tile R a c
    joined from into = record {
      drawn = λ row column s h r. drawn_in row column s h (from row column s h r);
      kept = λ row column s h n.
          second.kept row column s h (λ q. n (into row column s h (inr q))) ∙ first.kept row column s h (λ p. n (into row column s h (inl p)));
    }

  -- the same part by an equivalent predicate
  pub same_part : (P R : ℕ → ℕ → ℕ → Type 0) (a b : List BlockSamples) → DrawsPart t tile P a b
      → ((row column s : ℕ) → IsSampleOf tile row column s → R row column s → P row column s)
      → ((row column s : ℕ) → IsSampleOf tile row column s → P row column s → R row column s)
      → DrawsPart t tile R a b
  same_part P R a b d from into = record {
    drawn = λ row column s h r. d.drawn row column s h (from row column s h r);
    kept = λ row column s h n. d.kept row column s h (λ p. n (into row column s h p));
  }
