-- A tile that is changed, in the planes of its tile row and of tile rows.
use Rattle.std.proofs.Common.{◌≡◌, ◌∙◌, refl, sym, ap, subst, ℕ, ◌+◌, ◌-◌, ◌*◌, ◌/◌, ◌<◌, ◌≤◌, List, length, take, drop, arith}
use Rattle.grid.specs.Samples.{count_of}
use Rattle.shade.specs.declared.sample.CanvasSample.{CanvasSample}
use Rattle.lanes.specs.declared.block_samples.BlockSamples.{BlockSamples}
use Rattle.blocks.specs.Layout.{planes_of_tile, stored_in_tile}
use Rattle.blocks.proofs.Cut.{put}
use Rattle.canvas.specs.declared.canvas.Canvas.{Canvas}
use Rattle.canvas.specs.Layout.{IsStoredIn, planes_of_row, stored}
use Rattle.canvas.proofs.Places.{tile_of, row_of}
use Rattle.readout.specs.Tiles.{IsInTile}
use Rattle.readout.specs.Loaded.{AreChanged}
use Rattle.readout.proofs.Changes.{one_tile_changed, one_row_changed}
use Rattle.tile_blend.specs.Fragments.{IsTileChanged}

module _ (c : Canvas) (xs part : List BlockSamples) (n a : ℕ) (room : a + n ≤ length xs) (long : length part ≡ n) (column row : ℕ) (R : ℕ → ℕ → ℕ → CanvasSample → CanvasSample → Type 0) where
  pub tile_in_row : n ≡ planes_of_tile c.count → a ≡ column * planes_of_tile c.count
      → ((i j s : ℕ) → s < count_of c.count → R i j s (stored_in_tile c.count (take n (drop a xs)) i j s) (stored_in_tile c.count part i j s))
      → IsTileChanged c row (row + 1) column row R xs (put xs part a n)
  tile_in_row many at all =
      let ends : AreChanged c row (row + 1) (λ i j s. IsInTile column row i j) (λ i j s _. stored_in_tile c.count part i j s) xs (put xs part a n) =
      one_tile_changed c xs part n a room long column row (λ i j s. IsInTile column row i j) (λ i j s _. stored_in_tile c.count part i j s) many at
      (λ i j s t. (t.across, t.down)) (λ i j s h e d t. refl) (λ i j s h e d other. absurd (other (record { across = e; down = d }))) in
      record {
        changed = λ i j s h t.
            subst (λ x. R i j s x (stored c row (put xs part a n) i j s)) (tile_of c i j s row xs n a t.down many (at ∙ ap (λ m. m * planes_of_tile c.count) (sym t.across)) h.is_sample)
            (subst (λ y. R i j s (stored_in_tile c.count (take n (drop a xs)) i j s) y) (sym (ends.changed i j s h t)) (all i j s h.is_sample));
        others = ends.kept;
      }

  pub tile_in_rows : (first end : ℕ) → first ≤ row → n ≡ planes_of_row c → a ≡ (row - first) * planes_of_row c
      → IsTileChanged c row (row + 1) column row R (take n (drop a xs)) part → IsTileChanged c first end column row R xs (put xs part a n)
  tile_in_rows first end from many at b =
      let ends : AreChanged c first end (λ i j s. IsInTile column row i j) (λ i j s _. stored c row part i j s) xs (put xs part a n) =
      one_row_changed c xs part n a room long first end row (λ i j s. IsInTile column row i j) (λ i j s _. stored c row part i j s) from many at
      (λ i j s t. t.down) (record { changed = λ i j s h t. refl; kept = b.others }) in
      record {
        changed = λ i j s h t.
            let e : j / 64 ≡ row = t.down in
            let here : IsStoredIn c row (row + 1) i j s = record { column = h.column; from = omega (arith, e); below = omega (arith, e); is_sample = h.is_sample } in
            subst (λ x. R i j s x (stored c first (put xs part a n) i j s)) (row_of c i j s row first xs n a e many (at ∙ ap (λ m. (m - first) * planes_of_row c) (sym e)) h.column h.is_sample)
            (subst (λ y. R i j s (stored c row (take n (drop a xs)) i j s) y) (sym (ends.changed i j s h t)) (b.changed i j s here t));
        others = ends.kept;
      }
