-- What the triangles of a tile's bin make of its samples.
use Rattle.std.proofs.Common.{◌≡◌, ℕ, ◌+◌, ◌*◌, ◌<◌, ◌≤◌, List, length, slice_get, slice_index, Some, sym, ap, ◌∙◌, subst}
use Rattle.lanes.specs.declared.block_samples.BlockSamples.{BlockSamples}
use Rattle.shade.specs.declared.placed.Placed.{Placed}
use Rattle.shade.specs.Placed.{Draws}
use Rattle.shade.specs.Canvas.{with_alpha, colour_and_depth, keeping_alpha, CanvasDraws}
use Rattle.shade.proofs.CanvasDrawn.{keeping_draws, keeping_stays}
use Rattle.draw_list.specs.Scene.{Scene}
use Rattle.bins.proofs.Drawn.{HasDrawn, none_drawn, one_drawn, all_drawn}
use Rattle.raster.specs.declared.tile.Tile.{Tile}
use Rattle.raster.specs.Samples.{IsSampleOf, planes_of, stored, AreAll}
use Rattle.raster.specs.Drawing.{DrawsTile}
use Rattle.tile.specs.Picture.{stored_sample, IsShown, IsTileBin, AreEnds}
use Rattle.tile.proofs.SameRuns.{stored_same}

-- the first b triangles of the bin have been drawn, and alpha is one
pub record HaveDrawn (l : Scene) (tile : Tile) (bin : List ℕ) (b : ℕ) (samples : List BlockSamples) : Type 0 where
  pub drawn : (row column s : ℕ) → IsShown l tile row column s
      → HasDrawn l (8 * tile.bx + column) (8 * tile.by + row) s bin b (stored_sample tile samples row column s)
  pub opaque : (row column s : ℕ) → IsSampleOf tile row column s → stored tile samples row column s ≡ with_alpha (stored_sample tile samples row column s) 255

module _ (l : Scene) (tile : Tile) (bin : List ℕ) where
  pub none_have_drawn : (samples : List BlockSamples) → length samples ≡ planes_of tile.side tile.count → AreAll samples (with_alpha l.clear 255) → HaveDrawn l tile bin 0 samples
  none_have_drawn samples long cleared =
      let is : (row column s : ℕ) → IsSampleOf tile row column s → stored tile samples row column s ≡ with_alpha l.clear 255 = stored_same tile samples _ long cleared in
      record {
        drawn = λ row column s h.
            subst (λ x. HasDrawn l (8 * tile.bx + column) (8 * tile.by + row) s bin 0 (colour_and_depth x)) (sym (is row column s h.sample)) (none_drawn l (8 * tile.bx + column) (8 * tile.by + row) s bin);
        opaque = λ row column s h. is row column s h ∙ sym (ap (λ x. with_alpha (colour_and_depth x) 255) (is row column s h));
      }

  module _ (h : IsTileBin l tile bin) (b : ℕ) (old : List BlockSamples) (d : HaveDrawn l tile bin b old) where
    pub have_drawn_more : (n : ℕ) (t : Placed) (new : List BlockSamples) → tile.count ≡ l.count → b < length bin → n ≡ slice_index bin b → slice_get l.triangles n ≡ Some t → DrawsTile (keeping_alpha t) tile old new → HaveDrawn l tile bin (b + 1) new
    have_drawn_more n t new e below here found draws =
        let from_opaque : (row column s : ℕ) → IsSampleOf tile row column s
        → CanvasDraws (keeping_alpha t) tile.count (8 * tile.bx + column) (8 * tile.by + row) s (with_alpha (stored_sample tile old row column s) 255) (stored tile new row column s) =
        λ row column s k.
        subst (λ x. CanvasDraws (keeping_alpha t) tile.count (8 * tile.bx + column) (8 * tile.by + row) s x (stored tile new row column s)) (d.opaque row column s k) (draws row column s k) in
        record {
          drawn = λ row column s shown.
              one_drawn l (8 * tile.bx + column) (8 * tile.by + row) s bin (h row column s shown) b _ (d.drawn row column s shown) n t _ below here found
              (subst (λ count. Draws t count (8 * tile.bx + column) (8 * tile.by + row) s (stored_sample tile old row column s) (stored_sample tile new row column s)) e
              (keeping_draws t tile.count (8 * tile.bx + column) (8 * tile.by + row) s (stored_sample tile old row column s) (stored tile new row column s) (from_opaque row column s shown.sample)));
          opaque = λ row column s k. keeping_stays t tile.count (8 * tile.bx + column) (8 * tile.by + row) s (stored_sample tile old row column s) (stored tile new row column s) (from_opaque row column s k);
        }

    pub all_have_drawn : length bin ≤ b → AreEnds l tile old
    all_have_drawn past row column s shown = all_drawn l (8 * tile.bx + column) (8 * tile.by + row) s bin (h row column s shown) b _ (d.drawn row column s shown) past
