-- Blocks that cannot be drawn as ones of a few samples, since a fragment makes exactly one sample of each.
use Rattle.std.proofs.Common.{◌≡◌, ◌⊎◌, ◌↔◌, ◌∙◌, inl, inr, sym, subst, arith, false, true, Option, Some, None, ℕ, ◌+◌, ◌-◌, ◌*◌, ◌/◌, ◌%◌, ◌<◌, List, slice_index}
use Rattle.std.specs.Prelude.{IfNone}
use Rattle.std.proofs.lemmas.Bool.{false≢true}
use Rattle.std.specs.Int.{bit_at}
use Rattle.grid.specs.Samples.{count_of}
use Rattle.grid.specs.declared.pixels.TileSide.TheVariants.{T64}
use Rattle.grid.specs.declared.sample_count.SampleCount.{SampleCount}
use Rattle.shade.specs.declared.operands.Channel.TheVariants.{Alpha}
use Rattle.shade.specs.declared.sample.CanvasSample.{CanvasSample}
use Rattle.shade.specs.declared.sample.Merge.{Merge}
use Rattle.shade.specs.declared.sample.Shaded.{Shaded}
use Rattle.shade.specs.Canvas.{alpha_operands, IsCanvasApplied, IsCanvasMerged}
use Rattle.shade.specs.Depth.{Passes}
use Rattle.shade.proofs.CanvasDrawn.{same_canvas_sample}
use Rattle.shade.proofs.Decided.{IsDecided, passes}
use Rattle.shade.proofs.Drawn.{channel_drawn-unique, drawn-unique}
use Rattle.lanes.specs.declared.block_samples.BlockSamples.{BlockSamples}
use Rattle.lanes.specs.Fragment.{FlatFragment, Takes}
use Rattle.raster.specs.declared.tile.Tile.{Tile}
use Rattle.raster.specs.Drawing.{LiesIn}
use Rattle.raster.specs.Samples.{IsSampleOf}
use Rattle.blocks.specs.declared.flat_block.FlatBlock.{FlatBlock}
use Rattle.blocks.specs.declared.palette.Palette.{Palette}
use Rattle.blocks.specs.Layout.{block_in_tile, pixel_in_block, stored_in_tile, way_in_tile, chosen}
use Rattle.blocks.specs.declared.way.Way.TheVariants.{Cleared, Single, Flat, FlatPair, FlatFour}
use Rattle.blocks.specs.FlatBlocks.{HasFlat, HasOne, StaysFlat}
use Rattle.blocks.specs.Palettes.{palette_number, palette_sample, sample_numbered, HasPalette, IsPaletteReplaced}
use Rattle.blocks.proofs.Palettes.{below_four}
use Rattle.blocks.proofs.Pairs.{chosen_set, chosen_clear}
use Rattle.blocks.proofs.TilePlanes.{cases_eq}
use Rattle.block_fills.specs.declared.masks.Masks.{Masks}
use Rattle.block_fills.specs.Parts.{block_mask, number_in_tile, IsInWords, TilePaints}
use Rattle.block_fills.specs.FewSamples.{IsNotDrawnFlat, IsNotDrawnInFour, IsNotKeptFlat, IsNotKeptInFour, LeavesManySamples, LeavesNoPalette, StaysFlatDrawn}
use Rattle.block_fills.proofs.PairBlocks.{square_of}

-- ---- what a fragment makes of a sample
merged_once : (m : Merge) (f : Shaded) (old new other : CanvasSample) → IsCanvasMerged m f old new → IsCanvasMerged m f old other → new ≡ other
merged_once m f old new other h k =
    let e = old.alpha in
    same_canvas_sample new other (channel_drawn-unique m 0 f.r f.a e old.r _ _ h.red k.red) (channel_drawn-unique m 1 f.g f.a e old.g _ _ h.green k.green)
    (channel_drawn-unique m 2 f.b f.a e old.b _ _ h.blue k.blue) (drawn-unique m.blend.write_alpha m.blend.alpha Alpha (alpha_operands m f.a old.alpha) old.alpha _ _ h.alpha k.alpha) (h.depth ∙ sym k.depth)

pub applied_once : (m : Merge) (f : Shaded) (old new other : CanvasSample) → IsDecided (Passes m.test f.z old.z) → IsCanvasApplied m f old new → IsCanvasApplied m f old other → new ≡ other
applied_once m f old new other (inl p) h k = merged_once m f old new other (h.passed p) (k.passed p)
applied_once m f old new other (inr n) h k = h.failed n ∙ sym (k.failed n)

sample_once : (f : FlatFragment) (old new other : CanvasSample) → Takes f old new → Takes f old other → new ≡ other
sample_once f old new other = applied_once f.state.merge f.shaded old new other (passes f.state.merge.test f.shaded.z old.z)

-- ---- a block of one sample or two
pub stays_drawn : (f : FlatFragment) (count : SampleCount) (flat : FlatBlock) (words : List ℕ) (first second : CanvasSample) (P : Type 0) → Takes f flat.first first → Takes f flat.second second → P ↔ StaysFlat count flat words first second
    → P ↔ StaysFlatDrawn f count flat words
stays_drawn f count flat words first second P draws_first draws_second is = (
  λ p. (first, second, draws_first, draws_second, is.0 p),
  λ h.
      is.1 (subst (λ (x : CanvasSample). StaysFlat count flat words x second) (sample_once f flat.first h.0 first h.2 draws_first)
      (subst (λ (y : CanvasSample). StaysFlat count flat words h.0 y) (sample_once f flat.second h.1 second h.3 draws_second) h.4)),
)

-- ---- a block of up to four samples
pub if_none_then : {X : Type 0} (r : Option X) {P Q : Type 0} → IfNone r P → (P → Q) → IfNone r Q
if_none_then None h f = f h
if_none_then (Some x) h f = h

module _ (f : FlatFragment) (tile : Tile) (side : tile.side ≡ T64) (bx by : ℕ) (block : LiesIn tile bx by 8) (words : List ℕ) (palette : Palette) (old : List BlockSamples)
    (has : HasPalette tile.count (number_in_tile tile bx by) palette old) (leaves : LeavesNoPalette f tile.count palette words) where
  module _ (new : List BlockSamples) (made : Palette) (paints : TilePaints f tile (IsInWords tile bx by words) old new) (stored : HasPalette tile.count (number_in_tile tile bx by) made new) where
    made_at : (row column s : ℕ) → IsSampleOf tile row column s → block_in_tile column row ≡ number_in_tile tile bx by
        → palette_sample made s (pixel_in_block column row) ≡ chosen (slice_index words s) (pixel_in_block column row) (sample_numbered leaves.0 (palette_number palette s (pixel_in_block column row))) (palette_sample palette s (pixel_in_block column row))
    made_at row column s h here =
        let p : ℕ = pixel_in_block column row in
        let n : ℕ = palette_number palette s p in
        let drawn = sample_numbered leaves.0 n in
        let before = palette_sample palette s p in
        let old_is : stored_in_tile tile.count old column row s ≡ before = has column row s h.is_sample here in
        let new_is : stored_in_tile tile.count new column row s ≡ palette_sample made s p = stored column row s h.is_sample here in
        elim (cases_eq (bit_at (slice_index words s) p) 1) [
          | inl set ↦
              let met = paints.met row column s h (record { square = square_of tile side bx by block row column s h here; in_words = set }) in
              let draws = subst (λ (x : CanvasSample). Takes f x (stored_in_tile tile.count new column row s)) old_is met in
              let same = sample_once f before (stored_in_tile tile.count new column row s) drawn draws (leaves.1 n (below_four palette s p)) in
              sym new_is ∙ same ∙ sym (chosen_set (slice_index words s) p drawn before set)
          | inr clear ↦
              sym new_is
              ∙ paints.missed row column s h (λ q. clear q.in_words)
              ∙ old_is
              ∙ sym (chosen_clear (slice_index words s) p drawn before clear)
        ]

    made_is : IsPaletteReplaced tile.count palette words leaves.0 made
    made_is s p small l =
        let right = rw side at block.right in
        let bottom = rw side at block.bottom in
        let left = block.left in
        let top = block.top in
        let row : ℕ = 8 * (by - tile.by) + p / 8 in
        let column : ℕ = 8 * (bx - tile.bx) + p % 8 in
        let pixel : pixel_in_block column row ≡ p = omega (arith, l) in
        let here : block_in_tile column row ≡ number_in_tile tile bx by = omega (arith, l, left, top, right, bottom) in
        subst (λ q. palette_sample made s q ≡ chosen (slice_index words s) q (sample_numbered leaves.0 (palette_number palette s q)) (palette_sample palette s q)) pixel
        (made_at row column s (record { high = rw side (omega (arith, l, top, bottom)); wide = rw side (omega (arith, l, left, right)); is_sample = small }) here)

  pub leaves_many : LeavesManySamples f tile (IsInWords tile bx by words) (number_in_tile tile bx by) old
  leaves_many new made paints stored = leaves.2 made (made_is new made paints stored)

-- ---- the ways in which a block is not kept
module _ (count : SampleCount) (k : ℕ) (xs : List BlockSamples) (plain : (sample : CanvasSample) → HasOne count k sample xs → (way_in_tile xs k ≡ Cleared) ⊎ (way_in_tile xs k ≡ Single) → false ≡ true) where
  pub not_flat : ((way_in_tile xs k ≡ Flat) ⊎ (way_in_tile xs k ≡ FlatPair) → false ≡ true) → IsNotKeptFlat count k xs
  not_flat few = record { flat = λ e. false≢true (few (inl e)); pair = λ e. false≢true (few (inr e)); one = λ sample has. (λ e. false≢true (plain sample has (inl e)), λ e. false≢true (plain sample has (inr e))) }

  pub not_in_four : ((way_in_tile xs k ≡ Flat) ⊎ (way_in_tile xs k ≡ FlatPair) ⊎ (way_in_tile xs k ≡ FlatFour) → false ≡ true) → IsNotKeptInFour count k xs
  not_in_four few = record {
    flat = record { flat = λ e. false≢true (few (inl e)); pair = λ e. false≢true (few (inr (inl e))); one = λ sample has. (λ e. false≢true (plain sample has (inl e)), λ e. false≢true (plain sample has (inr e))) };
    four = λ e. false≢true (few (inr (inr e)));
  }

-- ---- the block of some masks
pub not_in_block : (f : FlatFragment) (tile : Tile) (k : ℕ) (old : List BlockSamples) (P R : ℕ → ℕ → ℕ → Type 0) → ((new : List BlockSamples) → TilePaints f tile R old new → TilePaints f tile P old new)
    → IsNotDrawnInFour f tile P k old → IsNotDrawnInFour f tile R k old
not_in_block f tile k old P R from (inl not_kept) = inl not_kept
not_in_block f tile k old P R from (inr leaves) = inr (λ new palette paints has. leaves new palette (from new paints) has)

-- ---- a block that is not drawn as one of one sample or two
module _ (f : FlatFragment) (tile : Tile) (bx by : ℕ) (masks : Masks) (k : ℕ) (old : List BlockSamples) (count : SampleCount) (number : ℕ) (same_count : count ≡ tile.count) (same : number ≡ number_in_tile tile bx by) where
  pub flat_not_kept : IsNotKeptFlat count number old → IsNotDrawnFlat f tile bx by masks k old
  flat_not_kept not_kept = inl (subst (λ n. IsNotKeptFlat n (number_in_tile tile bx by) old) same_count (subst (λ m. IsNotKeptFlat count m old) same not_kept))

  pub flat_not_left : (flat : FlatBlock) (words : List ℕ) → HasFlat count number flat old → ((s : ℕ) → s < count_of tile.count → slice_index words s ≡ block_mask masks k (by - tile.by) s)
      → (StaysFlatDrawn f count flat words → false ≡ true) → IsNotDrawnFlat f tile bx by masks k old
  flat_not_left flat words has are stays_not =
      inr (record {
        flat = flat;
        words = words;
        has = subst (λ n. HasFlat n (number_in_tile tile bx by) flat old) same_count (subst (λ m. HasFlat count m flat old) same has);
        are = are;
        changes = λ stays. false≢true (stays_not (subst (λ n. StaysFlatDrawn f n flat words) (sym same_count) stays));
      })
