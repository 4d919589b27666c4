-- Blocks that have up to four samples, and what is drawn at them.
use Rattle.std.proofs.Common.{refl, ◌≡◌, ◌∙◌, inl, inr, sym, subst, arith, Bool, true, false, ℕ, zero, suc, ◌<◌, List, [], ◌∷◌, slice_index}
use Rattle.std.specs.Prelude.{◌==◌, if◌then◌else◌}
use Rattle.std.specs.Int.{bit_at}
use Rattle.grid.specs.declared.pixels.TileSide.TheVariants.{T64}
use Rattle.grid.specs.declared.sample_count.SampleCount.{SampleCount}
use Rattle.lanes.specs.declared.block_samples.BlockSamples.{BlockSamples}
use Rattle.shade.specs.declared.sample.CanvasSample.{CanvasSample}
use Rattle.lanes.specs.Fragment.{FlatFragment, Takes}
use Rattle.raster.specs.declared.tile.Tile.{Tile}
use Rattle.raster.specs.Drawing.{IsInSquare, LiesIn}
use Rattle.raster.specs.Samples.{IsSampleOf}
use Rattle.blocks.specs.declared.flat_block.FlatBlock.{FlatBlock}
use Rattle.blocks.specs.declared.palette.Palette.{Palette}
use Rattle.blocks.specs.Layout.{block_in_tile, pixel_in_block, stored_in_tile, chosen, KeepsOtherSamples}
use Rattle.blocks.specs.Palettes.{palette_number, sample_numbered, palette_sample, HasPalette, IsFlatReplacedInFour}
use Rattle.blocks.proofs.Palettes.{below_four, sample_chosen}
use Rattle.blocks.specs.FlatBlocks.{flat_sample, with_samples, HasFlat, HasOne, IsFlatReplaced}
use Rattle.blocks.proofs.Pairs.{chosen_set, chosen_clear}
use Rattle.blocks.proofs.TilePlanes.{cases_eq}
use Rattle.block_fills.specs.Parts.{number_in_tile, IsInWords, IsPaletteDrawn, TilePaints}
use Rattle.block_fills.proofs.PairBlocks.{square_of}
use Rattle.block_fills.proofs.Tiles.{in_block}

-- drawn at either of two samples
either : (f : FlatFragment) (b : Bool) (x y x' y' : CanvasSample) → Takes f x x' → Takes f y y' → Takes f (if b then y else x) (if b then y' else x')
either f true x y x' y' first second = second
either f false x y x' y' first second = first

-- drawn at the one sample of a block
module _ (f : FlatFragment) (tile : Tile) (side : tile.side ≡ T64) (bx by : ℕ) (block : LiesIn tile bx by 8) (sample made : CanvasSample) (old new : List BlockSamples) (has : HasOne tile.count (number_in_tile tile bx by) sample old)
    (draws : Takes f sample made) (stored : HasOne tile.count (number_in_tile tile bx by) made new) (others : KeepsOtherSamples tile.count (number_in_tile tile bx by) old new) where
  pub one_painted : TilePaints f tile (IsInSquare tile bx by 8) old new
  one_painted = record {
    met = λ row column s h q.
        let here = in_block tile side bx by row column s h q in
        subst (λ (x : CanvasSample). Takes f x (stored_in_tile tile.count new column row s)) (sym (has column row s h.is_sample here))
        (subst (λ (y : CanvasSample). Takes f sample y) (sym (stored column row s h.is_sample here)) draws);
    missed = λ row column s h other. others column row s h.is_sample (λ here. other (square_of tile side bx by block row column s h here));
  }

module _ (f : FlatFragment) (tile : Tile) (side : tile.side ≡ T64) (bx by : ℕ) (block : LiesIn tile bx by 8) (words : List ℕ) (flat made : FlatBlock) (first second : CanvasSample) (old new : List BlockSamples)
    (has : HasFlat tile.count (number_in_tile tile bx by) flat old) (draws_first : Takes f flat.first first) (draws_second : Takes f flat.second second)
    (is : IsFlatReplaced tile.count flat words first second made) (stored : HasFlat tile.count (number_in_tile tile bx by) made new) (others : KeepsOtherSamples tile.count (number_in_tile tile bx by) old new) where
  module _ (row column s : ℕ) (h : IsSampleOf tile row column s) where
    abbrev pixel : ℕ
    pixel = pixel_in_block column row

    abbrev drawn : CanvasSample
    drawn = flat_sample (with_samples flat first second) s pixel

    new_is : block_in_tile column row ≡ number_in_tile tile bx by → stored_in_tile tile.count new column row s ≡ (if bit_at (slice_index words s) pixel == 1 then drawn else flat_sample flat s pixel)
    new_is here = stored column row s h.is_sample here ∙ is s pixel h.is_sample (omega arith)

    met : IsInWords tile bx by words row column s
        → Takes f (stored_in_tile tile.count old column row s) (stored_in_tile tile.count new column row s)
    met p =
        let here = in_block tile side bx by row column s h p.square in
        let both = either f (bit_at (slice_index flat.masks s) pixel == 1) flat.first flat.second first second
        draws_first draws_second in
        subst (λ (x : CanvasSample). Takes f x (stored_in_tile tile.count new column row s)) (sym (has column row s h.is_sample here))
        (subst (λ (y : CanvasSample). Takes f (flat_sample flat s pixel) y) (sym (new_is here ∙ chosen_set (slice_index words s) pixel drawn (flat_sample flat s pixel) p.in_words)) both)

    missed : ¬ IsInWords tile bx by words row column s → stored_in_tile tile.count new column row s ≡ stored_in_tile tile.count old column row s
    missed other =
        elim (cases_eq (block_in_tile column row) (number_in_tile tile bx by)) [
          | inr apart ↦ others column row s h.is_sample apart
          | inl here ↦
              new_is here
              ∙ chosen_clear (slice_index words s) pixel drawn (flat_sample flat s pixel) (λ set. other (record { square = square_of tile side bx by block row column s h here; in_words = set }))
              ∙ sym (has column row s h.is_sample here)
        ]

  pub flat_painted : TilePaints f tile (IsInWords tile bx by words) old new
  flat_painted = record { met = λ row column s h p. met row column s h p; missed = λ row column s h other. missed row column s h other }

-- ---- one sample as a block of two
one_of : (b : Bool) (x : CanvasSample) → (if b then x else x) ≡ x
one_of true x = refl
one_of false x = refl

module _ (sample drawn : CanvasSample) (words : List ℕ) where
  abbrev pub as_two : FlatBlock
  as_two = record { first = sample; second = sample; masks = words }

  abbrev pub drawn_in_words : FlatBlock
  drawn_in_words = record { first = sample; second = drawn; masks = words }

  pub has_two : (count : SampleCount) (k : ℕ) (samples : List BlockSamples) → HasOne count k sample samples → HasFlat count k as_two samples
  has_two count k samples one i j s l here = one i j s l here ∙ sym (one_of (bit_at (slice_index words s) (pixel_in_block i j) == 1) sample)

  pub one_replaced : (count : SampleCount) → IsFlatReplaced count as_two words drawn drawn drawn_in_words
  one_replaced count s p l m =
      let b : Bool = bit_at (slice_index words s) p == 1 in
      λ i. chosen (slice_index words s) p (sym (one_of b drawn) i) (sym (one_of b sample) i)

-- drawn at each of four samples
pub each_drawn : (f : FlatFragment) (old new : List CanvasSample) → Takes f (sample_numbered old 0) (sample_numbered new 0) → Takes f (sample_numbered old 1) (sample_numbered new 1) → Takes f (sample_numbered old 2) (sample_numbered new 2) → Takes f (sample_numbered old 3) (sample_numbered new 3)
    → (number : ℕ) → number < 4 → Takes f (sample_numbered old number) (sample_numbered new number)
each_drawn f old new first second third fourth zero l = first
each_drawn f old new first second third fourth (suc zero) l = second
each_drawn f old new first second third fourth (suc (suc zero)) l = third
each_drawn f old new first second third fourth (suc (suc (suc zero))) l = fourth
each_drawn f old new first second third fourth (suc (suc (suc (suc number)))) l = absurd (omega (arith, l))

-- ---- one sample or two as four
module _ (flat : FlatBlock) (words : List ℕ) (first second : CanvasSample) where
  abbrev pub as_palette : Palette
  as_palette = record { samples = flat.first ∷ flat.second ∷ flat.first ∷ flat.second ∷ []; low = flat.masks; high = words }

  abbrev drawn_twice : List CanvasSample
  drawn_twice = first ∷ second ∷ first ∷ second ∷ []

  of_two : (x y : CanvasSample) (s p : ℕ) → sample_numbered (x ∷ y ∷ x ∷ y ∷ []) (palette_number as_palette s p) ≡ chosen (slice_index flat.masks s) p y x
  of_two x y s p =
      sym (sample_chosen (slice_index flat.masks s) (slice_index words s) p (x ∷ y ∷ x ∷ y ∷ [])) ∙ one_of (bit_at (slice_index words s) p == 1) (chosen (slice_index flat.masks s) p y x)

  pub has_palette : (count : SampleCount) (k : ℕ) (samples : List BlockSamples) → HasFlat count k flat samples → HasPalette count k as_palette samples
  has_palette count k samples has i j s l here = has i j s l here ∙ sym (of_two flat.first flat.second s (pixel_in_block i j))

  pub four_drawn : (f : FlatFragment) (count : SampleCount) (made : Palette) → Takes f flat.first first → Takes f flat.second second → IsFlatReplacedInFour count flat words first second made → IsPaletteDrawn f count as_palette words made
  four_drawn f count made draws_first draws_second replaced = (
    drawn_twice,
    each_drawn f as_palette.samples drawn_twice draws_first draws_second draws_first draws_second,
    (λ s p l m. replaced s p l m ∙ (λ i. chosen (slice_index words s) p (sym (of_two first second s p) i) (sym (of_two flat.first flat.second s p) i))),
  )

module _ (f : FlatFragment) (tile : Tile) (side : tile.side ≡ T64) (bx by : ℕ) (block : LiesIn tile bx by 8) (words : List ℕ) (palette made : Palette) (old new : List BlockSamples)
    (has : HasPalette tile.count (number_in_tile tile bx by) palette old) (is : IsPaletteDrawn f tile.count palette words made)
    (stored : HasPalette tile.count (number_in_tile tile bx by) made new) (others : KeepsOtherSamples tile.count (number_in_tile tile bx by) old new) where
  module _ (row column s : ℕ) (h : IsSampleOf tile row column s) where
    abbrev its_pixel : ℕ
    its_pixel = pixel_in_block column row

    abbrev its_number : ℕ
    its_number = palette_number palette s its_pixel

    new_sample : block_in_tile column row ≡ number_in_tile tile bx by → stored_in_tile tile.count new column row s ≡ chosen (slice_index words s) its_pixel (sample_numbered is.0 its_number) (palette_sample palette s its_pixel)
    new_sample here = stored column row s h.is_sample here ∙ is.2 s its_pixel h.is_sample (omega arith)

    palette_met : IsInWords tile bx by words row column s
        → Takes f (stored_in_tile tile.count old column row s) (stored_in_tile tile.count new column row s)
    palette_met p =
        let here = in_block tile side bx by row column s h p.square in
        let drawn = is.1 its_number (below_four palette s its_pixel) in
        subst (λ (x : CanvasSample). Takes f x (stored_in_tile tile.count new column row s)) (sym (has column row s h.is_sample here))
        (subst (λ (y : CanvasSample). Takes f (palette_sample palette s its_pixel) y)
        (sym (new_sample here ∙ chosen_set (slice_index words s) its_pixel (sample_numbered is.0 its_number) (palette_sample palette s its_pixel) p.in_words)) drawn)

    palette_missed : ¬ IsInWords tile bx by words row column s → stored_in_tile tile.count new column row s ≡ stored_in_tile tile.count old column row s
    palette_missed other =
        elim (cases_eq (block_in_tile column row) (number_in_tile tile bx by)) [
          | inr apart ↦ others column row s h.is_sample apart
          | inl here ↦
              new_sample here
              ∙ chosen_clear (slice_index words s) its_pixel (sample_numbered is.0 its_number) (palette_sample palette s its_pixel) (λ set. other (record { square = square_of tile side bx by block row column s h here; in_words = set }))
              ∙ sym (has column row s h.is_sample here)
        ]

  pub palette_painted : TilePaints f tile (IsInWords tile bx by words) old new
  palette_painted = record { met = λ row column s h p. palette_met row column s h p; missed = λ row column s h other. palette_missed row column s h other }
