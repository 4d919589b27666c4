-- What is drawn at blocks that are kept as pairs.
use Rattle.std.proofs.Common.{refl, ◌≡◌, ◌≢◌, ◌∙◌, inl, inr, sym, subst, ap, arith, ℕ, ◌-◌, ◌/◌, ◌<◌, ◌≤◌, List, slice_index}
use Rattle.std.specs.Prelude.{◌==◌, if◌then◌else◌}
use Rattle.std.specs.Int.{bit_at}
use Rattle.std.proofs.lemmas.Bool.Decides.{eqb_tells}
use Rattle.grid.specs.Samples.{count_of}
use Rattle.grid.specs.declared.pixels.TileSide.TheVariants.{T64}
use Rattle.grid.specs.declared.sample_count.SampleCount.{SampleCount}
use Rattle.lanes.specs.declared.block_samples.BlockSamples.{BlockSamples}
use Rattle.lanes.specs.Block.{stored_at}
use Rattle.shade.specs.declared.sample.CanvasSample.{CanvasSample}
use Rattle.shade.proofs.Resolved.{some_samples}
use Rattle.lanes.specs.Fragment.{FlatFragment, Takes}
use Rattle.raster.specs.declared.tile.Tile.{Tile}
use Rattle.raster.specs.Drawing.{IsInSquare, LiesIn}
use Rattle.raster.specs.Samples.{IsSampleOf}
use Rattle.raster.proofs.Bits.{is_one, is_set}
use Rattle.blocks.specs.declared.way.Way.{Way}
use Rattle.blocks.specs.declared.way.Way.TheVariants.{Pair}
use Rattle.canvas.specs.Hidden.{ReplacesColours}
use Rattle.blocks.specs.Layout.{block_in_tile, pixel_in_block, in_list, place_by, place_in_tile, sample_place, slot_by, mask_of as mask_in, masks_in, more_in, own_plane, stored_in_tile, way_in_tile, HasMasks, AreReplaced, KeepsOtherSamples}
use Rattle.blocks.proofs.Places.{further_not_first, middle_sample}
use Rattle.blocks.proofs.TilePlanes.{cases_eq}
use Rattle.block_fills.specs.declared.masks.Masks.{Masks}
use Rattle.blocks.proofs.Ways.{pair_not_four}
use Rattle.block_fills.specs.Parts.{block_mask, number_in_tile, AllowsTile, IsInWords, IsInBlock, IsKeptAt, HasNoMasks, KeepsPlanesBut, DrawsPlane, TilePaints}
use Rattle.block_fills.proofs.BlocksAlike.{drawn_alike}
use Rattle.block_fills.proofs.Joined.{tile_same, tile_joined}
use Rattle.block_fills.proofs.OnePlane.{allowed_all, no_masks_at, place_apart, same_places}
use Rattle.block_fills.proofs.Tiles.{in_block, of_block}

-- ---- the planes of a pair
pub no_masks_first : (count : SampleCount) (xs : List BlockSamples) (k : ℕ) → 4 ≤ count_of count → HasNoMasks count xs (place_by count Pair k 0)
no_masks_first count xs k some = no_masks_at count xs Pair k 0 (some_samples count) refl (λ pair e. omega (arith, e, some)) (λ four e. further_not_first count some (omega (arith, e)))

pub no_masks_second : (count : SampleCount) (xs : List BlockSamples) (k : ℕ) → 4 ≤ count_of count → way_in_tile xs k ≡ Pair → HasNoMasks count xs (place_by count Pair k (count_of count / 2))
no_masks_second count xs k some was = no_masks_at count xs Pair k (count_of count / 2) (middle_sample count) refl (λ pair e. omega (arith, e, some)) (λ four e. pair_not_four (sym was ∙ four))

pair_place : (count : SampleCount) (xs : List BlockSamples) (i j s k : ℕ) → block_in_tile i j ≡ k → way_in_tile xs k ≡ Pair
    → place_in_tile count (in_list xs) i j s ≡ place_by count Pair k (own_plane count Pair (masks_in count (in_list xs) k) (more_in count (in_list xs) k) (pixel_in_block i j) s)
pair_place count xs i j s k here pair =
    ap (λ m. sample_place count (way_in_tile xs m) (in_list xs) m (pixel_in_block i j) s) here
    ∙ ap (λ (way : Way). sample_place count way (in_list xs) k (pixel_in_block i j) s) pair

with_bit : (count : SampleCount) (masks more : BlockSamples) (p s : ℕ) → bit_at (mask_in masks s) p ≡ 1 → own_plane count Pair masks more p s ≡ count_of count / 2
with_bit count masks more p s e = ap (λ b. if b == 1 then count_of count / 2 else 0) e

without_bit : (count : SampleCount) (masks more : BlockSamples) (p s : ℕ) → bit_at (mask_in masks s) p ≢ 1 → own_plane count Pair masks more p s ≡ 0
without_bit count masks more p s other = elim (eqb_tells (bit_at (mask_in masks s) p) 1) [
  | inl same ↦ absurd (other same.1)
  | inr clear ↦ ap (λ b. if b then count_of count / 2 else 0) clear.0
]

-- ---- a block of the tile
module _ (tile : Tile) (side : tile.side ≡ T64) (bx by : ℕ) (block : LiesIn tile bx by 8) (row column s : ℕ) (h : IsSampleOf tile row column s) where
  pub square_of : block_in_tile column row ≡ number_in_tile tile bx by → IsInSquare tile bx by 8 row column s
  square_of here =
      let right = rw side at block.right in
      let bottom = rw side at block.bottom in
      of_block tile side bx by row column s h block.left (omega (arith, right)) block.top (omega (arith, bottom)) here

-- its samples in the masks of all samples of a pixel are those that are drawn
module _ (f : FlatFragment) (tile : Tile) (bx by : ℕ) (block : LiesIn tile bx by 8) (masks : Masks) (k : ℕ) (allows : AllowsTile f.state tile) (words : List ℕ)
    (are : (s : ℕ) → s < count_of tile.count → slice_index words s ≡ block_mask masks k (by - tile.by) s) (old new : List BlockSamples) where
  word_is : (row column s : ℕ) → IsSampleOf tile row column s → IsInSquare tile bx by 8 row column s → slice_index words s ≡ block_mask masks k (row / 8) s
  word_is row column s h q =
      let low = block.top in
      let line : by - tile.by ≡ row / 8 = omega (arith, q.top, q.bottom, low) in
      are s h.is_sample ∙ ap (λ r. block_mask masks k r s) line

  in_words_of : (row column s : ℕ) → IsSampleOf tile row column s → IsInBlock f.state tile bx by masks k row column s → IsInWords tile bx by words row column s
  in_words_of row column s h p = record {
    square = p.square;
    in_words = subst (λ w. bit_at w (pixel_in_block column row) ≡ 1) (sym (word_is row column s h p.square)) (is_one (block_mask masks k (row / 8) s) (pixel_in_block column row) p.in_masks);
  }

  in_block_of : (row column s : ℕ) → IsSampleOf tile row column s → IsInWords tile bx by words row column s → IsInBlock f.state tile bx by masks k row column s
  in_block_of row column s h p = record {
    square = p.square;
    in_masks = is_set (block_mask masks k (row / 8) s) (pixel_in_block column row) (subst (λ w. bit_at w (pixel_in_block column row) ≡ 1) (word_is row column s h p.square) p.in_words);
    allowed = allowed_all f.state tile allows row column s h;
  }

  pub words_painted : TilePaints f tile (IsInWords tile bx by words) old new → TilePaints f tile (IsInBlock f.state tile bx by masks k) old new
  words_painted paints = tile_same f tile (IsInWords tile bx by words) (IsInBlock f.state tile bx by masks k) old new paints in_words_of in_block_of

  pub block_painted : TilePaints f tile (IsInBlock f.state tile bx by masks k) old new → TilePaints f tile (IsInWords tile bx by words) old new
  block_painted paints = tile_same f tile (IsInBlock f.state tile bx by masks k) (IsInWords tile bx by words) old new paints in_block_of in_words_of

-- ---- drawn in the second plane, which has the samples in the masks
module _ (f : FlatFragment) (tile : Tile) (side : tile.side ≡ T64) (bx by : ℕ) (block : LiesIn tile bx by 8) (words : List ℕ) (mid new : List BlockSamples) (some : 4 ≤ count_of tile.count)
    (pair : way_in_tile mid (number_in_tile tile bx by) ≡ Pair) (has : HasMasks tile.count (number_in_tile tile bx by) words mid)
    (paints : TilePaints f tile (IsKeptAt tile.count mid (place_by tile.count Pair (number_in_tile tile bx by) (count_of tile.count / 2))) mid new) where
  abbrev number : ℕ
  number = number_in_tile tile bx by

  second_in : (row column s : ℕ) → IsSampleOf tile row column s → IsKeptAt tile.count mid (place_by tile.count Pair number (count_of tile.count / 2)) row column s → block_in_tile column row ≡ number → IsInWords tile bx by words row column s
  second_in row column s h at here =
      let marks = masks_in tile.count (in_list mid) number in
      let p : ℕ = pixel_in_block column row in
      let place = sym (pair_place tile.count mid column row s number here pair) ∙ at in
      record {
        square = square_of tile side bx by block row column s h here;
        in_words = elim (cases_eq (bit_at (slice_index words s) p) 1) [
          | inl set ↦ set
          | inr clear ↦
              let zero = without_bit tile.count marks (more_in tile.count (in_list mid) number) p s (λ e. clear (ap (λ w. bit_at w p) (sym (has s h.is_sample)) ∙ e)) in
              absurd (omega (arith, place, zero, some))
        ];
      }

  pub pair_painted : TilePaints f tile (IsInWords tile bx by words) mid new
  pair_painted =
      tile_same f tile (IsKeptAt tile.count mid (place_by tile.count Pair number (count_of tile.count / 2))) (IsInWords tile bx by words) mid new paints
      (λ row column s h p.
      let p_in : ℕ = pixel_in_block column row in
      pair_place tile.count mid column row s number (in_block tile side bx by row column s h p.square) pair
      ∙ ap (place_by tile.count Pair number)
      (with_bit tile.count (masks_in tile.count (in_list mid) number) (more_in tile.count (in_list mid) number) p_in s (ap (λ w. bit_at w p_in) (has s h.is_sample) ∙ p.in_words)))
      (λ row column s h at. elim (cases_eq (block_in_tile column row) number) [
        | inl here ↦ second_in row column s h at here
        | inr other ↦ absurd (place_apart tile.count mid Pair column row s number (count_of tile.count / 2) other h.is_sample (middle_sample tile.count) refl at)
      ])

-- ---- drawn in both planes
module _ (f : FlatFragment) (tile : Tile) (side : tile.side ≡ T64) (bx by : ℕ) (block : LiesIn tile bx by 8) (old mid new : List BlockSamples) (some : 4 ≤ count_of tile.count)
    (pair : way_in_tile old (number_in_tile tile bx by) ≡ Pair) (others : KeepsPlanesBut (place_by tile.count Pair (number_in_tile tile bx by) 0) old mid)
    (first : TilePaints f tile (IsKeptAt tile.count old (place_by tile.count Pair (number_in_tile tile bx by) 0)) old mid)
    (second : TilePaints f tile (IsKeptAt tile.count mid (place_by tile.count Pair (number_in_tile tile bx by) (count_of tile.count / 2))) mid new) where
  abbrev its : ℕ
  its = number_in_tile tile bx by

  same_mid : (i j s : ℕ) → place_in_tile tile.count (in_list mid) i j s ≡ place_in_tile tile.count (in_list old) i j s
  same_mid = same_places tile.count (place_by tile.count Pair its 0) old mid (omega arith) others (no_masks_first tile.count old its some)

  pub both_painted : TilePaints f tile (IsInSquare tile bx by 8) old new
  both_painted =
      tile_joined f tile (IsKeptAt tile.count old (place_by tile.count Pair its 0)) (IsKeptAt tile.count mid (place_by tile.count Pair its (count_of tile.count / 2))) (IsInSquare tile bx by 8) old mid new first second
      (λ row column s h p q. let same = same_mid column row s in omega (arith, p, q, same, some))
      (λ row column s h q.
      let marks = masks_in tile.count (in_list old) its in
      let p : ℕ = pixel_in_block column row in
      let place = pair_place tile.count old column row s its (in_block tile side bx by row column s h q) pair in
      elim (cases_eq (bit_at (mask_in marks s) p) 1) [
        | inl set ↦ inr (same_mid column row s ∙ place ∙ ap (place_by tile.count Pair its) (with_bit tile.count marks (more_in tile.count (in_list old) its) p s set))
        | inr clear ↦ inl (place ∙ ap (place_by tile.count Pair its) (without_bit tile.count marks (more_in tile.count (in_list old) its) p s clear))
      ])
      (λ row column s h at. elim (cases_eq (block_in_tile column row) its) [
        | inl here ↦ square_of tile side bx by block row column s h here
        | inr other ↦ absurd (place_apart tile.count old Pair column row s its 0 other h.is_sample (some_samples tile.count) refl at)
      ])
      (λ row column s h at. elim (cases_eq (block_in_tile column row) its) [
        | inl here ↦ square_of tile side bx by block row column s h here
        | inr other ↦ absurd (place_apart tile.count mid Pair column row s its (count_of tile.count / 2) other h.is_sample (middle_sample tile.count) refl at)
      ])

-- ---- stored in place of the samples in the masks
module _ (f : FlatFragment) (tile : Tile) (side : tile.side ≡ T64) (bx by : ℕ) (block : LiesIn tile bx by 8) (words : List ℕ) (plane : BlockSamples) (old new : List BlockSamples)
    (pair : way_in_tile old (number_in_tile tile bx by) ≡ Pair) (replaces : ReplacesColours f.state tile.count)
    (same : ((in_list old (place_by tile.count Pair (number_in_tile tile bx by) 0)).z ≡ (in_list old (place_by tile.count Pair (number_in_tile tile bx by) (count_of tile.count / 2))).z)
    × ((in_list old (place_by tile.count Pair (number_in_tile tile bx by) 0)).alpha ≡ (in_list old (place_by tile.count Pair (number_in_tile tile bx by) (count_of tile.count / 2))).alpha))
    (drawn : DrawsPlane f (in_list old (place_by tile.count Pair (number_in_tile tile bx by) 0)) plane)
    (made : AreReplaced tile.count (number_in_tile tile bx by) words plane old new) (others : KeepsOtherSamples tile.count (number_in_tile tile bx by) old new) where
  abbrev this : ℕ
  this = number_in_tile tile bx by

  abbrev first_plane : BlockSamples
  first_plane = in_list old (place_by tile.count Pair this 0)

  abbrev second_plane : BlockSamples
  second_plane = in_list old (place_by tile.count Pair this (count_of tile.count / 2))

  module _ (row column s : ℕ) (h : IsSampleOf tile row column s) where
    abbrev pixel : ℕ
    pixel = pixel_in_block column row

    -- the stored sample is that of one of the two planes
    drawn_over : block_in_tile column row ≡ this → Takes f (stored_in_tile tile.count old column row s) (stored_at plane pixel)
    drawn_over here =
        let marks = masks_in tile.count (in_list old) this in
        let over_first = drawn pixel (omega arith) in
        let over_second = drawn_alike f tile.count (stored_at first_plane pixel) (stored_at second_plane pixel) (stored_at plane pixel) replaces
        (ap (λ (z : List ℕ). slice_index z pixel) (sym same.0)) (ap (λ (alpha : List ℕ). slice_index alpha pixel) (sym same.1)) over_first in
        let place = pair_place tile.count old column row s this here pair in
        let stored_is : stored_in_tile tile.count old column row s ≡ stored_at (in_list old (place_in_tile tile.count (in_list old) column row s)) pixel =
        ap (λ way. stored_at (in_list old (place_in_tile tile.count (in_list old) column row s)) (slot_by way (block_in_tile column row) pixel)) (ap (way_in_tile old) here ∙ pair) in
        let drawn_at = λ (n : ℕ) (e : place_in_tile tile.count (in_list old) column row s ≡ n). subst (λ (x : CanvasSample). Takes f x (stored_at plane pixel)) (sym (stored_is ∙ ap (λ n. stored_at (in_list old n) pixel) e)) in
        elim (cases_eq (bit_at (mask_in marks s) pixel) 1) [
          | inl set ↦ drawn_at _ (place ∙ ap (place_by tile.count Pair this) (with_bit tile.count marks (more_in tile.count (in_list old) this) pixel s set)) over_second
          | inr clear ↦ drawn_at _ (place ∙ ap (place_by tile.count Pair this) (without_bit tile.count marks (more_in tile.count (in_list old) this) pixel s clear)) over_first
        ]

    in_words_is : IsInWords tile bx by words row column s
        → Takes f (stored_in_tile tile.count old column row s) (stored_in_tile tile.count new column row s)
    in_words_is p =
        let here = in_block tile side bx by row column s h p.square in
        let new_is : stored_in_tile tile.count new column row s ≡ stored_at plane pixel =
        made column row s h.is_sample here ∙ ap (λ b. if b == 1 then stored_at plane pixel else stored_in_tile tile.count old column row s) p.in_words in
        subst (λ (y : CanvasSample). Takes f (stored_in_tile tile.count old column row s) y) (sym new_is) (drawn_over here)

    not_in_words : ¬ IsInWords tile bx by words row column s → stored_in_tile tile.count new column row s ≡ stored_in_tile tile.count old column row s
    not_in_words missed =
        elim (cases_eq (block_in_tile column row) this) [
          | inr apart ↦ others column row s h.is_sample apart
          | inl here ↦ elim (eqb_tells (bit_at (slice_index words s) pixel) 1) [
            | inl set ↦ absurd (missed (record { square = square_of tile side bx by block row column s h here; in_words = set.1 }))
            | inr clear ↦ made column row s h.is_sample here ∙ ap (λ b. if b then stored_at plane pixel else stored_in_tile tile.count old column row s) clear.0
          ]
        ]

  pub replaced_painted : TilePaints f tile (IsInWords tile bx by words) old new
  replaced_painted = record { met = λ row column s h p. in_words_is row column s h p; missed = λ row column s h other. not_in_words row column s h other }
