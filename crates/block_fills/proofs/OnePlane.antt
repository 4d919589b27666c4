-- A plane of a tile that stands for all samples of its pixels.
use Rattle.std.proofs.Common.{true, false, refl, ◌≡◌, ◌≢◌, inl, inr, sym, subst, ap, ◌∙◌, arith, zero, suc, ℕ, ◌+◌, ◌-◌, ◌*◌, ◌/◌, ◌%◌, ◌^◌, ◌<◌, ◌≤◌, List, [], ◌∷◌, length, take, drop, slice_index, IsBitSet}
use Rattle.std.specs.Prelude.{slice_index_or}
use Rattle.grid.specs.Samples.{count_of}
use Rattle.grid.specs.declared.pixels.PixelBox.{PixelBox}
use Rattle.grid.specs.declared.pixels.TileSide.TheVariants.{T8, T64}
use Rattle.grid.specs.declared.sample_count.SampleCount.TheVariants.{One}
use Rattle.lanes.specs.declared.block_samples.BlockSamples.{BlockSamples}
use Rattle.lanes.specs.Block.{stored_at}
use Rattle.shade.specs.declared.sample.CanvasSample.{CanvasSample}
use Rattle.shade.specs.declared.state.State.{State}
use Rattle.shade.proofs.Resolved.{some_samples}
use Rattle.lanes.specs.Fragment.{FlatFragment, Takes}
use Rattle.raster.specs.declared.tile.Tile.{Tile}
use Rattle.raster.specs.Drawing.{IsChosen, IsInSquare, LiesIn, MergesMasks}
use Rattle.raster.specs.Region.{HoldsTile}
use Rattle.raster.specs.Samples.{IsSampleOf, place_of as place_in, stored as in_tile}
use Rattle.raster.proofs.Rows.{word_full}
use Rattle.blocks.specs.declared.way.Way.{Way}
use Rattle.blocks.specs.declared.way.Way.TheVariants.{Cleared, Single, Own, FlatFour}
use Rattle.blocks.specs.Layout.{masks_from, further_plane, first_further, stored_in_tile, block_in_tile, pixel_in_block, in_list, place_by, place_in_tile, sample_place, masks_place, more_place, masks_in, more_in, mask_of, own_plane, slot_by, is_plain, way_of, way_in_tile}
use Rattle.blocks.proofs.Cut.{put, put_here, put_elsewhere, part_of}
use Rattle.blocks.proofs.Places.{none, last_sample, further_below, within_block, slot_below}
use Rattle.blocks.proofs.TilePlanes.{cases_eq, has_own, apart, same_place_by}
use Rattle.grid.specs.declared.sample_count.SampleCount.{SampleCount}
use Rattle.block_fills.specs.declared.masks.Masks.{Masks}
use Rattle.block_fills.specs.Parts.{block_mask, number_in_tile, AllowsTile, IsAllowed, IsInBlock, IsKeptAt, HasNoMasks, KeepsPlanesBut, DrawsPlane, TilePaints, DrawsAlike, KeepsOtherBlocks}
use Rattle.block_fills.proofs.Joined.{tile_same}
use Rattle.block_fills.proofs.Tiles.{in_block, of_block}

-- the state lets each sample of the tile be drawn
pub allowed_all : (state : State) (tile : Tile) → AllowsTile state tile → (row column s : ℕ) → IsSampleOf tile row column s → IsAllowed state tile row column s
allowed_all state tile allows row column s h = record { in_scissor = allows.in_scissor row column h.high h.wide; in_mask = allows.in_mask s h.is_sample }

-- the pixels of a block of the tile are in the rectangle that holds the tile
pub holds_block : (r : PixelBox) (tile o : Tile) → tile.side ≡ T64 → (bx by : ℕ) → LiesIn tile bx by 8 → (o.bx ≡ bx) × (o.by ≡ by) × (o.side ≡ T8) × (o.count ≡ One) → HoldsTile r tile → HoldsTile r o
holds_block r tile o side bx by block at_block holds row column high wide =
    let few_rows : row < 8 = rw at_block.2 at high in
    let few_columns : column < 8 = rw at_block.2 at wide in
    let right = rw side at block.right in
    let bottom = rw side at block.bottom in
    let left = block.left in
    let top = block.top in
    let across : 8 * tile.bx + (8 * (bx - tile.bx) + column) ≡ 8 * o.bx + column = omega (arith, left, at_block.0) in
    let down : 8 * tile.by + (8 * (by - tile.by) + row) ≡ 8 * o.by + row = omega (arith, top, at_block.1) in
    rw (across, down) at (holds (8 * (by - tile.by) + row) (8 * (bx - tile.bx) + column) (rw side (omega (arith, bottom, top, few_rows))) (rw side (omega (arith, right, left, few_columns))))

abbrev pub ones : List ℕ
ones = 18446744073709551615 ∷ 0 ∷ 0 ∷ 0 ∷ []

zero_word : (s k : ℕ) → s < 1 → k < 64 → IsBitSet (slice_index ones s) k
zero_word zero k h low = word_full k low
zero_word (suc s) k h low = absurd (omega (arith, h))

-- The fragment is drawn at the one plane of a tile of one block, with one sample a pixel.
module _ (f : FlatFragment) (o : Tile) (bx by : ℕ) (xs part : List BlockSamples) (at_block : (o.bx ≡ bx) × (o.by ≡ by) × (o.side ≡ T8) × (o.count ≡ One))
    (scissor : HoldsTile f.state.scissor o) (in_mask : f.state.sample_mask / 2 ^ 0 % 2 ≡ 1) (draws : MergesMasks f o bx by 0 ones xs part) where
  module _ (p : ℕ) (low : p < 64) where
    in_o : IsSampleOf o (p / 8) (p % 8) 0
    in_o = record { high = rw at_block.2 (omega (arith, low)); wide = rw at_block.2 (omega arith); is_sample = rw at_block.3 (omega arith) }

    place_is : place_in o (p / 8 / 8) (p % 8 / 8) 0 ≡ 0
    place_is = rw (at_block.2, at_block.3) (omega (arith, low))

    same_pixel : 8 * (p / 8 % 8) + p % 8 % 8 ≡ p
    same_pixel = omega (arith, low)

    in_plane : (ys : List BlockSamples) → in_tile o ys (p / 8) (p % 8) 0 ≡ stored_at (in_list ys 0) p
    in_plane ys =
        ap (λ k. stored_at (slice_index_or ys k none) (8 * (p / 8 % 8) + p % 8 % 8)) place_is
        ∙ ap (λ q. stored_at (in_list ys 0) q) same_pixel

    chosen : IsChosen f.state o bx by 0 ones (p / 8) (p % 8) 0
    chosen = record {
      part = record {
        square = record {
          left = let e = at_block.0 in omega (arith, e);
          right = let e = at_block.0 in omega (arith, e);
          top = let e = at_block.1 in omega (arith, e);
          bottom = let e = at_block.1 in omega (arith, e, low);
        };
        samples = record { low = omega arith; high = rw at_block.3 (omega arith) };
      };
      in_masks = zero_word 0 (8 * (p / 8 % 8) + p % 8 % 8) (omega arith) (omega arith);
      allowed = record { in_scissor = scissor (p / 8) (p % 8) in_o.high in_o.wide; in_mask = in_mask };
    }

  pub plane_drawn : DrawsPlane f (in_list xs 0) (in_list part 0)
  plane_drawn p low =
      subst (λ (x : CanvasSample). Takes f x (stored_at (in_list part 0) p)) (in_plane p low xs)
      (subst (λ (y : CanvasSample). Takes f (in_tile o xs (p / 8) (p % 8) 0) y) (in_plane p low part) (draws.drawn (p / 8) (p % 8) 0 (in_o p low) (chosen p low)))

-- the same places, if a plane without masks is changed
pub same_places : (count : SampleCount) (q : ℕ) (xs after : List BlockSamples) → 1 ≤ q → KeepsPlanesBut q xs after → HasNoMasks count xs q → (i j s : ℕ) → place_in_tile count (in_list after) i j s ≡ place_in_tile count (in_list xs) i j s
same_places count q xs after first others no_masks i j s =
    let k : ℕ = block_in_tile i j in
    ap (λ (state : BlockSamples). sample_place count (way_of state k) (in_list after) k (pixel_in_block i j) s) (others 0 (λ e. omega (arith, e, first)))
    ∙ same_place_by count (way_in_tile xs k) xs after k (pixel_in_block i j) s ((λ masked. ap (λ plane. mask_of plane s) (others (masks_place count k) ((no_masks k (omega arith)).0 masked))), (λ four. ap (λ plane. mask_of (masks_from (first_further count) plane) s) (others (more_place count k) ((no_masks k (omega arith)).1 four))))

-- ---- plane q of a tile, put back with the fragment drawn at it
module _ (f : FlatFragment) (tile : Tile) (side : tile.side ≡ T64) (q : ℕ) (xs part : List BlockSamples) (n : ℕ) (single : n ≡ 1) (first : 1 ≤ q) (fits : q + n ≤ length xs) (long : length part ≡ n)
    (no_masks : HasNoMasks tile.count xs q) (draws : DrawsPlane f (in_list (take n (drop q xs)) 0) (in_list part 0)) where
  abbrev pub after : List BlockSamples
  after = put xs part q n

  pub others_kept : KeepsPlanesBut q xs after
  others_kept m other = put_elsewhere xs part q n none fits long m (λ s l e. other (omega (arith, e, l, single)))

  old_plane : in_list (take n (drop q xs)) 0 ≡ in_list xs q
  old_plane = part_of xs q n none 0 (omega (arith, single)) ∙ ap (λ k. in_list xs k) (let same : q + 0 ≡ q = omega arith in same)

  new_plane : in_list part 0 ≡ in_list after q
  new_plane = sym (put_here xs part q n none fits long 0 (omega (arith, single))) ∙ ap (λ k. in_list after k) (let same : q + 0 ≡ q = omega arith in same)

  same_here : (i j s : ℕ) → place_in_tile tile.count (in_list after) i j s ≡ place_in_tile tile.count (in_list xs) i j s
  same_here = same_places tile.count q xs after first others_kept no_masks

  module _ (row column s : ℕ) (h : IsSampleOf tile row column s) where
    -- the sample's number in its plane
    abbrev slot_there : ℕ
    slot_there = slot_by (way_in_tile xs (block_in_tile column row)) (block_in_tile column row) (pixel_in_block column row)

    same_slot : stored_in_tile tile.count after column row s ≡ stored_at (in_list after (place_in_tile tile.count (in_list after) column row s)) slot_there
    same_slot =
        ap (λ (state : BlockSamples). stored_at (in_list after (place_in_tile tile.count (in_list after) column row s)) (slot_by (way_of state (block_in_tile column row)) (block_in_tile column row) (pixel_in_block column row)))
        (others_kept 0 (λ e. omega (arith, e, first)))

    -- a sample that is kept there
    pub drawn_there : place_in_tile tile.count (in_list xs) column row s ≡ q
        → Takes f (stored_in_tile tile.count xs column row s) (stored_in_tile tile.count after column row s)
    drawn_there at =
        let pixel : ℕ = slot_there in
        let old_is : stored_in_tile tile.count xs column row s ≡ stored_at (in_list xs q) pixel = ap (λ k. stored_at (in_list xs k) pixel) at in
        let new_is : stored_in_tile tile.count after column row s ≡ stored_at (in_list after q) pixel = same_slot ∙ ap (λ k. stored_at (in_list after k) pixel) (same_here column row s ∙ at) in
        subst (λ (x : CanvasSample). Takes f x (stored_in_tile tile.count after column row s)) (ap (λ (p : BlockSamples). stored_at p pixel) old_plane ∙ sym old_is)
        (subst (λ (y : CanvasSample). Takes f (stored_at (in_list (take n (drop q xs)) 0) pixel) y) (ap (λ (p : BlockSamples). stored_at p pixel) new_plane ∙ sym new_is)
        (draws pixel (slot_below (way_in_tile xs (block_in_tile column row)) (block_in_tile column row) (pixel_in_block column row) (omega arith) (omega arith))))

    -- a sample that is kept elsewhere
    pub kept_elsewhere : place_in_tile tile.count (in_list xs) column row s ≢ q → stored_in_tile tile.count after column row s ≡ stored_in_tile tile.count xs column row s
    kept_elsewhere other =
        let pixel : ℕ = slot_there in
        same_slot
        ∙ ap (λ k. stored_at (in_list after k) pixel) (same_here column row s)
        ∙ ap (λ (p : BlockSamples). stored_at p pixel) (others_kept (place_in_tile tile.count (in_list xs) column row s) other)

  pub plane_painted : TilePaints f tile (IsKeptAt tile.count xs q) xs after
  plane_painted = record { met = λ row column s h at. drawn_there row column s h at; missed = λ row column s h other. kept_elsewhere row column s h other }

-- ---- of a block that is kept in one plane
-- a sample of another block is kept elsewhere
pub place_apart : (count : SampleCount) (xs : List BlockSamples) (way : Way) (i j s k n : ℕ) → block_in_tile i j ≢ k → s < count_of count → n < count_of count → has_own way ≡ true
    → place_in_tile count (in_list xs) i j s ≢ place_by count way k n
place_apart count xs way i j s k n other h l own =
    let m : ℕ = block_in_tile i j in
    let w = way_in_tile xs m in
    apart count w way m k (own_plane count w (masks_in count (in_list xs) m) (more_in count (in_list xs) m) (pixel_in_block i j) s) n other (within_block count w (masks_in count (in_list xs) m) (more_in count (in_list xs) m) (pixel_in_block i j) s h) l own

-- and so are the masks of another block, and those of this one are not in its other planes
pub no_masks_at : (count : SampleCount) (xs : List BlockSamples) (way : Way) (k n : ℕ) → n < count_of count → has_own way ≡ true
    → (is_plain (way_in_tile xs k) ≡ false → masks_place count k ≢ place_by count way k n) → (way_in_tile xs k ≡ FlatFour → more_place count k ≢ place_by count way k n)
    → HasNoMasks count xs (place_by count way k n)
no_masks_at count xs way k n l own here more m small = (
  (λ pair e.
      elim (cases_eq m k) [
        | inl same ↦ here (ap (λ b. is_plain (way_in_tile xs b)) (sym same) ∙ pair) (ap (masks_place count) (sym same) ∙ e)
        | inr other ↦ apart count Own way m k (count_of count - 1) n other (last_sample count) l own e
      ]),
  (λ four e.
      elim (cases_eq m k) [
        | inl same ↦ more (ap (way_in_tile xs) (sym same) ∙ four) (ap (more_place count) (sym same) ∙ e)
        | inr other ↦ apart count Own way m k (further_plane count) n other (further_below count) l own e
      ]),
)

module _ (f : FlatFragment) (tile : Tile) (side : tile.side ≡ T64) (bx by : ℕ) (block : LiesIn tile bx by 8) (xs after : List BlockSamples) (single : way_in_tile xs (number_in_tile tile bx by) ≡ Single)
    (paints : TilePaints f tile (IsKeptAt tile.count xs (place_by tile.count Single (number_in_tile tile bx by) 0)) xs after) where
  pub single_painted : TilePaints f tile (IsInSquare tile bx by 8) xs after
  single_painted =
      let left = block.left in
      let right = rw side at block.right in
      let top = block.top in
      let bottom = rw side at block.bottom in
      tile_same f tile (IsKeptAt tile.count xs (place_by tile.count Single (number_in_tile tile bx by) 0)) (IsInSquare tile bx by 8) xs after paints
      (λ row column s h q.
      let here = in_block tile side bx by row column s h q in
      ap (λ m. sample_place tile.count (way_in_tile xs m) (in_list xs) m (pixel_in_block column row) s) here
      ∙ ap (λ (way : Way). sample_place tile.count way (in_list xs) (number_in_tile tile bx by) (pixel_in_block column row) s) single)
      (λ row column s h at. elim (cases_eq (block_in_tile column row) (number_in_tile tile bx by)) [
        | inl here ↦ of_block tile side bx by row column s h left (omega (arith, right)) top (omega (arith, bottom)) here
        | inr other ↦ absurd (place_apart tile.count xs Single column row s (number_in_tile tile bx by) 0 other h.is_sample (some_samples tile.count) refl at)
      ])

-- ---- of a tile all of whose blocks are kept as the one to which it was cleared
module _ (f : FlatFragment) (tile : Tile) (xs after : List BlockSamples) (cleared : (k : ℕ) → k < 64 → way_in_tile xs k ≡ Cleared) (allows : AllowsTile f.state tile)
    (paints : TilePaints f tile (IsKeptAt tile.count xs 1) xs after) where
  pub whole_painted : TilePaints f tile (IsAllowed f.state tile) xs after
  whole_painted =
      tile_same f tile (IsKeptAt tile.count xs 1) (IsAllowed f.state tile) xs after paints
      (λ row column s h p. ap (λ (way : Way). sample_place tile.count way (in_list xs) (block_in_tile column row) (pixel_in_block column row) s) (cleared (block_in_tile column row) (omega arith)))
      (λ row column s h at. allowed_all f.state tile allows row column s h)

-- ---- of a block all of whose bits are set
module _ (f : FlatFragment) (tile : Tile) (side : tile.side ≡ T64) (bx by : ℕ) (block : LiesIn tile bx by 8) (masks : Masks) (k : ℕ) (allows : AllowsTile f.state tile)
    (full : (s bit : ℕ) → s < count_of tile.count → bit < 64 → IsBitSet (block_mask masks k (by - tile.by) s) bit) (old mid new : List BlockSamples)
    (alike : DrawsAlike f tile.count old mid) (others : KeepsOtherBlocks (number_in_tile tile bx by) tile.count old mid) (paints : TilePaints f tile (IsInSquare tile bx by 8) mid new) where
  module _ (row column s : ℕ) (h : IsSampleOf tile row column s) where
    in_full : IsInSquare tile bx by 8 row column s → IsInBlock f.state tile bx by masks k row column s
    in_full q =
        let low = block.top in
        let line : by - tile.by ≡ row / 8 = omega (arith, q.top, q.bottom, low) in
        record {
          square = q;
          in_masks = subst (λ r. IsBitSet (block_mask masks k r s) (8 * (row % 8) + column % 8)) line (full s (8 * (row % 8) + column % 8) h.is_sample (omega arith));
          allowed = allowed_all f.state tile allows row column s h;
        }

    in_number : block_in_tile column row ≡ number_in_tile tile bx by → IsInSquare tile bx by 8 row column s
    in_number here =
        let right = rw side at block.right in
        let bottom = rw side at block.bottom in
        of_block tile side bx by row column s h block.left (omega (arith, right)) block.top (omega (arith, bottom)) here

  pub full_painted : TilePaints f tile (IsInBlock f.state tile bx by masks k) old new
  full_painted = record {
    met = λ row column s h p. alike column row s _ h.is_sample (paints.met row column s h p.square);
    missed = λ row column s h other.
        paints.missed row column s h (λ q. other (in_full row column s h q))
        ∙ others column row s h.is_sample (λ here. other (in_full row column s h (in_number row column s h here)));
  }
