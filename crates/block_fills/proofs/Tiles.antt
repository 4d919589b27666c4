-- What is drawn at the samples of a block with its own planes, drawn at the tile's samples.
use Rattle.std.proofs.Common.{true, false, inl, inr, ◌≡◌, ◌≢◌, ◌∙◌, refl, ap, sym, subst, ℕ, ◌+◌, ◌-◌, ◌*◌, ◌%◌, ◌/◌, ◌<◌, ◌≤◌, List, length, take, drop, arith}
use Rattle.std.specs.Prelude.{slice_index_or}
use Rattle.std.proofs.lemmas.Bool.{false≢true}
use Rattle.grid.specs.Samples.{count_of}
use Rattle.grid.specs.declared.pixels.TileSide.TheVariants.{T64}
use Rattle.lanes.specs.declared.block_samples.BlockSamples.{BlockSamples}
use Rattle.lanes.specs.Block.{stored_at}
use Rattle.shade.specs.declared.sample.CanvasSample.{CanvasSample}
use Rattle.shade.proofs.Resolved.{some_samples, few_samples}
use Rattle.lanes.specs.Fragment.{FlatFragment, Takes}
use Rattle.raster.specs.declared.tile.Tile.{Tile}
use Rattle.raster.specs.Drawing.{IsChosen, IsInSquare, MergesMasks}
use Rattle.raster.specs.Samples.{IsSampleOf, place_of as place_in, stored as in_tile}
use Rattle.blocks.specs.declared.way.Way.{Way}
use Rattle.blocks.specs.declared.way.Way.TheVariants.{Cleared, Single, Pair, Own, Flat, FlatPair, FlatFour}
use Rattle.blocks.specs.Layout.{masks_from, further_plane, first_further, planes_of_tile, stored_in_tile, way_of, way_in_tile, block_in_tile, pixel_in_block, in_list, is_plain, place_by, flat_place, slot_by, masks_place, more_place, masks_in, more_in, own_plane}
use Rattle.blocks.proofs.Cut.{put, put_elsewhere, part_of}
use Rattle.canvas.proofs.DrawnTiles.{own_put, mark_put}
use Rattle.blocks.proofs.Places.{none, last_sample, further_below, within_block, flat_where}
use Rattle.blocks.proofs.TilePlanes.{by_way, by_any_way, own_place, within_own, same_own_plane, same_mask, same_further}
use Rattle.block_fills.specs.Parts.{number_in_tile, TilePaints}

-- ---- where the samples of a block are
module _ (tile : Tile) (side : tile.side ≡ T64) (bx by row column s : ℕ) (h : IsSampleOf tile row column s) where
  high_is : row < 64
  high_is = let below = h.high in rw side at below

  wide_is : column < 64
  wide_is = let below = h.wide in rw side at below

  pub on_screen : (8 * tile.bx + column < 4096) × (8 * tile.by + row < 4096)
  on_screen =
      let across = rw side at tile.column.aligned in
      let down = rw side at tile.row.aligned in
      let wide = wide_is in
      let high = high_is in
      (omega (arith, across, tile.column.on_screen, wide), omega (arith, down, tile.row.on_screen, high))

  pub in_block : IsInSquare tile bx by 8 row column s → block_in_tile column row ≡ number_in_tile tile bx by
  in_block q = let down = high_is in let across = wide_is in omega (arith, down, across, q.left, q.right, q.top, q.bottom)

  pub of_block : tile.bx ≤ bx → bx < tile.bx + 8 → tile.by ≤ by → by < tile.by + 8 → block_in_tile column row ≡ number_in_tile tile bx by → IsInSquare tile bx by 8 row column s
  of_block l r t b e =
      let down = high_is in
      let across = wide_is in
      record { left = omega (arith, down, across, e, l, r, t, b); right = omega (arith, down, across, e, l, r, t, b); top = omega (arith, down, across, e, l, r, t, b); bottom = omega (arith, down, across, e, l, r, t, b) }

same_square : {tile : Tile} {bx by : ℕ} (row column r s : ℕ) → IsInSquare tile bx by 8 row column r → IsInSquare tile bx by 8 row column s
same_square row column r s q = record { left = q.left; right = q.right; top = q.top; bottom = q.bottom }

single_own : Single ≡ Own → ⊥
single_own e = cc

plain_own : (way : Way) → is_plain way ≡ false → way ≢ Own
plain_own way other own = false≢true (sym other ∙ ap is_plain own)

-- a block is kept in one of seven ways
way_cases : (P : Way → Type 0) → P Cleared → P Single → P Pair → P Own → P Flat → P FlatPair → P FlatFour → (way : Way) → P way
way_cases P a b c d e f g Cleared = a
way_cases P a b c d e f g Single = b
way_cases P a b c d e f g Pair = c
way_cases P a b c d e f g Own = d
way_cases P a b c d e f g Flat = e
way_cases P a b c d e f g FlatPair = f
way_cases P a b c d e f g FlatFour = g

-- ---- drawn in the planes of a block
module _ (f : FlatFragment) (tile : Tile) (side : tile.side ≡ T64) (bx by from : ℕ) (masks : List ℕ) (old part : List BlockSamples) (n a : ℕ) (many : a + n ≡ planes_of_tile tile.count) (at : a ≡ 1 + count_of tile.count)
    (fits : a + n ≤ length old) (whole : length part ≡ n) (own : way_in_tile old (number_in_tile tile bx by) ≡ Own) (draws : MergesMasks f tile bx by from masks (take n (drop a old)) part) where
  abbrev new : List BlockSamples
  new = put old part a n

  same_state : slice_index_or new 0 none ≡ slice_index_or old 0 none
  same_state = mark_put old part n a fits whole (omega (arith, at))

  pub still_own : way_in_tile new (number_in_tile tile bx by) ≡ Own
  still_own = ap (λ (state : BlockSamples). way_of state (number_in_tile tile bx by)) same_state ∙ own

  module _ (row column s : ℕ) (h : IsSampleOf tile row column s) where
    abbrev block : ℕ
    block = block_in_tile column row

    same_block : row / 8 * 8 + column / 8 ≡ block
    same_block = let down = high_is tile side bx by row column s h in let across = wide_is tile side bx by row column s h in omega (arith, down, across)

    -- the own planes of the block
    in_own : (r : ℕ) → r < count_of tile.count → (xs : List BlockSamples) → in_tile tile (take n (drop a xs)) row column r ≡ stored_at (slice_index_or xs (1 + (block + 1) * count_of tile.count + r) none) (pixel_in_block column row)
    in_own r small xs =
        let place : place_in tile (row / 8) (column / 8) r ≡ block * count_of tile.count + r = rw side (ap (λ b. b * count_of tile.count + r) same_block) in
        ap (λ k. stored_at (slice_index_or (take n (drop a xs)) k none) (pixel_in_block column row)) place
        ∙ ap (λ p. stored_at p (pixel_in_block column row)) (part_of xs a n none (block * count_of tile.count + r) (within_own tile.count block r n a (omega arith) small many at))
        ∙ ap (λ k. stored_at (slice_index_or xs k none) (pixel_in_block column row)) (ap (λ b. b + (block * count_of tile.count + r)) at ∙ own_place tile.count block r)

    in_new : (r : ℕ) → r < count_of tile.count → in_tile tile part row column r ≡ stored_at (slice_index_or new (1 + (block + 1) * count_of tile.count + r) none) (pixel_in_block column row)
    in_new r small = ap (λ (xs : List BlockSamples). in_tile tile xs row column r) (sym (own_put old part n a fits whole)) ∙ in_own r small new

    -- an own plane in which nothing was drawn at this pixel
    same_own : (r : ℕ) → (small : r < count_of tile.count) → ¬ IsChosen f.state tile bx by from masks row column r
        → stored_at (slice_index_or new (1 + (block + 1) * count_of tile.count + r) none) (pixel_in_block column row) ≡ stored_at (slice_index_or old (1 + (block + 1) * count_of tile.count + r) none) (pixel_in_block column row)
    same_own r small other = sym (in_new r small) ∙ draws.kept row column r (record { high = h.high; wide = h.wide; is_sample = small }) other ∙ in_own r small old

  -- a pixel p of a block that is kept in another way, in own plane r of the block
  module _ (row column s : ℕ) (h : IsSampleOf tile row column s) (other : way_in_tile old (block_in_tile column row) ≢ Own) (p r : ℕ) (low : p < 64) (small : r < count_of tile.count) where
    abbrev row_there : ℕ
    row_there = row / 8 * 8 + p / 8

    abbrev column_there : ℕ
    column_there = column / 8 * 8 + p % 8

    there : IsSampleOf tile row_there column_there r
    there =
        let down = high_is tile side bx by row column s h in
        let across = wide_is tile side bx by row column s h in
        record { high = rw side (omega (arith, down, low)); wide = rw side (omega (arith, across, low)); is_sample = small }

    same_block_there : block_in_tile column_there row_there ≡ block_in_tile column row
    same_block_there = let down = high_is tile side bx by row column s h in let across = wide_is tile side bx by row column s h in omega (arith, down, across, low)

    same_pixel_there : pixel_in_block column_there row_there ≡ p
    same_pixel_there = omega (arith, low)

    not_chosen : ¬ IsChosen f.state tile bx by from masks row_there column_there r
    not_chosen chosen = other (ap (way_in_tile old) (sym same_block_there ∙ in_block tile side bx by row_there column_there r there chosen.part.square) ∙ own)

    same_in_block : stored_at (in_list new (1 + (block_in_tile column row + 1) * count_of tile.count + r)) p ≡ stored_at (in_list old (1 + (block_in_tile column row + 1) * count_of tile.count + r)) p
    same_in_block =
        subst (λ (b : ℕ). stored_at (in_list new (1 + (b + 1) * count_of tile.count + r)) p ≡ stored_at (in_list old (1 + (b + 1) * count_of tile.count + r)) p) same_block_there
        (subst (λ (q : ℕ). stored_at (in_list new (1 + (block_in_tile column_there row_there + 1) * count_of tile.count + r)) q ≡ stored_at (in_list old (1 + (block_in_tile column_there row_there + 1) * count_of tile.count + r)) q) same_pixel_there
        (same_own row_there column_there r there r small not_chosen))

  module _ (row column s : ℕ) (h : IsSampleOf tile row column s) where
    abbrev here_block : ℕ
    here_block = block_in_tile column row

    abbrev here_pixel : ℕ
    here_pixel = pixel_in_block column row

    at_way : (xs : List BlockSamples) (way : Way) → is_plain way ≡ true → slice_index_or xs 0 none ≡ slice_index_or old 0 none → way_in_tile old here_block ≡ way
        → stored_in_tile tile.count xs column row s ≡ stored_at (slice_index_or xs (place_by tile.count way here_block s) none) here_pixel
    at_way xs way other same e = by_way tile.count xs way column row s other (ap (λ (state : BlockSamples). way_of state here_block) same ∙ e)

    met : IsChosen f.state tile bx by from masks row column s
        → Takes f (stored_in_tile tile.count old column row s) (stored_in_tile tile.count new column row s)
    met chosen =
        let here : way_in_tile old here_block ≡ Own = ap (way_in_tile old) (in_block tile side bx by row column s h chosen.part.square) ∙ own in
        subst (λ (x : CanvasSample). Takes f x (stored_in_tile tile.count new column row s)) (in_own row column s h s h.is_sample old ∙ sym (at_way old Own refl refl here))
        (subst (λ (y : CanvasSample). Takes f (in_tile tile (take n (drop a old)) row column s) y) (in_new row column s h s h.is_sample ∙ sym (at_way new Own refl same_state here))
        (draws.drawn row column s h chosen))

    abbrev Missed : Way → Type 0
    Missed way = way_in_tile old here_block ≡ way → ¬ IsChosen f.state tile bx by from masks row column s → stored_in_tile tile.count new column row s ≡ stored_in_tile tile.count old column row s

    missed_cleared : Missed Cleared
    missed_cleared e other =
        at_way new Cleared refl same_state e
        ∙ ap (λ p. stored_at p here_pixel) (put_elsewhere old part a n none fits whole 1 (λ k l m. let some = some_samples tile.count in omega (arith, m, at, some)))
        ∙ sym (at_way old Cleared refl refl e)

    missed_single : Missed Single
    missed_single e other =
        let first : 1 + (here_block + 1) * count_of tile.count ≡ 1 + (here_block + 1) * count_of tile.count + 0 = omega arith in
        at_way new Single refl same_state e
        ∙ ap (λ k. stored_at (slice_index_or new k none) here_pixel) first
        ∙ same_in_block row column s h (λ f. single_own (sym e ∙ f)) here_pixel 0 (omega arith) (some_samples tile.count)
        ∙ ap (λ k. stored_at (slice_index_or old k none) here_pixel) (sym first)
        ∙ sym (at_way old Single refl refl e)

    -- the masks of a block that is not plain are unchanged too, and so it is, if its planes are
    missed_masked : (way : Way) → is_plain way ≡ false
        → ((n : ℕ) → n < count_of tile.count
        → stored_at (in_list new (place_by tile.count way here_block n)) (slot_by way here_block here_pixel) ≡ stored_at (in_list old (place_by tile.count way here_block n)) (slot_by way here_block here_pixel))
        → Missed way
    missed_masked way masked planes e other =
        let not_own = λ (f : way_in_tile old here_block ≡ Own). plain_own way masked (sym e ∙ f) in
        let place : ℕ = masks_place tile.count here_block in
        let more : ℕ = more_place tile.count here_block in
        let depths = λ (k : ℕ) (l : k < 64). ap (λ (x : CanvasSample). x.z) (same_in_block row column s h not_own k (count_of tile.count - 1) l (last_sample tile.count)) in
        let depths_before = λ (k : ℕ) (l : k < 64). ap (λ (x : CanvasSample). x.z) (same_in_block row column s h not_own k (further_plane tile.count) l (further_below tile.count)) in
        let few : s < 16 = omega (arith, h.is_sample, few_samples tile.count) in
        let masks_same = same_mask (in_list new place) (in_list old place) s few depths in
        let more_same = same_further tile.count (in_list new more) (in_list old more) s h.is_sample depths_before in
        let plane : ℕ = own_plane tile.count way (masks_in tile.count (in_list old) here_block) (more_in tile.count (in_list old) here_block) here_pixel s in
        by_any_way tile.count new way column row s (ap (λ (state : BlockSamples). way_of state here_block) same_state ∙ e)
        ∙ ap (λ k. stored_at (in_list new (place_by tile.count way here_block k)) (slot_by way here_block here_pixel)) (same_own_plane tile.count way (in_list new place) (in_list old place) (masks_from (first_further tile.count) (in_list new more)) (masks_from (first_further tile.count) (in_list old more)) here_pixel s ((λ _. masks_same), (λ _. more_same)))
        ∙ planes plane (within_block tile.count way (masks_in tile.count (in_list old) here_block) (more_in tile.count (in_list old) here_block) here_pixel s h.is_sample)
        ∙ sym (by_any_way tile.count old way column row s e)

    missed_pair : Missed Pair
    missed_pair e other = missed_masked Pair refl (λ n l. same_in_block row column s h (λ f. plain_own Pair refl (sym e ∙ f)) here_pixel n (omega arith) l) e other

    -- a sample of a flat block, in a plane before the own ones or in one of its own
    same_flat : way_in_tile old here_block ≢ Own → (r : ℕ) → r < count_of tile.count
        → stored_at (in_list new (flat_place tile.count here_block r)) here_block ≡ stored_at (in_list old (flat_place tile.count here_block r)) here_block
    same_flat not_own r l =
        elim (flat_where tile.count here_block r l) [
          | inl before ↦ ap (λ (p : BlockSamples). stored_at p here_block) (put_elsewhere old part a n none fits whole (flat_place tile.count here_block r) (λ m small d. omega (arith, d, at, before)))
          | inr own_one ↦
              ap (λ q. stored_at (in_list new q) here_block) own_one.2
              ∙ same_in_block row column s h not_own here_block own_one.0 (omega arith) own_one.1
              ∙ ap (λ q. stored_at (in_list old q) here_block) (sym own_one.2)
        ]

    missed_flat : Missed Flat
    missed_flat e other = missed_masked Flat refl (λ n l. same_flat (λ f. plain_own Flat refl (sym e ∙ f)) 0 (some_samples tile.count)) e other

    missed_flat_pair : Missed FlatPair
    missed_flat_pair e other = missed_masked FlatPair refl (λ n l. same_flat (λ f. plain_own FlatPair refl (sym e ∙ f)) n l) e other

    missed_flat_four : Missed FlatFour
    missed_flat_four e other = missed_masked FlatFour refl (λ n l. same_flat (λ f. plain_own FlatFour refl (sym e ∙ f)) n l) e other

    missed_own : Missed Own
    missed_own e other = at_way new Own refl same_state e ∙ same_own row column s h s h.is_sample other ∙ sym (at_way old Own refl refl e)

    missed : ¬ IsChosen f.state tile bx by from masks row column s → stored_in_tile tile.count new column row s ≡ stored_in_tile tile.count old column row s
    missed = way_cases Missed missed_cleared missed_single missed_pair missed_own missed_flat missed_flat_pair missed_flat_four (way_in_tile old here_block) refl

  pub tile_painted : TilePaints f tile (IsChosen f.state tile bx by from masks) old new
  tile_painted = record { met = λ row column s h chosen. met row column s h chosen; missed = λ row column s h other. missed row column s h other }
