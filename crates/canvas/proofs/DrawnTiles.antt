-- What triangles make of a tile whose blocks have their samples.
use Rattle.std.proofs.Common.{◌≡◌, ◌∙◌, refl, ap, sym, ℕ, ◌+◌, ◌*◌, ◌/◌, ◌%◌, ◌<◌, ◌≤◌, List, ◌++◌, length, take, drop, arith}
use Rattle.std.specs.Prelude.{slice_index_or}
use Rattle.std.proofs.Math.Seq.{drop-append_seam, take-append_seam}
use Rattle.std.proofs.lemmas.List.{length-take}
use Rattle.grid.specs.Samples.{count_of}
use Rattle.grid.specs.declared.sample_count.SampleCount.{SampleCount}
use Rattle.grid.specs.declared.pixels.TileSide.TheVariants.{T64}
use Rattle.lanes.specs.declared.block_samples.BlockSamples.{BlockSamples}
use Rattle.lanes.specs.Block.{stored_at}
use Rattle.shade.specs.declared.placed.Placed.{Placed}
use Rattle.raster.specs.declared.tile.Tile.{Tile}
use Rattle.raster.specs.Samples.{IsSampleOf, place_of as place_in, stored as in_tile}
use Rattle.blocks.proofs.Cut.{put, put_elsewhere, part_of}
use Rattle.canvas.proofs.Ends.{ends_at}
use Rattle.blocks.proofs.Places.{none}
use Rattle.blocks.proofs.TilePlanes.{by_way, own_place, within_own}
use Rattle.blocks.specs.declared.way.Way.TheVariants.{Own}
use Rattle.blocks.specs.Layout.{planes_of_tile, block_in_tile, way_of, stored_in_tile, way_in_tile, IsSameTile}
use Rattle.canvas.specs.Drawing.{TileEnds, TileHasEnds}

-- the planes of its own blocks, put back changed
pub own_put : (xs part : List BlockSamples) (n a : ℕ) → a + n ≤ length xs → length part ≡ n → take n (drop a (put xs part a n)) ≡ part
own_put xs part n a room long =
    let short : length (take a xs) ≡ a = omega (arith, length-take a xs, room) in
    ap (λ k. take n (drop k (put xs part a n))) (sym short)
    ∙ ap (take n) (drop-append_seam (take a xs) (part ++ drop n (drop a xs)))
    ∙ ap (λ k. take k (part ++ drop n (drop a xs))) (sym long)
    ∙ take-append_seam part (drop n (drop a xs))

pub mark_put : (xs part : List BlockSamples) (n a : ℕ) → a + n ≤ length xs → length part ≡ n → 0 < a → slice_index_or (put xs part a n) 0 none ≡ slice_index_or xs 0 none
mark_put xs part n a room long some = put_elsewhere xs part a n none room long 0 (λ m l d. omega (arith, d, some))

-- what its own blocks have, the tile has
module _ (ts : List Placed) (tile : Tile) (side : tile.side ≡ T64) (old filled new : List BlockSamples) (n a : ℕ)
    (many : a + n ≡ planes_of_tile tile.count) (at : a ≡ 1 + count_of tile.count) (are_own : (k : ℕ) → way_in_tile filled k ≡ Own)
    (mark : slice_index_or new 0 none ≡ slice_index_or filled 0 none)
    (kept : IsSameTile tile.count old filled)
    (draws : TileHasEnds ts tile (take n (drop a filled)) (take n (drop a new))) where
  still_own : (k : ℕ) → way_in_tile new k ≡ Own
  still_own k = ap (λ first. way_of first k) mark ∙ are_own k

  module _ (row column s : ℕ) (h : IsSampleOf tile row column s) where
    abbrev block : ℕ
    block = block_in_tile column row

    abbrev own : ℕ
    own = block * count_of tile.count + s

    abbrev pixel : ℕ
    pixel = 8 * (row % 8) + column % 8

    high : row < 64
    high = let below = h.high in rw side at below

    wide : column < 64
    wide = let below = h.wide in rw side at below

    same_block : row / 8 * 8 + column / 8 ≡ block
    same_block = let down = high in let across = wide in omega (arith, down, across)

    place_is : place_in tile (row / 8) (column / 8) s ≡ own
    place_is = rw side (ap (λ b. b * count_of tile.count + s) same_block)

    inside : own < n
    inside = within_own tile.count block s n a (omega arith) h.is_sample many at

    in_all : a + own ≡ 1 + (block + 1) * count_of tile.count + s
    in_all = ap (λ b. b + own) at ∙ own_place tile.count block s

    in_own : (xs : List BlockSamples) → way_in_tile xs block ≡ Own → in_tile tile (take n (drop a xs)) row column s ≡ stored_in_tile tile.count xs column row s
    in_own xs is =
        ap (λ k. stored_at (slice_index_or (take n (drop a xs)) k none) pixel) place_is
        ∙ ap (λ p. stored_at p pixel) (part_of xs a n none own inside)
        ∙ ap (λ k. stored_at (slice_index_or xs k none) pixel) in_all
        ∙ sym (by_way tile.count xs Own column row s refl is)

    old_is : in_tile tile (take n (drop a filled)) row column s ≡ stored_in_tile tile.count old column row s
    old_is = in_own filled (are_own block) ∙ kept column row s h.is_sample

    new_is : in_tile tile (take n (drop a new)) row column s ≡ stored_in_tile tile.count new column row s
    new_is = in_own new (still_own block)

  pub tile_drawn : TileEnds ts tile old new
  tile_drawn row column s h = ends_at ts _ _ _ _ _ _ s _ _ _ _ refl refl refl (old_is row column s h) (new_is row column s h) (draws row column s h)

-- the tile was filled, and its own blocks, which begin at plane `a`, end as what the triangles make of them
pub record AreDrawnOn (ts : List Placed) (tile : Tile) (count : SampleCount) (a : ℕ) (old new : List BlockSamples) : Type 0 where
  pub filled : List BlockSamples
  pub are_own : (k : ℕ) → way_in_tile filled k ≡ Own
  pub mark : slice_index_or new 0 none ≡ slice_index_or filled 0 none
  pub kept : IsSameTile count old filled
  pub draws : TileHasEnds ts tile (take (64 * count_of count) (drop a filled)) (take (64 * count_of count) (drop a new))
