use Rattle.std.proofs.Common.{rules, ◌≡◌, ◌∙◌, sym, subst, ap, ◌/◌}
use Rattle.grid.specs.Samples.{count_of}
use Rattle.blocks.specs.declared.way.Way.TheVariants.{Pair}
use Rattle.lanes.specs.declared.block_samples.BlockSamples.{BlockSamples}
use Rattle.blocks.specs.Layout.{place_by, way_of, way_in_tile}
use Rattle.blocks.proofs.Places.{behind_first}
use Rattle.block_fills.specs.Parts.{number_in_tile, HasNoMasks, IsKeptAt, KeepsPlanesBut, TilePaints}
use Rattle.block_fills.proofs.PairBlocks.{no_masks_first, no_masks_second, both_painted}
use Rattle.block_fills.proofs.covered_block.CoveredBlock.paint_both.Goals as goal

pub paint_plane-requires-clause-masks : goal.paint_plane-requires-clause-masks
paint_plane-requires-clause-masks c =
    let count = c.args.self.now.tile.now.count in
    let old = c.args.samples.now in
    subst (HasNoMasks count old) (sym c.place_by-first.ensures.value) (no_masks_first count old c.number-number.result (c.has_pairs.ensures.0 (search rules)))

pub paint_plane-requires-2-clause-masks : goal.paint_plane-requires-2-clause-masks
paint_plane-requires-2-clause-masks c =
    let count = c.args.self.now.tile.now.count in
    let old = c.args.samples.now in
    let mid = c.paint_plane.new.samples in
    let was : way_in_tile old c.number-number.result ≡ Pair = search rules in
    let first : c.place_by-first.result ≡ place_by count Pair c.number-number.result 0 = c.place_by-first.ensures.value in
    let still : way_in_tile mid c.number-number.result ≡ Pair =
    ap (λ (state : BlockSamples). way_of state c.number-number.result) (c.paint_plane.ensures.others 0 (λ e. behind_first count Pair c.number-number.result 0 (sym (e ∙ first)))) ∙ was in
    subst (HasNoMasks count mid) (sym c.second_place-second.ensures.value) (no_masks_second count mid c.number-number.result (c.has_pairs.ensures.0 (search rules)) still)

pub returns-clause-painted : goal.returns-clause-painted
returns-clause-painted c true_is =
    let f = c.args.self.now.fragment.now in
    let tile = c.args.self.now.tile.now in
    let number = number_in_tile tile c.args.self.now.bx c.args.self.now.by in
    let old = c.args.samples.now in
    let mid = c.paint_plane.new.samples in
    let new = c.paint_plane-2.new.samples in
    let same : c.number-number.result ≡ number = c.number-number.ensures.value in
    let was : way_in_tile old c.number-number.result ≡ Pair = search rules in
    let first : c.place_by-first.result ≡ place_by tile.count Pair number 0 = c.place_by-first.ensures.value ∙ ap (λ k. place_by tile.count Pair k 0) same in
    let second : c.second_place-second.result ≡ place_by tile.count Pair number (count_of tile.count / 2) = c.second_place-second.ensures.value ∙ ap (λ k. place_by tile.count Pair k (count_of tile.count / 2)) same in
    both_painted f tile c.args.self.now.side c.args.self.now.bx c.args.self.now.by c.args.self.now.block old mid new (c.has_pairs.ensures.0 (search rules)) (subst (λ k. way_in_tile old k ≡ Pair) same was)
    (subst (λ q. KeepsPlanesBut q old mid) first c.paint_plane.ensures.others)
    (subst (λ q. TilePaints f tile (IsKeptAt tile.count old q) old mid) first c.paint_plane.ensures.painted)
    (subst (λ q. TilePaints f tile (IsKeptAt tile.count mid q) mid new) second c.paint_plane-2.ensures.painted)
