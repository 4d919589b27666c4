use Rattle.std.proofs.Common.{rules, ◌≡◌, ◌∙◌, sym, subst, ap, ◌/◌, IsTrue}
use Rattle.grid.specs.Samples.{count_of}
use Rattle.blocks.specs.declared.way.Way.TheVariants.{Pair}
use Rattle.shade.specs.declared.state.State.{State}
use Rattle.canvas.specs.Hidden.{ReplacesColours}
use Rattle.blocks.specs.Layout.{place_by, in_list, way_in_tile, AreReplaced, HasMasks, KeepsOtherSamples}
use Rattle.block_fills.specs.Parts.{number_in_tile, DrawsPlane, HasNoMasks, IsInWords, IsKeptAt, TilePaints}
use Rattle.block_fills.proofs.Joined.{tile_after_same}
use Rattle.block_fills.proofs.PairBlocks.{no_masks_second, pair_painted, replaced_painted}
use Rattle.block_fills.proofs.covered_block.CoveredBlock.paint_as_pair.Goals as goal

pub paint_plane-requires-clause-masks : goal.paint_plane-requires-clause-masks
paint_plane-requires-clause-masks c =
    let count = c.args.self.now.tile.now.count in
    let mid = c.pair_block.new.samples in
    let is : IsTrue c.pair_block.result = search rules in
    subst (HasNoMasks count mid) (sym c.second_place-second.ensures.value) (no_masks_second count mid c.number-number.result (c.pair_block.ensures.some is) (c.pair_block.ensures.pair is).0)

pub returns-then-pair_block-clause-painted : goal.returns-then-pair_block-clause-painted
returns-then-pair_block-clause-painted c true_is =
    let f = c.args.self.now.fragment.now in
    let tile = c.args.self.now.tile.now in
    let number = number_in_tile tile c.args.self.now.bx c.args.self.now.by in
    let old = c.args.samples.now in
    let mid = c.pair_block.new.samples in
    let new = c.paint_plane.new.samples in
    let words = c.args.words.now in
    let is : IsTrue c.pair_block.result = search rules in
    let same : c.number-number.result ≡ number = c.number-number.ensures.value in
    let pair = c.pair_block.ensures.pair is in
    let at : c.second_place-second.result ≡ place_by tile.count Pair number (count_of tile.count / 2) = c.second_place-second.ensures.value ∙ ap (λ k. place_by tile.count Pair k (count_of tile.count / 2)) same in
    tile_after_same f tile (IsInWords tile c.args.self.now.bx c.args.self.now.by words) old mid new c.pair_block.ensures.kept
    (pair_painted f tile c.args.self.now.side c.args.self.now.bx c.args.self.now.by c.args.self.now.block words mid new (c.pair_block.ensures.some is)
    (subst (λ k. way_in_tile mid k ≡ Pair) same pair.0) (subst (λ k. HasMasks tile.count k words mid) same pair.1)
    (subst (λ q. TilePaints f tile (IsKeptAt tile.count mid q) mid new) at c.paint_plane.ensures.painted))

pub returns-clause-painted : goal.returns-clause-painted
returns-clause-painted c true_is =
    let f = c.args.self.now.fragment.now in
    let tile = c.args.self.now.tile.now in
    let count = tile.count in
    let number = number_in_tile tile c.args.self.now.bx c.args.self.now.by in
    let old = c.args.samples.now in
    let mid = c.pair_block.new.samples in
    let new = c.replace_samples.new.samples in
    let words = c.args.words.now in
    let plane = in_list c.draw_plane.new.plane 0 in
    let same : c.number-number.result ≡ number = c.number-number.ensures.value in
    let was : way_in_tile mid c.number-number.result ≡ Pair = search rules in
    let replaces : ReplacesColours f.state count = subst (λ (s : State). ReplacesColours s count) c.state.ensures (c.replaces_colours.ensures (search rules)) in
    let first : c.place_by-first.result ≡ place_by count Pair number 0 = c.place_by-first.ensures.value ∙ ap (λ k. place_by count Pair k 0) same in
    let second : c.second_place-second.result ≡ place_by count Pair number (count_of count / 2) = c.second_place-second.ensures.value ∙ ap (λ k. place_by count Pair k (count_of count / 2)) same in
    let depths = c.have_same_depths.ensures (search rules) in
    tile_after_same f tile (IsInWords tile c.args.self.now.bx c.args.self.now.by words) old mid new c.pair_block.ensures.kept
    (replaced_painted f tile c.args.self.now.side c.args.self.now.bx c.args.self.now.by c.args.self.now.block words plane mid new (subst (λ k. way_in_tile mid k ≡ Pair) same was) replaces
    (subst (λ q. ((in_list mid (place_by count Pair number 0)).z ≡ (in_list mid q).z) × ((in_list mid (place_by count Pair number 0)).alpha ≡ (in_list mid q).alpha)) second
    (subst (λ q. ((in_list mid q).z ≡ (in_list mid c.second_place-second.result).z) × ((in_list mid q).alpha ≡ (in_list mid c.second_place-second.result).alpha)) first depths))
    (subst (λ q. DrawsPlane f (in_list mid q) plane) first c.draw_plane.ensures)
    (subst (λ k. AreReplaced count k words plane mid new) same (c.replace_samples.ensures.replaced true_is)) (subst (λ k. KeepsOtherSamples count k mid new) same c.replace_samples.ensures.others))
