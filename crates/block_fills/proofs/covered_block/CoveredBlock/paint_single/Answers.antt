use Rattle.std.proofs.lemmas.Bool.{false≢true}
use Rattle.std.proofs.Common.{refl, ◌≡◌, ◌∙◌, ap, subst, sym}
use Rattle.blocks.specs.declared.way.Way.TheVariants.{Single}
use Rattle.blocks.specs.Layout.{is_plain, place_by}
use Rattle.block_fills.specs.Parts.{number_in_tile, HasNoMasks, IsKeptAt, TilePaints}
use Rattle.block_fills.proofs.OnePlane.{no_masks_at, single_painted}
use Rattle.shade.proofs.Resolved.{some_samples}
use Rattle.block_fills.proofs.covered_block.CoveredBlock.paint_single.Goals as goal

pub paint_plane-requires-clause-masks : goal.paint_plane-requires-clause-masks
paint_plane-requires-clause-masks c =
    let count = c.args.self.now.tile.now.count in
    let old = c.args.samples.now in
    let number = number_in_tile c.args.self.now.tile.now c.args.self.now.bx c.args.self.now.by in
    let at : c.place_by-place.result ≡ place_by count Single number 0 = c.place_by-place.ensures.value ∙ ap (λ k. place_by count Single k 0) c.number.ensures.value in
    subst (HasNoMasks count old) (sym at)
    (no_masks_at count old Single number 0 (some_samples count) refl (λ masked. absurd (false≢true (sym masked ∙ ap is_plain c.requires.single))) (λ four. absurd (false≢true (sym (ap is_plain four) ∙ ap is_plain c.requires.single))))

pub returns : goal.returns
returns c =
    let f = c.args.self.now.fragment.now in
    let tile = c.args.self.now.tile.now in
    let old = c.args.samples.now in
    let new = c.paint_plane.new.samples in
    let number = number_in_tile tile c.args.self.now.bx c.args.self.now.by in
    let at : c.place_by-place.result ≡ place_by tile.count Single number 0 = c.place_by-place.ensures.value ∙ ap (λ k. place_by tile.count Single k 0) c.number.ensures.value in
    single_painted f tile c.args.self.now.side c.args.self.now.bx c.args.self.now.by c.args.self.now.block old new c.requires.single
    (subst (λ q. TilePaints f tile (IsKeptAt tile.count old q) old new) at c.paint_plane.ensures.painted)
