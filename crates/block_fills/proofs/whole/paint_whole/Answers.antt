use Rattle.std.proofs.Common.{ap, subst, sym, ◌∙◌}
use Rattle.std.proofs.lemmas.Bool.{false≢true}
use Rattle.blocks.specs.Layout.{is_plain}
use Rattle.block_fills.specs.Parts.{IsKeptAt, TilePaints}
use Rattle.block_fills.proofs.OnePlane.{whole_painted}
use Rattle.block_fills.proofs.whole.paint_whole.Goals as goal

pub paint_plane-requires-clause-masks : goal.paint_plane-requires-clause-masks
paint_plane-requires-clause-masks c k small =
    ((λ masked. absurd (false≢true (sym masked ∙ ap is_plain (c.requires.cleared k small)))), (λ four. absurd (false≢true (sym (ap is_plain four) ∙ ap is_plain (c.requires.cleared k small)))))

pub returns : goal.returns
returns c =
    let f = c.args.fragment.now in
    let tile = c.args.tile.now in
    let old = c.args.samples.now in
    let new = c.paint_plane.new.samples in
    whole_painted f tile old new c.requires.cleared c.requires.allows (subst (λ q. TilePaints f tile (IsKeptAt tile.count old q) old new) c.place_by-place.ensures.value c.paint_plane.ensures.painted)
