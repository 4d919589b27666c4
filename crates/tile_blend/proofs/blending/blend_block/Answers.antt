use Rattle.std.proofs.Common.{◌≡◌, ◌∙◌, subst, ◌+◌, ◌*◌, length, arith}
use Rattle.blocks.specs.Layout.{stored_in_tile}
use Rattle.tile_blend.specs.Fragments.{entry_or_one, TakesKept}
use Rattle.tile_blend.proofs.Numbered.{has_masks, takes_none}
use Rattle.tile_blend.proofs.blending.blend_block.Goals as goal

pub keep_none-requires-clause-room : goal.keep_none-requires-clause-room
keep_none-requires-clause-room c = rw c.count-many.ensures (has_masks c.args.count c.args.k (length c.args.fragments.now.kept.now) c.requires.block c.requires.fragments.have_masks)

pub returns-then-keep_none-clause-block : goal.returns-then-keep_none-clause-block
returns-then-keep_none-clause-block c i j s h here =
    let kept = c.args.fragments.now.kept.now in
    let none : entry_or_one kept (c.args.k * c.count-many.result + s) ≡ 0 = c.keep_none.ensures c.if-keep_none.true s (omega (arith, h, c.count-many.ensures)) in
    takes_none c.args.count c.args.merge.now c.args.fragments.now.colours.now c.args.fragments.now.depths.now kept i j s c.args.k here (stored_in_tile c.args.count c.args.samples.now i j s)
    (subst (λ many. entry_or_one kept (c.args.k * many + s) ≡ 0) c.count-many.ensures none)

pub returns-clause-block : goal.returns-clause-block
returns-clause-block c i j s h here =
    let f = c.args.fragments.now in
    subst (λ x. TakesKept c.args.count c.args.merge.now f.colours.now f.depths.now f.kept.now i j s x (stored_in_tile c.args.count c.blend_planes.new.samples i j s)) (c.fill_block.ensures.kept i j s h) (c.blend_planes.ensures.block i j s h here)

pub returns-clause-others : goal.returns-clause-others
returns-clause-others c i j s h apart = c.blend_planes.ensures.others i j s h apart ∙ c.fill_block.ensures.kept i j s h
