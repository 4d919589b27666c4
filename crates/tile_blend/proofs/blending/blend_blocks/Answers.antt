use Rattle.std.proofs.Common.{arith}
use Rattle.tile_blend.specs.Fragments.{TakesKept}
use Rattle.tile_blend.proofs.Blocks.{no_block, one_block}
use Rattle.tile_blend.proofs.blending.blend_blocks.Goals as goal

pub loop-k-init : goal.loop-k-init
loop-k-init c =
    let f = c.args.fragments.now in
    no_block c.args.count (TakesKept c.args.count c.args.merge.now f.colours.now f.depths.now f.kept.now) c.args.samples.now

pub loop-k-preserved : goal.loop-k-preserved
loop-k-preserved c =
    let f = c.args.fragments.now in
    one_block c.args.count c.loop-k.k (TakesKept c.args.count c.args.merge.now f.colours.now f.depths.now f.kept.now) c.args.samples.now c.loop-k.samples c.blend_block.new.samples
    c.blend_block.ensures.block c.blend_block.ensures.others c.loop-k.invariant

pub returns : goal.returns
returns c i j s h = c.loop-k.invariant.changed i j s h (omega (arith, c.loop-k-test.false))
