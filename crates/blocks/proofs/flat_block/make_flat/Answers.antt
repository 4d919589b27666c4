use Rattle.std.proofs.Common.{refl, []}
use Rattle.blocks.specs.declared.flat_block.FlatBlock.{FlatBlock}
use Rattle.blocks.proofs.FlatBlocks.{one_others}
use Rattle.blocks.proofs.flat_block.make_flat.Goals as goal

pub returns-clause-others : goal.returns-clause-others
returns-clause-others c =
    let flat : FlatBlock = record { first = c.args.sample; second = c.args.sample; masks = [] } in
    one_others c.args.count c.args.k flat c.set.new.self c.set_way.new.state c.args.samples.now c.place_by.result c.place_by.ensures.value c.requires.some c.requires.block c.requires.samples
    c.set.ensures.stored c.set.ensures.kept (λ s h. refl) c.set_way.ensures.set c.set_way.ensures.others
