use Rattle.std.proofs.lemmas.Option.{IfSome_then}
use Rattle.std.specs.Prelude.{IsSome}
use Rattle.blocks.specs.declared.flat_block.FlatBlock.{FlatBlock}
use Rattle.block_fills.proofs.FewSamples.{stays_drawn}
use Rattle.block_fills.proofs.covered_block.CoveredBlock.flat_drawn.Goals as goal

pub returns-clause-drawn : goal.returns-clause-drawn
returns-clause-drawn c = IfSome_then c.replaced.result c.replaced.ensures.replaced (λ (drawn : FlatBlock) is. (c.drawn-first.result, c.drawn_beside-second.result, c.drawn-first.ensures, c.drawn_beside-second.ensures, is))

pub returns-clause-some : goal.returns-clause-some
returns-clause-some c =
    stays_drawn c.args.self.now.fragment.now c.args.count c.args.flat.now c.args.words.now c.drawn-first.result c.drawn_beside-second.result (IsSome c.replaced.result) c.drawn-first.ensures c.drawn_beside-second.ensures c.replaced.ensures.some
