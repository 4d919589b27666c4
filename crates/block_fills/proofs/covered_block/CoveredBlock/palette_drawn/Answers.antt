use Rattle.std.proofs.Common.{[], ◌∷◌}
use Rattle.std.proofs.lemmas.Option.{IfSome_then}
use Rattle.blocks.specs.declared.palette.Palette.{Palette}
use Rattle.block_fills.proofs.FewSamples.{if_none_then}
use Rattle.block_fills.proofs.FlatBlocks.{each_drawn}
use Rattle.block_fills.proofs.covered_block.CoveredBlock.palette_drawn.Goals as goal

pub returns-clause-drawn : goal.returns-clause-drawn
returns-clause-drawn c =
    let f = c.args.self.now.fragment.now in
    let drawn = c.drawn-made.result ∷ c.drawn_beside.result ∷ c.drawn_beside-2.result ∷ c.drawn_beside-3.result ∷ [] in
    IfSome_then c.replaced.result c.replaced.ensures.replaced (λ (made : Palette) is. (drawn, each_drawn f c.args.palette.now.samples drawn c.drawn-made.ensures c.drawn_beside.ensures c.drawn_beside-2.ensures c.drawn_beside-3.ensures, is))

pub returns-clause-none : goal.returns-clause-none
returns-clause-none c =
    let f = c.args.self.now.fragment.now in
    let drawn = c.drawn-made.result ∷ c.drawn_beside.result ∷ c.drawn_beside-2.result ∷ c.drawn_beside-3.result ∷ [] in
    if_none_then c.replaced.result c.replaced.ensures.none (λ none. (drawn, each_drawn f c.args.palette.now.samples drawn c.drawn-made.ensures c.drawn_beside.ensures c.drawn_beside-2.ensures c.drawn_beside-3.ensures, none))
