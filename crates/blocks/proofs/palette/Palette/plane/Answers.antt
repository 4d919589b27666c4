use Rattle.std.proofs.Common.{◌∙◌, ℕ, slice_index}
use Rattle.blocks.specs.Layout.{chosen}
use Rattle.blocks.proofs.Palettes.{sample_chosen}
use Rattle.blocks.proofs.palette.Palette.plane.Goals as goal

pub returns : goal.returns
returns c p l =
    let palette = c.args.self.now in
    let low : ℕ = slice_index palette.low c.args.s in
    let high : ℕ = slice_index palette.high c.args.s in
    c.merged.ensures p l
    ∙ (λ i. chosen high p (c.merged-second.ensures p l i) (c.merged-first.ensures p l i))
    ∙ (λ i. chosen high p (chosen low p (c.spread-4.ensures p l i) (c.spread-3.ensures p l i)) (chosen low p (c.spread-2.ensures p l i) (c.spread.ensures p l i)))
    ∙ sample_chosen low high p palette.samples
