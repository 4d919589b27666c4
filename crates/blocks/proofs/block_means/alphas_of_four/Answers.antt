use Rattle.std.proofs.Common.{◌∙◌, sym, ℕ, ◌+◌, ◌*◌, ◌/◌, slice_index}
use Rattle.grid.specs.Samples.{count_of}
use Rattle.blocks.specs.Palettes.{sample_numbered}
use Rattle.blocks.proofs.BlockMeans.{four_alike}
use Rattle.blocks.proofs.MaskLanes.{splat}
use Rattle.blocks.proofs.block_means.alphas_of_four.Goals as goal

pub returns-then-samples-alpha-3 : goal.returns-then-samples-alpha-3
returns-then-samples-alpha-3 c p l =
    let n : ℕ = count_of c.args.count in
    let a = slice_index c.args.noughts p in
    let b = slice_index c.args.ones p in
    let d = slice_index c.args.twos p in
    let e = slice_index c.args.threes p in
    let x : ℕ = (sample_numbered c.args.samples.now 0).alpha in
    (splat x).each p l
    ∙ sym (four_alike c.args.count x a b d e (c.requires.all p l))
    ∙ (λ i. (a * x + b * sym c.if-samples-alpha.true i + d * sym c.if-samples-alpha-2.true i + e * sym c.if-samples-alpha-3.true i + n / 2) / n)
