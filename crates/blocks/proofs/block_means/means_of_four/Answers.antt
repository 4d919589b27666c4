use Rattle.std.proofs.Common.{◌≡◌, ◌∙◌, ap, ℕ, ◌+◌, ◌*◌, ◌/◌, slice_index, arith}
use Rattle.grid.specs.Samples.{count_of}
use Rattle.shade.proofs.Resolved.{few_samples}
use Rattle.blocks.specs.Lanes.{channel_of}
use Rattle.blocks.specs.Palettes.{sample_numbered}
use Rattle.blocks.proofs.MaskLanes.{splat}
use Rattle.blocks.proofs.block_means.means_of_four.Goals as goal

pub added-sums-requires-clause-room : goal.added-sums-requires-clause-room
added-sums-requires-clause-room c p l = omega (arith, (splat 0).each p l)

pub added-sums-requires-2-clause-room : goal.added-sums-requires-2-clause-room
added-sums-requires-2-clause-room c p l = omega (arith, (splat 0).each p l, c.added-sums.ensures.most p l, c.requires.all p l, few_samples c.args.count)

pub added-sums-requires-3-clause-room : goal.added-sums-requires-3-clause-room
added-sums-requires-3-clause-room c p l = omega (arith, (splat 0).each p l, c.added-sums.ensures.most p l, c.added-sums-2.ensures.most p l, c.requires.all p l, few_samples c.args.count)

pub added-requires-clause-room : goal.added-requires-clause-room
added-requires-clause-room c p l =
    omega (arith, (splat 0).each p l, c.added-sums.ensures.most p l, c.added-sums-2.ensures.most p l, c.added-sums-3.ensures.most p l, c.requires.all p l, few_samples c.args.count)

pub means_of_sums-requires-clause-most : goal.means_of_sums-requires-clause-most
means_of_sums-requires-clause-most c p l =
    omega (arith, (splat 0).each p l, c.added-sums.ensures.most p l, c.added-sums-2.ensures.most p l, c.added-sums-3.ensures.most p l, c.added.ensures.most p l, c.requires.all p l)

pub returns : goal.returns
returns c p l =
    let n : ℕ = count_of c.args.count in
    let g : ℕ → ℕ = λ m. channel_of c.args.channel (sample_numbered c.args.samples.now m) in
    let a = slice_index c.args.noughts p in
    let b = slice_index c.args.ones p in
    let d = slice_index c.args.twos p in
    let e = slice_index c.args.threes p in
    let one : slice_index c.added-sums.result p ≡ a * g 0 = omega (arith, c.added-sums.ensures.each p l, (splat 0).each p l, ap (λ x. a * x) c.byte_of.ensures) in
    let two : slice_index c.added-sums-2.result p ≡ a * g 0 + b * g 1 = c.added-sums-2.ensures.each p l ∙ (λ i. one i + b * c.byte_of-2.ensures i) in
    let three : slice_index c.added-sums-3.result p ≡ a * g 0 + b * g 1 + d * g 2 = c.added-sums-3.ensures.each p l ∙ (λ i. two i + d * c.byte_of-3.ensures i) in
    let four : slice_index c.added.result p ≡ a * g 0 + b * g 1 + d * g 2 + e * g 3 = c.added.ensures.each p l ∙ (λ i. three i + e * c.byte_of-4.ensures i) in
    c.means_of_sums.ensures p l ∙ ap (λ x. (x + n / 2) / n) four
