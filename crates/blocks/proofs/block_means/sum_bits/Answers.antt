use Rattle.std.proofs.Common.{◌≡◌, ◌∙◌, ap, subst, slice_index, ℕ, ◌+◌, ◌*◌, arith}
use Rattle.std.specs.Int.{bit_at}
use Rattle.shade.specs.Resolve.{total}
use Rattle.shade.proofs.Resolved.{few_samples}
use Rattle.grid.specs.Samples.{count_of}
use Rattle.blocks.proofs.MaskBits.{AreBitSums, no_mask_added, one_mask_added}
use Rattle.blocks.proofs.BlockMeans.{bit_sums}
use Rattle.blocks.proofs.block_means.sum_bits.Goals as goal

pub loop-part-init : goal.loop-part-init
loop-part-init c = no_mask_added (slice_index c.args.masks.now)

pub loop-part-preserved : goal.loop-part-preserved
loop-part-preserved c =
    let mask = slice_index c.args.masks.now in
    let next : 4 * c.loop-part.part + 4 ≡ 4 * (c.loop-part.part + 1) = omega arith in
    subst (λ n. AreBitSums n mask c.four_more-bits.result) next (bit_sums (4 * c.loop-part.part + 4) mask c.four_more-bits.result c.four_more-bits.ensures.whole c.four_more-bits.ensures.each)

pub loop-s-preserved : goal.loop-s-preserved
loop-s-preserved c =
    let s : ℕ = c.loop-s.s in
    one_mask_added s (slice_index c.args.masks.now) c.loop-s.bits c.lanes_of_mask-bits.result (omega (arith, c.loop-s-test.true, c.count-many.ensures, few_samples c.args.count)) c.lanes_of_mask-bits.ensures.whole
    c.lanes_of_mask-bits.ensures.each c.loop-s.invariant

pub returns-clause-each : goal.returns-clause-each
returns-clause-each c p l =
    let all : c.loop-s.s ≡ count_of c.args.count = omega (arith, c.loop-s-test.false, c.loop-s.auto.s-end, c.count-many.ensures) in
    c.loop-s.invariant.each p l ∙ ap (λ n. total n (λ s. bit_at (slice_index c.args.masks.now s) p)) all
