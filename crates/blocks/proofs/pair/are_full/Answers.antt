use Rattle.std.proofs.Common.{rules, arith, ◌≡◌, slice_index}
use Rattle.std.proofs.lemmas.Bool.{false≢true}
use Rattle.std.specs.Int.{bit_at}
use Rattle.blocks.proofs.MaskBits.{one_more, bit_of_full, full_of_bits}
use Rattle.blocks.proofs.pair.are_full.Goals as goal

pub loop-s-preserved : goal.loop-s-preserved
loop-s-preserved c t p l small =
    one_more (λ t. bit_at (slice_index c.args.masks.now t) p ≡ 1) c.loop-s.s (λ t l. c.loop-s.invariant t p l small) (bit_of_full _ p c.if-masks-s.false small) t l

pub returns-then-masks-s : goal.returns-then-masks-s
returns-then-masks-s c = (λ no. absurd (false≢true no), λ all. absurd (c.if-masks-s.true (full_of_bits _ (search rules) (λ p l. all c.loop-s.s p (omega (arith, c.loop-s-test.true, c.count-s-end.ensures)) l))))
