use Rattle.std.proofs.Common.{rules, arith, ◌≡◌, ◌≢◌, slice_index}
use Rattle.std.proofs.lemmas.Bool.{false≢true}
use Rattle.std.specs.Int.{bit_at}
use Rattle.blocks.proofs.MaskBits.{one_more, bit_of_either, full_of_either}
use Rattle.blocks.proofs.pair.are_all.Goals as goal

pub loop-s-preserved : goal.loop-s-preserved
loop-s-preserved c t p l small =
    one_more (λ t. bit_at (slice_index c.args.masks.now t) p ≢ 1 → bit_at (slice_index c.args.stored.now t) p ≡ 1) c.loop-s.s (λ t l. c.loop-s.invariant t p l small)
    (bit_of_either (slice_index c.args.stored.now c.loop-s.s) (slice_index c.args.masks.now c.loop-s.s) p small c.if-stored-s.false) t l

pub returns-then-stored-s : goal.returns-then-stored-s
returns-then-stored-s c =
    (λ no. absurd (false≢true no), λ all. absurd (c.if-stored-s.true (full_of_either (slice_index c.args.stored.now c.loop-s.s) (slice_index c.args.masks.now c.loop-s.s) (search rules) (search rules) (λ p l. all c.loop-s.s p (omega (arith, c.loop-s-test.true, c.count-s-end.ensures)) l))))
