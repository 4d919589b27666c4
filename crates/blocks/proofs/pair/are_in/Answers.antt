use Rattle.std.proofs.Common.{rules, arith, ◌≡◌, slice_index}
use Rattle.std.proofs.lemmas.Bool.{false≢true}
use Rattle.std.specs.Int.{bit_at}
use Rattle.blocks.proofs.MaskBits.{one_more, bit_in, none_beside}
use Rattle.blocks.proofs.pair.are_in.Goals as goal

pub loop-s-preserved : goal.loop-s-preserved
loop-s-preserved c t p l small =
    one_more (λ t. bit_at (slice_index c.args.stored.now t) p ≡ 1 → bit_at (slice_index c.args.masks.now t) p ≡ 1) c.loop-s.s (λ t l. c.loop-s.invariant t p l small)
    (bit_in (slice_index c.args.stored.now c.loop-s.s) (slice_index c.args.masks.now c.loop-s.s) p (search rules) small c.if-stored-s-ne0.false) t l

pub returns-then-stored-s-ne0 : goal.returns-then-stored-s-ne0
returns-then-stored-s-ne0 c =
    (λ no. absurd (false≢true no), λ all. absurd (c.if-stored-s-ne0.true (none_beside (slice_index c.args.stored.now c.loop-s.s) (slice_index c.args.masks.now c.loop-s.s) (search rules) (search rules) (λ p l. all c.loop-s.s p (omega (arith, c.loop-s-test.true, c.count-s-end.ensures)) l))))
