use Rattle.std.proofs.Common.{◌≡◌, ◌≢◌, ◌∙◌, ℕ, ◌<◌, length, slice_index, arith}
use Rattle.std.specs.Int.{bit_at}
use Rattle.std.proofs.lemmas.List.{length-set}
use Rattle.shade.proofs.Resolved.{few_samples}
use Rattle.blocks.proofs.MaskBits.{one_mask_more, bit_united_set, bit_united_clear}
use Rattle.blocks.proofs.pair.united.Goals as goal

pub loop-s-preserved : goal.loop-s-preserved
loop-s-preserved c =
    let s : ℕ = c.loop-s.s in
    let mask : ℕ = slice_index c.args.masks.now s in
    let stored : ℕ = slice_index c.args.stored.now s in
    let room : s < length c.loop-s.union = omega (arith, c.loop-s.invariant.long, c.loop-s-test.true, c.count-s-end.ensures, few_samples c.args.count) in
    record {
      long = length-set c.loop-s.union s _ ∙ c.loop-s.invariant.long;
      more = λ t p l small.
          one_mask_more (λ t union. bit_at (slice_index c.args.masks.now t) p ≡ 1 → bit_at union p ≡ 1) c.loop-s.union s _ room (λ t l. c.loop-s.invariant.more t p l small)
          (λ set. bit_united_set stored mask p set) t l;
      rest = λ t p l small.
          one_mask_more (λ t union. bit_at (slice_index c.args.masks.now t) p ≢ 1 → bit_at union p ≡ bit_at (slice_index c.args.stored.now t) p) c.loop-s.union s _ room (λ t l. c.loop-s.invariant.rest t p l small)
          (λ clear. bit_united_clear stored mask p clear) t l;
    }
