use Rattle.std.proofs.Common.{rules, ◌≡◌, ◌≢◌, ◌∙◌, ℕ, ◌<◌, length, slice_index, arith}
use Rattle.std.specs.Int.{bit_at}
use Rattle.std.proofs.lemmas.List.{length-set}
use Rattle.shade.proofs.Resolved.{few_samples}
use Rattle.blocks.proofs.MaskBits.{one_mask_more, bit_without_set, bit_without_clear}
use Rattle.blocks.proofs.pair.without.Goals as goal

pub loop-s-preserved : goal.loop-s-preserved
loop-s-preserved c =
    let s : ℕ = c.loop-s.s in
    let mask : ℕ = slice_index c.args.masks.now s in
    let stored : ℕ = slice_index c.args.stored.now s in
    let room : s < length c.loop-s.rest = omega (arith, c.loop-s.invariant.long, c.loop-s-test.true, c.count-s-end.ensures, few_samples c.args.count) in
    record {
      long = length-set c.loop-s.rest s _ ∙ c.loop-s.invariant.long;
      less = λ t p l small.
          one_mask_more (λ t rest. bit_at (slice_index c.args.masks.now t) p ≡ 1 → bit_at rest p ≡ 0) c.loop-s.rest s _ room (λ t l. c.loop-s.invariant.less t p l small)
          (λ set. bit_without_set stored mask p (search rules) small set) t l;
      rest = λ t p l small.
          one_mask_more (λ t rest. bit_at (slice_index c.args.masks.now t) p ≢ 1 → bit_at rest p ≡ bit_at (slice_index c.args.stored.now t) p) c.loop-s.rest s _ room (λ t l. c.loop-s.invariant.rest t p l small)
          (λ clear. bit_without_clear stored mask p (search rules) small clear) t l;
    }
