use Rattle.std.proofs.Common.{◌≡◌, ◌↔◌, ◌∙◌, ℕ, ◌<◌, length, slice_index, arith}
use Rattle.std.specs.Int.{bit_at}
use Rattle.std.proofs.lemmas.List.{length-set}
use Rattle.shade.proofs.Resolved.{few_samples}
use Rattle.blocks.proofs.MaskBits.{one_mask_more, bit_shared}
use Rattle.blocks.proofs.pair.shared.Goals as goal

pub loop-s-preserved : goal.loop-s-preserved
loop-s-preserved c =
    let s : ℕ = c.loop-s.s in
    let stored : ℕ = slice_index c.args.stored.now s in
    let mask : ℕ = slice_index c.args.masks.now s in
    let room : s < length c.loop-s.both = omega (arith, c.loop-s.invariant.long, c.loop-s-test.true, c.count-s-end.ensures, few_samples c.args.count) in
    record {
      long = length-set c.loop-s.both s _ ∙ c.loop-s.invariant.long;
      each = λ t p l small.
          one_mask_more (λ t both. (bit_at both p ≡ 1) ↔ ((bit_at (slice_index c.args.stored.now t) p ≡ 1) × (bit_at (slice_index c.args.masks.now t) p ≡ 1))) c.loop-s.both s _ room
          (λ t l. c.loop-s.invariant.each t p l small) (bit_shared stored mask p) t l;
    }
