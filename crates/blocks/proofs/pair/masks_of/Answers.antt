use Rattle.std.proofs.Common.{◌≡◌, ◌∙◌, ℕ, ◌<◌, length, arith}
use Rattle.std.proofs.lemmas.List.{length-set}
use Rattle.shade.proofs.Resolved.{few_samples}
use Rattle.blocks.specs.Layout.{mask_of}
use Rattle.blocks.proofs.MaskBits.{one_mask_more}
use Rattle.blocks.proofs.pair.masks_of.Goals as goal

pub loop-s-preserved : goal.loop-s-preserved
loop-s-preserved c =
    let s : ℕ = c.loop-s.s in
    let room : s < length c.loop-s.masks = omega (arith, c.loop-s.invariant.long, c.loop-s-test.true, c.count-s-end.ensures, few_samples c.args.count) in
    record {
      long = length-set c.loop-s.masks s _ ∙ c.loop-s.invariant.long;
      read = one_mask_more (λ t mask. mask ≡ mask_of c.args.plane.now t) c.loop-s.masks s _ room c.loop-s.invariant.read c.mask_of.ensures;
    }
