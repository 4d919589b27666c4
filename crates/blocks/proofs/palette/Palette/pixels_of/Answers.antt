use Rattle.std.proofs.Common.{◌∙◌, ℕ, ◌<◌, length, arith}
use Rattle.std.proofs.lemmas.List.{length-set}
use Rattle.shade.proofs.Resolved.{few_samples}
use Rattle.blocks.specs.Palettes.{HasNumbers}
use Rattle.blocks.proofs.MaskBits.{one_mask_more}
use Rattle.blocks.proofs.Palettes.{have_number}
use Rattle.blocks.proofs.palette.Palette.pixels_of.Goals as goal

pub loop-s-preserved : goal.loop-s-preserved
loop-s-preserved c =
    let s : ℕ = c.loop-s.s in
    let palette = c.args.self.now in
    let room : s < length c.loop-s.pixels = omega (arith, c.loop-s.invariant.long, c.loop-s-test.true, c.count-s-end.ensures, few_samples c.args.count) in
    record {
      long = length-set c.loop-s.pixels s _ ∙ c.loop-s.invariant.long;
      each = λ t p l small.
          one_mask_more (λ t mask. HasNumbers palette c.args.number t p mask) c.loop-s.pixels s _ room (λ t l. c.loop-s.invariant.each t p l small)
          (have_number palette c.args.number s p c.pixels_with.result c.pixels_with-in-loop-s.result c.requires (c.pixels_with.ensures p small) (c.pixels_with-in-loop-s.ensures p small)) t l;
    }

pub returns : goal.returns
returns c s p h l = c.loop-s.invariant.each s p (omega (arith, h, c.loop-s-test.false, c.count-s-end.ensures)) l
