use Rattle.std.proofs.Common.{◌≡◌, inl, inr, subst, sym, ap, ◌∙◌, arith, slice_index, IsBitSet}
use Rattle.std.proofs.lemmas.Bool.{cases_lt}
use Rattle.std.proofs.lemmas.Bool.Decides.{nat_tests}
use Rattle.raster.proofs.Rows.{word_full}
use Rattle.block_fills.proofs.masks.are_full.Goals as goal

pub loop-s-preserved : goal.loop-s-preserved
loop-s-preserved c j k h l =
    elim (cases_lt j c.loop-s.s) [
      | inl less ↦ c.loop-s.invariant j k less l
      | inr more ↦
          let here : c.loop-s.s ≡ j = omega (arith, h, more) in
          let all : slice_index c.args.words.now c.loop-s.s ≡ 18446744073709551615 = grind (arith, nat_tests) in
          subst (λ n. IsBitSet n k) (sym (ap (slice_index c.args.words.now) (sym here) ∙ all)) (word_full k l)
    ]
