use Rattle.std.proofs.Common.{inl, inr, refl, ap, ◌∙◌, arith, bit_or, slice_index}
use Rattle.std.proofs.lemmas.Bool.{cases_eq, eqb-true, eq-eqb}
use Rattle.polygons.proofs.NoFlags.{left_none, right_none}
use Rattle.polygons.proofs.Plotted.{before_of}
use Rattle.polygons.proofs.four_words.are_zeros.Goals as goal

pub loop-i-init : goal.loop-i-init
loop-i-init c = (λ none i l h. absurd (omega (arith, l, h)), λ all. refl)

pub loop-i-preserved : goal.loop-i-preserved
loop-i-preserved c =
    let n = c.loop-i.i in
    let word = slice_index c.args.words.now n in (
      λ none i l h. elim (cases_eq i n) [
        | inl e ↦ ap (slice_index c.args.words.now) e ∙ right_none c.loop-i.any word none
        | inr e ↦ c.loop-i.invariant.0 (left_none c.loop-i.any word none) i l (before_of i n h e)
      ],
      λ all.
          let before = c.loop-i.invariant.1 (λ i l h. all i l (omega (arith, h))) in
          let here = all n (omega arith) (omega arith) in
          λ j. bit_or (before j) (here j),
    )

pub returns : goal.returns
returns c = (
  λ t i e. c.loop-i.invariant.0 (eqb-true _ 0 t) i (omega arith) (omega arith),
  λ all. eq-eqb _ 0 (c.loop-i.invariant.1 (λ i l h. all i (omega arith))),
)
