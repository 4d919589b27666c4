use Rattle.std.proofs.Common.{inl, inr, arith, ◌*◌}
use Rattle.std.proofs.lemmas.Bool.{cases_lt}
use Rattle.strokes.proofs.Marked.{word_marked}
use Rattle.strokes.proofs.row_marks.mark_columns.Goals as goal

pub loop-block-init : goal.loop-block-init
loop-block-init c t j k l = (
  λ set. inl set,
  λ h. elim h [ inl set ↦ set | inr p ↦ absurd (omega (arith, p.2, p.4)) ],
)

pub loop-block-preserved : goal.loop-block-preserved
loop-block-preserved c t j k l =
    let set = c.set_bits.ensures in
    let before = c.loop-block.invariant t j k l in
    let step = word_marked c.loop-block.flags c.set_bits.new.flags c.args.columns c.args.s c.args.row c.loop-block.block c.row_bits-bits.result c.args.first c.args.end (omega (arith, c.loop-block-test.true, c.requires.end)) set.here set.others c.row_bits-bits.ensures t j k l in (
      λ h. elim (step.0 h) [
        | inl old ↦ elim (before.0 old) [ inl first ↦ inl first | inr p ↦ inr (p.0, p.1, p.2, p.3, omega (arith, p.4)) ]
        | inr p ↦ inr (p.0, p.1, p.2, p.3, omega (arith, p.4))
      ],
      λ h. elim h [
        | inl first ↦ step.1 (inl (before.1 (inl first)))
        | inr p ↦ elim (cases_lt k (8 * c.loop-block.block)) [
          | inl less ↦ step.1 (inl (before.1 (inr (p.0, p.1, p.2, p.3, less))))
          | inr more ↦ step.1 (inr (p.0, p.1, p.2, p.3, omega (arith, more, p.4)))
        ]
      ],
    )

pub returns-then-end-first-clause-bits : goal.returns-then-end-first-clause-bits
returns-then-end-first-clause-bits c t j k l = (
  λ set. inl set,
  λ h. elim h [ inl set ↦ set | inr p ↦ absurd (omega (arith, p.2, p.3, c.if-end-first.true)) ],
)

pub returns-clause-bits : goal.returns-clause-bits
returns-clause-bits c t j k l =
    let at = c.loop-block.invariant t j k l in (
      λ h. elim (at.0 h) [ inl first ↦ inl first | inr p ↦ inr (p.0, p.1, p.2, p.3) ],
      λ h. elim h [
        | inl first ↦ at.1 (inl first)
        | inr p ↦ at.1 (inr (p.0, p.1, p.2, p.3, omega (arith, p.2, p.3, c.loop-block-test.false)))
      ],
    )
