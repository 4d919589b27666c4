use Rattle.std.proofs.Common.{inl, inr, arith}
use Rattle.std.proofs.lemmas.Bool.{cases_eq}
use Rattle.strokes.proofs.MarkedPieces.{marked_as, marked_both, marked_none}
use Rattle.strokes.proofs.blocks.Blocks.mark.Goals as goal

pub loop-s-init : goal.loop-s-init
loop-s-init c = marked_none c.args.self.now _ c.args.flags.now (λ t j k p. omega (arith, p.0))

pub loop-s-preserved : goal.loop-s-preserved
loop-s-preserved c =
    let s = c.loop-s.s in
    marked_as c.args.self.now _ _ _ _ (marked_both c.args.self.now _ _ _ _ _ c.loop-s.invariant c.mark_rows.ensures)
    (λ t j k _ _ _. (
      λ e. elim e [ inl p ↦ (omega (arith, p.0), p.1) | inr p ↦ (omega (arith, p.0), p.1) ],
      λ p. elim (cases_eq t s) [ inl here ↦ inr (here, p.1) | inr other ↦ inl (omega (arith, p.0, other), p.1) ],
    ))

pub returns : goal.returns
returns c =
    marked_as c.args.self.now _ _ _ _ c.loop-s.invariant
    (λ t j k h _ _. (λ p. p.1, λ p. (omega (arith, h, c.count-s-end.ensures, c.loop-s-test.false), p)))
