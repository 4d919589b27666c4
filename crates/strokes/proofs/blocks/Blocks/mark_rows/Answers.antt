use Rattle.std.proofs.Common.{inl, inr, arith}
use Rattle.std.proofs.lemmas.Bool.{cases_eq}
use Rattle.strokes.proofs.MarkedPieces.{marked_as, marked_both, marked_none}
use Rattle.strokes.proofs.blocks.Blocks.mark_rows.Goals as goal

pub loop-row-init : goal.loop-row-init
loop-row-init c = marked_none c.args.self.now _ c.args.flags.now (λ t j k p. let place = p.0 in omega (arith, place.1))

pub loop-row-preserved : goal.loop-row-preserved
loop-row-preserved c =
    let row = c.loop-row.row in
    marked_as c.args.self.now _ _ _ _ (marked_both c.args.self.now _ _ _ _ _ c.loop-row.invariant c.mark_row.ensures)
    (λ t j k _ _ _. (
      λ e. elim e [
        | inl p ↦ let place = p.0 in ((place.0, omega (arith, place.1)), p.1)
        | inr p ↦ let place = p.0 in ((place.0, omega (arith, place.1)), p.1)
      ],
      λ p. let place = p.0 in elim (cases_eq j row) [
        | inl here ↦ inr ((place.0, here), p.1)
        | inr other ↦ inl ((place.0, omega (arith, place.1, other)), p.1)
      ],
    ))

pub returns : goal.returns
returns c =
    marked_as c.args.self.now _ _ _ _ c.loop-row.invariant
    (λ t j k _ h _. (λ p. let place = p.0 in (place.0, p.1), λ p. ((p.0, omega (arith, h, c.loop-row-test.false)), p.1)))
