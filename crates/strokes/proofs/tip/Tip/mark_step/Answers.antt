use Rattle.std.proofs.Common.{inl, inr}
use Rattle.polygons.specs.Strip.{strip_sample}
use Rattle.strokes.proofs.MarkedPieces.{marked_as, marked_both}
use Rattle.strokes.proofs.tip.Tip.mark_step.Goals as goal

pub returns : goal.returns
returns c =
    let blocks = c.args.blocks.now in
    marked_as blocks _ _ _ _ (marked_both blocks _ _ _ _ _ c.mark.ensures c.mark_corner.ensures)
    (λ s row k _ _ _. let at = c.segment.ensures (strip_sample blocks.strip s row k) in (
      λ e. elim e [ inl piece ↦ inl (at.0 piece) | inr corner ↦ inr corner ],
      λ e. elim e [ inl segment ↦ inl (at.1 segment) | inr corner ↦ inr corner ],
    ))
