use Rattle.strokes.proofs.StrokeMasks.{stroke_masks}
use Rattle.strokes.proofs.path_masks.mark_path.Goals as goal

pub returns-clause-masks : goal.returns-clause-masks
returns-clause-masks c zeros = stroke_masks c.args.style c.args.path.now _ c.args.flags.now c.mark_stroke.new.flags c.mark_stroke.ensures zeros
