use Rattle.std.proofs.Common.{sym, ◌∙◌}
use Rattle.strokes.proofs.Walks.{stepped}
use Rattle.strokes.proofs.pen.Pen.to.Goals as goal

pub returns-else-is_same : goal.returns-else-is_same
returns-else-is_same c =
    stepped c.args.style c.args.self c.args.next c.has_covered_at.result c.args.p (sym c.is_same.ensures ∙ c.if-is_same.false) c.has_covered_at.ensures
