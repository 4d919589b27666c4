use Rattle.std.proofs.Common.{sym, ◌∙◌}
use Rattle.strokes.proofs.Traced.{traced_repeat, traced_step}
use Rattle.strokes.proofs.tip.Tip.to.Goals as goal

pub returns-then-is_same : goal.returns-then-is_same
returns-then-is_same c = traced_repeat c.args.style c.args.blocks.now c.args.self c.args.next c.args.flags.now (sym c.is_same.ensures ∙ c.if-is_same.true)

pub returns-else-is_same : goal.returns-else-is_same
returns-else-is_same c =
    traced_step c.args.style c.args.blocks.now c.args.self c.args.next c.args.flags.now c.mark_step.new.flags (sym c.is_same.ensures ∙ c.if-is_same.false) c.mark_step.ensures
