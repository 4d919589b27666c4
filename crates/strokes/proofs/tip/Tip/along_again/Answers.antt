use Rattle.strokes.proofs.Traced.{traced_again, traced_once}
use Rattle.strokes.proofs.tip.Tip.along_again.Goals as goal

pub returns-then-style : goal.returns-then-style
returns-then-style c = traced_again c.args.style c.args.blocks.now c.args.path.now c.args.self c.along.result c.args.flags.now c.along.new.flags c.if-style.true c.along.ensures

pub returns-else-style : goal.returns-else-style
returns-else-style c = traced_once c.args.style c.args.blocks.now c.args.path.now c.args.self c.args.flags.now c.if-style.false
