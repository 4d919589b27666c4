use Rattle.strokes.proofs.Walks.{second_round, no_round}
use Rattle.strokes.proofs.pen.Pen.along_again.Goals as goal

pub returns-then-style : goal.returns-then-style
returns-then-style c =
    second_round c.args.style c.args.path.now c.args.self c.along.result c.args.p c.if-style.true c.along.ensures

pub returns-else-style : goal.returns-else-style
returns-else-style c = no_round c.args.style c.args.path.now c.args.self c.args.p c.if-style.false
