use Rattle.strokes.proofs.Wider.{wider_stroke}
use Rattle.strokes.proofs.laws.widened_covers.Goals as goal

pub returns-clause-wider : goal.returns-clause-wider
returns-clause-wider c h s =
    c.covers.ensures.1 (wider_stroke c.args.style c.args.width c.args.path.now c.args.p h s)
