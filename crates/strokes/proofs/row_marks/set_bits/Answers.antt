use Rattle.std.proofs.Common.{arith}
use Rattle.polygons.proofs.Totals.{word-here, word-other}
use Rattle.strokes.proofs.row_marks.set_bits.Goals as goal

pub returns-clause-here : goal.returns-clause-here
returns-clause-here c =
    let long = c.told-flags c.args.column c.requires.column in
    word-here c.args.flags.now c.args.column c.args.word _ c.requires.column (omega (arith, long, c.requires.word))

pub returns-clause-others : goal.returns-clause-others
returns-clause-others c l m other = word-other c.args.flags.now c.args.column c.args.word _ l m c.requires.column other
