use Rattle.std.proofs.Common.{arith}
use Rattle.strokes.proofs.Bits.{pow_most}
use Rattle.strokes.proofs.row_marks.bits_between.Goals as goal

pub overflow_sub-result : goal.overflow_sub-result
overflow_sub-result c =
    let most = pow_most c.args.low c.args.high c.requires.order in
    let top = pow_most c.args.high 64 c.requires.high in
    omega (arith, most, top)
