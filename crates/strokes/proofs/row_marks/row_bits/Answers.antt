use Rattle.std.proofs.Common.{arith, ◌*◌, ◌+◌}
use Rattle.strokes.proofs.Bits.{run_of_ones}
use Rattle.strokes.proofs.row_marks.row_bits.Goals as goal

pub returns : goal.returns
returns c r j h l =
    let low = c.columns_before.ensures in
    let high = c.columns_before-2.ensures in
    let bit = run_of_ones c.bits_between.result _ _ (8 * r + j) c.bits_between.ensures in
    (λ set. let in_it = bit.0 set in (omega arith, omega arith, omega arith), λ p. bit.1 (omega arith, omega arith))
