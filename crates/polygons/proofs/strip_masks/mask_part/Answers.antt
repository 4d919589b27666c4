use Rattle.std.proofs.Common.{arith, ◌+◌}
use Rattle.std.proofs.lemmas.Nat.Bits.{bit_at-lt}
use Rattle.polygons.specs.Cells.{flag_of}
use Rattle.polygons.proofs.Masks.{odd_sum}
use Rattle.polygons.proofs.RunningSums.{no_row}
use Rattle.polygons.proofs.strip_masks.mask_part.Goals as goal

pub returns-in-EvenOdd-clause-bits : goal.returns-in-EvenOdd-clause-bits
returns-in-EvenOdd-clause-bits c = rw c.in-EvenOdd.is (λ s row k h l m. odd_sum (flag_of c.args.flags.now s row) (k + 1) (flag_of c.fill.new.flags s row k) (c.fill.ensures.bits s row k h l m) (bit_at-lt _ _))

pub returns-in-EvenOdd-clause-others : goal.returns-in-EvenOdd-clause-others
returns-in-EvenOdd-clause-others c = rw c.in-EvenOdd.is (λ column i h. no_row c.fill.new.flags column i (omega (arith, h, c.fill.ensures.len)))
