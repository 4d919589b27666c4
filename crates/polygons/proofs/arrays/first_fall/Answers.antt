use Rattle.std.proofs.Common.{sym, arith, ◌≤◌, slice_index}
use Rattle.polygons.specs.Arrays.{begin_of}
use Rattle.polygons.proofs.ArrayParts.{next_begin, ends_ascending, ends_more}
use Rattle.polygons.proofs.arrays.first_fall.Goals as goal

pub loop-k-preserved : goal.loop-k-preserved
loop-k-preserved c =
    let ends = c.args.ends.now in
    let k = c.loop-k.k in
    let v = c.loop-k.invariant in
    let rises : begin_of ends k ≤ slice_index ends k = omega (arith, v.begins, c.if-end-begin.false) in
    record {
      begins = sym (next_begin ends k);
      rising = ends_more ends c.args.whole k c.loop-k-test.true rises (omega (arith, c.if-whole-end.false)) v.rising;
    }

pub returns-then-are_ascending-clause-none : goal.returns-then-are_ascending-clause-none
returns-then-are_ascending-clause-none c none =
    ends_ascending c.args.ends.now c.args.whole (c.are_ascending.ensures.0 c.if-are_ascending.true) (omega (arith, c.begin_of.ensures, c.if-begin_of-whole.true))
