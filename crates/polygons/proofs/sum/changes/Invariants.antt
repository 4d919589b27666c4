use Rattle.std.proofs.Common.{◌≡◌, ◌-◌, ◌/◌, ◌^◌, bit_or}
use Rattle.polygons.specs.Summing.{number_in}
use Rattle.polygons.proofs.Changes.{AreChanged}
use Rattle.polygons.proofs.sum.changes.Given as goal

abbrev pub invariant-loop-left : goal.invariant-loop-left
invariant-loop-left l = record {
  left : l.left ≡ bit_or l.marks.downs l.marks.ups / 2 ^ l.done;
  changed : AreChanged (number_in l.marks l.counters l.word) l.word l.initial.sums l.done l.changes l.sums;
}

abbrev pub decreases-loop-left : goal.decreases-loop-left
decreases-loop-left l = 64 - l.done
