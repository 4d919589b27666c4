use Rattle.std.proofs.Common.{◌≡◌, ◌+◌, ◌-◌, ◌*◌, ◌/◌, ◌^◌, ◌≤◌, ltb, cond, slice_index}
use Rattle.std.specs.Int.{bit_at}
use Rattle.polygons.specs.Cells.{in_use}
use Rattle.polygons.specs.Summing.{AreInBytes}
use Rattle.polygons.proofs.byte_sums.counter_bytes.Given as goal

abbrev pub invariant-loop-left : goal.invariant-loop-left
invariant-loop-left l = record {
  few : l.done ≤ 64;
  left : l.left ≡ l.more / 2 ^ l.done;
  bytes : AreInBytes 7 (λ i. cond (ltb i l.done) (in_use (bit_at l.more i) (slice_index l.counters (64 * l.word + i))) 0) l.bytes;
}

abbrev pub decreases-loop-left : goal.decreases-loop-left
decreases-loop-left l = 64 - l.done
