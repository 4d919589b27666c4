use Rattle.std.proofs.Common.{◌≡◌, ℕ, ◌+◌, ◌*◌, ◌<◌, ◌≤◌, pos, slice_index_or}
use Rattle.polygons.specs.Rings.{position_of, end_of, IsInClosedExtent}
use Rattle.polygons.proofs.runs.Runs.measure.Given as goal

abbrev pub invariant-loop-run : goal.invariant-loop-run
invariant-loop-run l = record {
  length : l.self.length ≡ l.initial.self.length;
  held : (run i : ℕ) → run < l.run → l.rings.start + run * l.self.length ≤ i → i ≤ l.rings.start + (run + 1) * l.self.length → i < end_of l.rings.start l.rings.ends.now
      → IsInClosedExtent (slice_index_or l.self.boxes run (record { left = pos 0; top = pos 0; right = pos 0; bottom = pos 0 })) (position_of (slice_index_or l.rings.corners.now i (record { x = pos 0; y = pos 0 })));
}
