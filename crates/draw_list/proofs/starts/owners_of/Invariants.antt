use Rattle.std.proofs.Common.{◌≡◌, ℕ, ◌*◌, ◌<◌, length, slice_index}
use Rattle.draw_list.specs.Starts.{IsDrawOfTriangle}
use Rattle.draw_list.proofs.starts.owners_of.Given as goal

abbrev pub invariant-loop-entry : goal.invariant-loop-entry
invariant-loop-entry l = record {
  size : length l.owners.items ≡ l.entry;
  each : (group : ℕ) → group < l.entry → IsDrawOfTriangle l.starts (16 * group) (slice_index l.owners.items group);
}
