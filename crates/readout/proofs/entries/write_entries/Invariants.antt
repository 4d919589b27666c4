use Rattle.std.proofs.Common.{◌≡◌, ℕ, ◌+◌, ◌<◌, slice_index, map}
use Rattle.lanes.specs.Block.{stored_at}
use Rattle.readout.proofs.entries.write_entries.Given as goal

abbrev pub invariant-loop-k : goal.invariant-loop-k
invariant-loop-k g l = (n : ℕ) → n < l.k → slice_index (map g.E.Entry.number l.entries) n ≡ g.E.Entry.number_of (stored_at l.plane (l.first + n))
