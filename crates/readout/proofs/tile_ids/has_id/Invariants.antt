use Rattle.std.proofs.Common.{◌≡◌, ℕ, ◌<◌}
use Rattle.lanes.specs.Block.{stored_at}
use Rattle.blocks.specs.Layout.{id_of}
use Rattle.readout.proofs.tile_ids.has_id.Given as goal

abbrev pub invariant-loop-k : goal.invariant-loop-k
invariant-loop-k l = (n : ℕ) → n < l.k → id_of (stored_at l.plane n) ≡ l.id
