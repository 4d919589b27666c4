use Rattle.readout.proofs.Units.{AreUnits}
use Rattle.readout.proofs.TileEntries.{HasIdsOf}
use Rattle.readout.proofs.tile_ids.write_ids.Given as goal

abbrev pub invariant-loop-number : goal.invariant-loop-number
invariant-loop-number l = AreUnits 64 (λ n ids. HasIdsOf l.count l.samples n ids) l.number l.ids
