use Rattle.readout.proofs.TileEntries.{AreRecoloured}
use Rattle.readout.proofs.tile_colours.store_one.Given as goal

abbrev pub invariant-loop-place : goal.invariant-loop-place
invariant-loop-place l = AreRecoloured 1 l.place (λ p k. l.fn.colour) l.fn.samples l.samples
