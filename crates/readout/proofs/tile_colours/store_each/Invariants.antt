use Rattle.std.proofs.Common.{◌+◌, ◌-◌, ◌*◌, slice_index}
use Rattle.readout.proofs.TileEntries.{AreRecoloured}
use Rattle.readout.proofs.tile_colours.store_each.Given as goal

abbrev pub invariant-loop-number : goal.invariant-loop-number
invariant-loop-number l = AreRecoloured l.own (l.own + l.number) (λ p k. slice_index l.colours (64 * (p - l.own) + k)) l.initial.samples l.samples
