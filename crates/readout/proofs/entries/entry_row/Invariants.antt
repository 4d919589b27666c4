use Rattle.std.proofs.Common.{◌≡◌, ◌*◌, ◌/◌, min, map}
use Rattle.canvas.specs.Layout.{stored}
use Rattle.readout.proofs.Units.{AreUnits}
use Rattle.readout.proofs.entries.entry_row.Given as goal

abbrev pub invariant-loop-block : goal.invariant-loop-block
invariant-loop-block g l =
    AreUnits 1 (λ i entries. entries 0 ≡ g.E.Entry.number_of (stored l.canvas (l.j / 64) l.samples i l.j l.s)) (min (8 * l.block) l.canvas.width) (map g.E.Entry.number l.entries)
