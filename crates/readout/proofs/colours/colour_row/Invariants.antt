use Rattle.std.proofs.Common.{◌*◌, ◌/◌, min}
use Rattle.canvas.specs.Layout.{stored}
use Rattle.readout.specs.Pixels.{pixel_bytes}
use Rattle.readout.specs.Colours.{IsSampleColour}
use Rattle.readout.proofs.Units.{AreUnits}
use Rattle.readout.proofs.colours.colour_row.Given as goal

abbrev pub invariant-loop-block : goal.invariant-loop-block
invariant-loop-block l =
    AreUnits (pixel_bytes l.format) (λ i bytes. IsSampleColour l.format (stored l.canvas (l.j / 64) l.samples i l.j l.s) bytes) (min (8 * l.block) l.canvas.width) l.bytes
