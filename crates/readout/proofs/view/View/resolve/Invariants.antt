use Rattle.std.proofs.Common.{◌+◌, ◌*◌, ◌/◌, ◌<◌}
use Rattle.readout.specs.Pixels.{pixel_bytes, AreWrittenIn}
use Rattle.readout.specs.Colours.{IsPixelOf}
use Rattle.readout.proofs.view.View.resolve.Given as goal

abbrev pub invariant-loop-down : goal.invariant-loop-down
invariant-loop-down l =
    AreWrittenIn l.self.rows.canvas l.self.rows.first l.self.rows.end (pixel_bytes l.format) l.stride (λ i j. j / 8 < 8 * l.self.rows.first + l.down)
    (λ i j bytes. IsPixelOf l.self.rows.canvas l.self.rows.first l.self.planes.now l.format i j bytes) l.fn.bytes l.bytes
