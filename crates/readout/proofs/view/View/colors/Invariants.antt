use Rattle.canvas.specs.Layout.{stored}
use Rattle.readout.specs.Pixels.{pixel_bytes}
use Rattle.readout.specs.Colours.{IsSampleColour}
use Rattle.readout.proofs.Written.{AreRowsWritten}
use Rattle.readout.proofs.view.View.colors.Given as goal

abbrev pub invariant-loop-index : goal.invariant-loop-index
invariant-loop-index l = AreRowsWritten l.self.rows.canvas l.self.rows.first l.self.rows.end (pixel_bytes l.format) l.stride (λ i j bytes. IsSampleColour l.format (stored l.self.rows.canvas l.self.rows.first l.self.planes.now i j l.s) bytes) l.index l.fn.bytes l.bytes
