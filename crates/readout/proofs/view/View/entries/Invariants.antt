use Rattle.std.proofs.Common.{◌≡◌, map}
use Rattle.canvas.specs.Layout.{stored}
use Rattle.readout.proofs.Written.{AreRowsWritten}
use Rattle.readout.proofs.view.View.entries.Given as goal

abbrev pub invariant-loop-index : goal.invariant-loop-index
invariant-loop-index g l = AreRowsWritten l.self.rows.canvas l.self.rows.first l.self.rows.end 1 l.stride (λ i j entries. entries 0 ≡ g.E.Entry.number_of (stored l.self.rows.canvas l.self.rows.first l.self.planes.now i j l.s)) l.index (map g.E.Entry.number l.fn.entries) (map g.E.Entry.number l.entries)
