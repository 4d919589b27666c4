use Rattle.std.proofs.Common.{◌-◌, ◌≤◌, take}
use Rattle.canvas.specs.Drawing.{HaveEnds}
use Rattle.canvas.proofs.tile_rows.TileRows.draw_all.Given as goal

abbrev pub invariant-loop-done : goal.invariant-loop-done
invariant-loop-done g l = (l.done ≤ l.all) × HaveEnds (take l.done (g.T.Triangles.listed l.triangles)) l.self.canvas l.self.first l.self.end l.fn.samples l.samples

abbrev pub decreases-loop-done : goal.decreases-loop-done
decreases-loop-done g l = l.all - l.done
