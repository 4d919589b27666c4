use Rattle.std.proofs.Common.{◌-◌, ◌≤◌, take, length}
use Rattle.canvas.specs.Drawing.{TileHasEnds}
use Rattle.canvas.proofs.triangles.draw_blocks.Given as goal

abbrev pub invariant-loop-done : goal.invariant-loop-done
invariant-loop-done l = (l.done ≤ length l.chunk) × TileHasEnds (take l.done l.chunk) l.tile l.fn.samples l.samples

abbrev pub decreases-loop-done : goal.decreases-loop-done
decreases-loop-done l = length l.chunk - l.done
