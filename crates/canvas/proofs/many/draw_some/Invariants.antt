use Rattle.std.proofs.Common.{◌+◌, ◌-◌, ◌≤◌, List, take}
use Rattle.lanes.specs.declared.block_samples.BlockSamples.{BlockSamples}
use Rattle.shade.specs.declared.placed.Placed.{Placed}
use Rattle.canvas.specs.Drawing.{TileHasEnds}
use Rattle.canvas.specs.Rows.{numbered}
use Rattle.canvas.proofs.many.draw_some.Given as goal

abbrev pub invariant-loop-bit : goal.invariant-loop-bit
invariant-loop-bit g l = record {
  most : l.next ≤ 16;
  drawn : (none : Placed) (start : List BlockSamples) → TileHasEnds (take l.from (numbered (g.T.Triangles.listed l.triangles) none (take l.list.count l.list.numbers))) l.tile start l.fn.samples
      → TileHasEnds (take (l.from + l.next) (numbered (g.T.Triangles.listed l.triangles) none (take l.list.count l.list.numbers))) l.tile start l.samples;
}

abbrev pub decreases-loop-bit : goal.decreases-loop-bit
decreases-loop-bit g l = 16 - l.next
