use Rattle.std.proofs.Common.{◌≡◌, ◌-◌, ◌%◌, take}
use Rattle.canvas.specs.Rows.{numbered}
use Rattle.canvas.proofs.Listed.{nothing}
use Rattle.canvas.proofs.DrawnTiles.{AreDrawnOn}
use Rattle.canvas.proofs.canvas.Canvas.draw_listed_tile.Given as goal

abbrev pub invariant-loop-from : goal.invariant-loop-from
invariant-loop-from g l = record {
  place : l.from % 16 ≡ 0;
  drawn : AreDrawnOn (take l.from (numbered (g.T.Triangles.listed l.triangles) nothing (take l.list.count l.list.numbers))) l.tile l.self.count l.own l.fn.samples l.samples;
}

abbrev pub decreases-loop-from : goal.decreases-loop-from
decreases-loop-from g l = l.list.count - l.from
