use Rattle.std.proofs.Common.{◌≡◌, ◌-◌, ◌%◌, ◌≤◌, length}
use Rattle.canvas.specs.Rows.{AreOfRow}
use Rattle.canvas.proofs.row_list.RowList.set.Given as goal

abbrev pub invariant-loop-from : goal.invariant-loop-from
invariant-loop-from g l = record {
  place : l.from % 16 ≡ 0;
  count : l.self.count ≤ l.from;
  row : AreOfRow (g.T.Triangles.listed l.triangles) l.canvas l.row l.from l.self.numbers l.self.columns.firsts l.self.columns.ends l.self.count l.self.span;
}

abbrev pub decreases-loop-from : goal.decreases-loop-from
decreases-loop-from g l = length (g.T.Triangles.listed l.triangles) - l.from
