use Rattle.std.proofs.Common.{◌+◌, ◌-◌, ◌≤◌}
use Rattle.canvas.specs.Rows.{AreOfRow}
use Rattle.canvas.proofs.row_list.RowList.add_some.Given as goal

abbrev pub invariant-loop-bit : goal.invariant-loop-bit
invariant-loop-bit g l = record {
  most : l.next ≤ 16;
  count : l.self.count ≤ l.from + l.next;
  row : AreOfRow (g.T.Triangles.listed l.triangles) l.canvas l.row (l.from + l.next) l.self.numbers l.self.columns.firsts l.self.columns.ends l.self.count l.self.span;
}

abbrev pub decreases-loop-bit : goal.decreases-loop-bit
decreases-loop-bit g l = 16 - l.next
