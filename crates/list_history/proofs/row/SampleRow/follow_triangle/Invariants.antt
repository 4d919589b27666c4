use Rattle.std.proofs.Common.{◌≤◌, length}
use Rattle.list_history.proofs.RowAfter.{IsRowWithin}
use Rattle.list_history.proofs.row.SampleRow.follow_triangle.Given as goal

abbrev pub invariant-loop-px : goal.invariant-loop-px
invariant-loop-px l = record {
  long : l.self.columns.end ≤ length l.row;
  within : IsRowWithin l.self.list.now l.self.number l.self.py l.self.s l.self.columns l.initial.px l.k l.px l.row;
}
