use Rattle.std.proofs.Common.{◌≤◌, length}
use Rattle.list_history.specs.Counts.{IsRowAfter}
use Rattle.list_history.proofs.row.SampleRow.follow.Given as goal

abbrev pub invariant-loop-k : goal.invariant-loop-k
invariant-loop-k l = record {
  long : l.self.columns.end ≤ length l.row;
  after : IsRowAfter l.self.list.now l.self.number l.self.py l.self.s l.self.columns l.k l.row;
}
