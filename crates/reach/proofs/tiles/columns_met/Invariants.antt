use Rattle.std.proofs.Common.{◌-◌, ◌≤◌, max}
use Rattle.reach.specs.Reach.{HaveReached}
use Rattle.reach.proofs.tiles.columns_met.Given as goal

abbrev pub invariant-loop-first : goal.invariant-loop-first
invariant-loop-first l = record {
  first : l.first ≤ max l.fn.columns.first l.fn.columns.end;
  end : l.end ≤ l.fn.columns.end;
  all : HaveReached l.setup l.count l.side l.row l.fn.columns (record { first = l.first; end = l.end });
}

abbrev pub decreases-loop-first : goal.decreases-loop-first
decreases-loop-first l = l.end - l.first

abbrev pub invariant-loop-count : goal.invariant-loop-count
invariant-loop-count l = record {
  first : l.first ≤ max l.fn.columns.first l.fn.columns.end;
  end : l.end ≤ l.fn.columns.end;
  all : HaveReached l.setup l.count l.side l.row l.fn.columns (record { first = l.first; end = l.end });
}

abbrev pub decreases-loop-count : goal.decreases-loop-count
decreases-loop-count l = l.end - l.first
