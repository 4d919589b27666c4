use Rattle.polygons.specs.Plotting.{IsRowCounted}
use Rattle.polygons.proofs.part_rows.cross_each.Given as goal

abbrev pub invariant-loop-s : goal.invariant-loop-s
invariant-loop-s g l = IsRowCounted l.rule l.s l.row l.columns l.from l.to l.down l.fn.flags l.fn.counters l.flags l.counters
