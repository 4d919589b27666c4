use Rattle.std.proofs.Common.{drop}
use Rattle.batch.specs.declared.fault.BatchFault.{BatchFault}
use Rattle.checks.specs.Checking.{Pass, FirstIs}
use Rattle.batch.specs.OwnIndices.{indices_given}
use Rattle.batch.specs.Checks.{draws_checks}
use Rattle.batch.proofs.checking.check_draws.Given as goal

abbrev pub invariant-loop-number : goal.invariant-loop-number
invariant-loop-number g l = record {
  passed : Pass (draws_checks l.origin.x l.origin.y l.number l.next_ids (drop l.number l.draws) (g.V.Vertices.listed l.vertices_left) (indices_given l.indices_left))
      → Pass (draws_checks l.origin.x l.origin.y 0 l.fn.ids l.draws (g.V.Vertices.listed l.vertices) (indices_given l.indices));
  faults : (fault : BatchFault) → FirstIs (draws_checks l.origin.x l.origin.y l.number l.next_ids (drop l.number l.draws) (g.V.Vertices.listed l.vertices_left) (indices_given l.indices_left)) fault
      → FirstIs (draws_checks l.origin.x l.origin.y 0 l.fn.ids l.draws (g.V.Vertices.listed l.vertices) (indices_given l.indices)) fault;
}
