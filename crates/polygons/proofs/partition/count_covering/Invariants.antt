use Rattle.std.proofs.Common.{◌≡◌, take, count_by}
use Rattle.polygons.specs.Crossing.{is_inside}
use Rattle.polygons.proofs.partition.count_covering.Given as goal

abbrev pub invariant-loop-edges : goal.invariant-loop-edges
invariant-loop-edges l = l.count ≡ count_by (λ es. is_inside l.rule es.now l.p) (take l.edges-index l.cells)
