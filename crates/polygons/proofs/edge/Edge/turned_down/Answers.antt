use Rattle.std.proofs.Common.{ap, arith}
use Rattle.std.proofs.lemmas.Int.{ints}
use Rattle.polygons.specs.declared.edge.Edge.{Edge}
use Rattle.polygons.specs.Rows.{direction}
use Rattle.polygons.proofs.Counters.{direction-reversed}
use Rattle.polygons.proofs.edge.Edge.turned_down.Goals as goal

pub returns-else-y-clause-same : goal.returns-else-y-clause-same
returns-else-y-clause-same c p =
    let a = ap (λ (g : Edge). direction g p) c.reversed.ensures.value in
    let b = direction-reversed c.args.self p in
    omega (arith, ints)
