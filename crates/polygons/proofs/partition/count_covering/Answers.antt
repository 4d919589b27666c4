use Rattle.std.proofs.Common.{map}
use Rattle.polygons.proofs.Outline.{parity_of_outline, partition}
use Rattle.polygons.proofs.partition.count_covering.Goals as goal

pub returns-clause-parity : goal.returns-clause-parity
returns-clause-parity c outline = parity_of_outline outline (map (λ es. es.now) c.args.cells.now) c.args.p

pub returns-clause-partition : goal.returns-clause-partition
returns-clause-partition c outline = partition c.args.rule outline (map (λ es. es.now) c.args.cells.now) c.args.p
