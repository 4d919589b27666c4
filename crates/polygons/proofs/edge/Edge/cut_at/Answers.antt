use Rattle.polygons.proofs.Cuts.{crossed_as_parts, counts_as_parts}
use Rattle.polygons.proofs.edge.Edge.cut_at.Goals as goal

pub returns-clause-on_edge : goal.returns-clause-on_edge
returns-clause-on_edge c on p = crossed_as_parts c.args.self.now c.args.q p on

pub returns-clause-off_edge : goal.returns-clause-off_edge
returns-clause-off_edge c p off = counts_as_parts c.args.self.now c.args.q p off
