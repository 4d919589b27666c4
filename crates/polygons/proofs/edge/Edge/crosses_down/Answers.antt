use Rattle.polygons.proofs.Lines.{line_side}
use Rattle.polygons.proofs.edge.Edge.crosses_down.Goals as goal

pub returns-then-is_in_range-clause-line : goal.returns-then-is_in_range-clause-line
returns-then-is_in_range-clause-line c = line_side c.args.self.now c.args.p

pub returns-else-is_in_range-clause-line : goal.returns-else-is_in_range-clause-line
returns-else-is_in_range-clause-line c = line_side c.args.self.now c.args.p
