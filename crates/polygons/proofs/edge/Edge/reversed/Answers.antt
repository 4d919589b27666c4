use Rattle.polygons.proofs.Cancel.{opposite}
use Rattle.polygons.proofs.edge.Edge.reversed.Goals as goal

pub returns-clause-opposite : goal.returns-clause-opposite
returns-clause-opposite c p = opposite c.args.self.now p
