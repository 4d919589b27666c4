use Rattle.cover.proofs.Joined.{sample_value, plane_bit}
use Rattle.cover.proofs.edge.Edge.plane.Goals as goal

pub square-requires-clause-at : goal.square-requires-clause-at
square-requires-clause-at g c =
    let v = sample_value c.args.self.now c.args.at c.further.result c.offset-right.result.0 c.offset-right.result.1 c.requires.at c.offset-right.ensures.small.0 c.offset-right.ensures.small.1 c.further.ensures in
    v.near

pub returns : goal.returns
returns g c row column lt within =
    let v = sample_value c.args.self.now c.args.at c.further.result c.offset-right.result.0 c.offset-right.result.1 c.requires.at c.offset-right.ensures.small.0 c.offset-right.ensures.small.1 c.further.ensures in
    plane_bit c.args.self.now c.args.at c.further.result c.args.count c.args.s row column c.offset-right.result.0 c.offset-right.result.1 v.is c.offset-right.ensures.right c.offset-right.ensures.below
    (c.square.ensures row column lt within)
