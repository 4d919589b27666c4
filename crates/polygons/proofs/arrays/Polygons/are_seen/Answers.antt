use Rattle.std.proofs.Common.{rules}
use Rattle.polygons.proofs.Seen.{polygon_seen}
use Rattle.polygons.proofs.arrays.Polygons.are_seen.Goals as goal

pub returns-clause-seen : goal.returns-clause-seen
returns-clause-seen c none k l =
    let p = c.args.self.now in
    polygon_seen p.corners.now p.ring_ends.now p.polygon_ends.now k (p.checked.seen (search rules))
