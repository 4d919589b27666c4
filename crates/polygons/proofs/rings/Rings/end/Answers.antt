use Rattle.polygons.proofs.RingParts.{last_within}
use Rattle.polygons.proofs.rings.Rings.end.Goals as goal

pub returns-in-len1-up-clause-within : goal.returns-in-len1-up-clause-within
returns-in-len1-up-clause-within c =
    let rings = c.args.self.now in
    last_within rings.start rings.ends.now _ rings.rising c.in-len1-up.len_at_least
