use Rattle.std.proofs.Common.{arith}
use Rattle.gradients.proofs.CandidateLanes.{high_parts_are}
use Rattle.deep_planes.proofs.candidates.wholes.Goals as goal

pub returns-clause-length : goal.returns-clause-length
returns-clause-length c = (high_parts_are c.upper_halves.result 8 c.upper_halves.ensures.length).long

pub returns-clause-each : goal.returns-clause-each
returns-clause-each c i l =
    let lane = (high_parts_are c.upper_halves.result 8 c.upper_halves.ensures.length).each i l in
    omega (arith, lane, c.upper_halves.ensures.each i l)
