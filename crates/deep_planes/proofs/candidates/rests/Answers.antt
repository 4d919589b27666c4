use Rattle.std.proofs.lemmas.List.{map-id}
use Rattle.gradients.proofs.CandidateLanes.{rests_are, rest_modulo}
use Rattle.deep_planes.proofs.candidates.rests.Goals as goal

pub returns-clause-length : goal.returns-clause-length
returns-clause-length c =
    rw (map-id c.args.depths) ((rests_are c.args.numerators c.args.depths c.args.divisor c.fits-numerators.0 c.fits-depths.0).long)

pub returns-clause-each : goal.returns-clause-each
returns-clause-each c i n l modulo =
    rw (map-id c.args.depths) (rest_modulo c.args.numerators c.args.depths c.args.divisor i n c.fits-numerators.0 c.fits-depths.0 l modulo)
