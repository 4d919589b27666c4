use Rattle.std.proofs.lemmas.List.{map-id}
use Rattle.gradients.proofs.CandidateLanes.{rests_are, rest_modulo}
use Rattle.gradients.proofs.candidates.rests.Goals as goal

pub returns-clause-length : goal.returns-clause-length
returns-clause-length c =
    rw (map-id c.args.values) ((rests_are c.args.numerators c.args.values c.args.area c.fits-numerators.0 c.fits-values.0).long)

pub returns-clause-each : goal.returns-clause-each
returns-clause-each c i n l modulo =
    rw (map-id c.args.values) (rest_modulo c.args.numerators c.args.values c.args.area i n c.fits-numerators.0 c.fits-values.0 l modulo)
