use Rattle.std.proofs.Common.{ltb, get_or, ap, ◌∙◌, w32}
use Rattle.std.specs.Simd.Lanes.{sel_l}
use Rattle.std.proofs.lemmas.Simd.{tops_compared}
use Rattle.gradients.proofs.Lanes.{chosen}
use Rattle.gradients.proofs.CandidateLanes.{lesser}
use Rattle.gradients.proofs.candidates.least.Goals as goal

pub returns-clause-length : goal.returns-clause-length
returns-clause-length c = rw (tops_compared w32 ltb c.args.a c.args.b) ((chosen ltb c.args.a c.args.b c.args.a c.args.b c.fits-a.0 c.fits-b.0 c.fits-a.0 c.fits-b.0).long)

pub returns-clause-each : goal.returns-clause-each
returns-clause-each c i l =
    ap (λ ms. get_or (sel_l ms c.args.a c.args.b) i 0) (tops_compared w32 ltb c.args.a c.args.b)
    ∙ (chosen ltb c.args.a c.args.b c.args.a c.args.b c.fits-a.0 c.fits-b.0 c.fits-a.0 c.fits-b.0).each i l
    ∙ lesser (get_or c.args.a i 0) (get_or c.args.b i 0)
