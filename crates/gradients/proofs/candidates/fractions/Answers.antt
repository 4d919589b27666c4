use Rattle.std.proofs.Common.{get_or, replicate, ap, ◌∙◌, bit_and}
use Rattle.std.proofs.lemmas.Nat.{and_mask}
use Rattle.gradients.proofs.Lanes.{itself, zipped, splat}
use Rattle.gradients.proofs.candidates.fractions.Goals as goal

pub returns-clause-length : goal.returns-clause-length
returns-clause-length c = (zipped (λ x y. bit_and x y) c.args.candidates (replicate 16 c.args.mask) _ _ (itself c.args.candidates c.fits-candidates.0) (splat c.args.mask)).long

pub returns-clause-each : goal.returns-clause-each
returns-clause-each c i k l e =
    (zipped (λ x y. bit_and x y) c.args.candidates (replicate 16 c.args.mask) _ _ (itself c.args.candidates c.fits-candidates.0) (splat c.args.mask)).each i l
    ∙ ap (λ m. bit_and (get_or c.args.candidates i 0) m) e ∙ and_mask (get_or c.args.candidates i 0) k
