use Rattle.std.proofs.Common.{arith}
use Rattle.gradients.proofs.Reciprocals.{six_below}
use Rattle.gradients.proofs.reciprocal.Reciprocal.unit_bits.Goals as goal

pub returns-clause-few : goal.returns-clause-few
returns-clause-few c =
    let self = c.args.self in
    six_below self.area self.shift c.args.fraction c.saturating_sub.result self.exact.some self.exact.fits (omega (arith, c.saturating_sub.ensures, c.requires))
