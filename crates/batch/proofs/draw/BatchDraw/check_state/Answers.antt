use Rattle.std.proofs.Common.{rules, inl, inr, refl, arith}
use Rattle.batch.specs.Equations.{HasKnownFactors, HasKnownOperations}
use Rattle.batch.proofs.draw.BatchDraw.check_state.Goals as goal

pub returns-then-not-has_factors : goal.returns-then-not-has_factors
returns-then-not-has_factors c =
    let lacks : ¬ HasKnownFactors c.args.self.now.blend = search rules in
    inr (omega arith, inr (omega arith, inr (omega arith, inr (omega arith, inr (omega arith, inr (omega arith, inl (lacks, refl)))))))

pub returns-then-not-has_operations : goal.returns-then-not-has_operations
returns-then-not-has_operations c =
    let has : HasKnownFactors c.args.self.now.blend = c.has_factors.ensures.0 (search rules) in
    let lacks : ¬ HasKnownOperations c.args.self.now.blend = search rules in
    inr (omega arith, inr (omega arith, inr (omega arith, inr (omega arith, inr (omega arith, inr (omega arith, inr (has, inl (lacks, refl))))))))
