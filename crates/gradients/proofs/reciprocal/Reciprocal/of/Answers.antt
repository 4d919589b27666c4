use Rattle.std.proofs.Common.{arith}
use Rattle.gradients.proofs.Reciprocals.{full, shifted, quotient_fits, reciprocal_of}
use Rattle.gradients.proofs.reciprocal.Reciprocal.of.Goals as goal

pub nonzero_div-value : goal.nonzero_div-value
nonzero_div-value c =
    let h = full c.args.area c.requires.some (omega arith) in
    rw (shifted _ _ h) (omega (arith, h.low))

pub overflow_cast-result : goal.overflow_cast-result
overflow_cast-result c =
    let h = full c.args.area c.requires.some (omega arith) in
    rw (shifted _ _ h) (record { fits = quotient_fits _ h.low })

pub invariant_of-result : goal.invariant_of-result
invariant_of-result c =
    let h = full c.args.area c.requires.some (omega arith) in
    record { exact = rw (shifted _ _ h) (reciprocal_of c.args.area _ c.requires.some h); small = c.requires.bound }
