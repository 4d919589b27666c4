use Rattle.std.proofs.Common.{◌≡◌, ◌+◌, ◌-◌, ◌*◌, ◌%◌, ◌^◌, arith}
use Rattle.gradients.proofs.Gradients.{shifted_enough, upper_half}
use Rattle.gradients.proofs.reciprocal.Reciprocal.quotient.Goals as goal

pub overflow_sub-shifted : goal.overflow_sub-shifted
overflow_sub-shifted c =
    let r = c.args.self in
    shifted_enough r.area r.shift r.value c.args.bits r.exact r.small c.requires.low

pub returns : goal.returns
returns c =
    let r = c.args.self in
    let half = upper_half c.args.number r.area c.args.bits r.shift r.value r.exact r.small c.requires.low c.requires.high c.requires.level in
    let whole : c.args.number * 2 ^ (r.shift + c.args.bits - 63) % 2 ^ 64 ≡ c.args.number * 2 ^ (r.shift + c.args.bits - 63) = omega (arith, half.fits) in
    rw whole half.below
