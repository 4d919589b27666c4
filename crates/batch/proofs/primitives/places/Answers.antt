use Rattle.std.proofs.Common.{◌≡◌, ◌%◌, refl, arith}
use Rattle.batch.proofs.primitives.places.Goals as goal

pub returns-in-0 : goal.returns-in-0
returns-in-0 c = rw c.in-0.is refl

pub returns-in-1 : goal.returns-in-1
returns-in-1 c = rw c.in-1.is refl

pub returns-in-0-2 : goal.returns-in-0-2
returns-in-0-2 c =
    let quads : c.args.topology ≡ 2 = omega arith in
    rw (quads, c.in-0-2.is) refl

pub returns-in_default-2 : goal.returns-in_default-2
returns-in_default-2 c =
    let quads : c.args.topology ≡ 2 = omega arith in
    let odd : c.args.number % 2 ≡ 1 = omega arith in
    rw (quads, odd) refl
