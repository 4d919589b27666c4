use Rattle.std.proofs.Common.{◌≡◌, refl, arith, ◌/◌, ◌%◌, ◌<ℤ◌, pos}
use Rattle.std.proofs.lemmas.Int.{ints}
use Rattle.std.specs.Int.RustNames.{unsigned_abs}
use Rattle.shade.proofs.Steps.{split_negative, code_quotient}
use Rattle.shade.proofs.step.split.Goals as goal

pub returns-else-remainder-eq0 : goal.returns-else-remainder-eq0
returns-else-remainder-eq0 c =
    let n = c.unsigned_abs-size.result in
    let few = code_quotient n c.args.area c.requires.some (omega (arith, ints, c.unsigned_abs-size.ensures.value, c.requires.size)) in
    let negative : c.args.change <ℤ pos 0 = omega (arith, ints, c.if-change-ge0.false, c.requires.size) in
    let size : n ≡ unsigned_abs c.args.change = omega (arith, ints, c.unsigned_abs-size.ensures.value, c.requires.size) in
    rw few (split_negative c.args.change n c.args.area (n / c.args.area) (n % c.args.area) c.requires.some c.requires.bound c.requires.size negative size refl refl c.if-remainder-eq0.false)
