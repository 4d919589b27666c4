use Rattle.std.proofs.Common.{◌≡◌, ◌*◌, ◌-◌, ◌%◌, ◌^◌, arith, rules}
use Rattle.std.proofs.lemmas.Int.{ints}
use Rattle.std.proofs.lemmas.Nat.{shl_whole}
use Rattle.std.specs.Int.RustNames.{unsigned_abs}
use Rattle.gradients.proofs.reciprocal.Reciprocal.is_level.Goals as goal

pub returns : goal.returns
returns c =
    let whole : c.args.self.area * 2 ^ (63 - c.args.bits) % 2 ^ 64 ≡ c.args.self.area * 2 ^ (63 - c.args.bits) =
    shl_whole c.args.self.area 49 (63 - c.args.bits) 64 (omega (arith, c.args.self.small)) (omega (arith, c.requires.low)) in
    let size : c.unsigned_abs.result ≡ unsigned_abs c.args.number = omega (arith, ints, c.unsigned_abs.ensures.value) in
    rw (whole, size) (search rules)
