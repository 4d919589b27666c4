use Rattle.std.proofs.Common.{◌≡◌, arith, pos, ◌+ℤ◌, ◌*◌, ◌/◌, ◌%◌}
use Rattle.std.proofs.lemmas.Int.{ints}
use Rattle.lanes.proofs.one_by_one.sample_position.Goals as goal

pub returns : goal.returns
returns c =
    let p = c.args.p in
    let reported = rw c.unwrap.ensures at c.new.ensures.value in
    let x : c.unwrap.result.x ≡ p.x +ℤ pos (256 * (c.args.k % 8)) = omega (arith, ints, reported.0) in
    let y : c.unwrap.result.y ≡ p.y +ℤ pos (256 * (c.args.k / 8)) = omega (arith, ints, reported.1) in
    λ i. record { x = x i; y = y i }
