use Rattle.std.proofs.Common.{◌≡◌, arith, pos, ◌+ℤ◌, ◌*◌, ◌/◌, ◌%◌}
use Rattle.std.proofs.lemmas.Int.{ints}
use Rattle.deep_planes.proofs.deep_plane.lane_point.Goals as goal

pub returns : goal.returns
returns c =
    let reported = rw c.unwrap.ensures at c.new.ensures.value in
    let x : c.unwrap.result.x ≡ c.args.x +ℤ pos (256 * (c.args.lane % 8)) = omega (arith, ints, reported.0) in
    let y : c.unwrap.result.y ≡ c.args.y +ℤ pos (256 * (c.args.lane / 8)) = omega (arith, ints, reported.1) in
    λ i. record { x = x i; y = y i }
