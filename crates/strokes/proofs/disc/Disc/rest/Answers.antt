use Rattle.std.proofs.Common.{◌≡◌, arith, ◌-ℤ◌, w32, to_z, of_z}
use Rattle.std.proofs.lemmas.Int.{ints}
use Rattle.strokes.proofs.disc.Disc.rest.Goals as goal

pub returns-clause-value : goal.returns-clause-value
returns-clause-value c =
    let d : to_z w32 (of_z w32 (to_z w32 (of_z w32 c.args.y) -ℤ to_z w32 (of_z w32 c.y.result))) ≡ c.args.y -ℤ c.args.self.now.center.y =
    omega (arith, ints, c.requires.low, c.requires.high, c.y.ensures.in_band.low, c.y.ensures.in_band.high, c.y.ensures.value) in
    let s = rw d at c.squared.ensures.value in
    omega (arith, ints, s, c.squared.ensures.size, c.square.ensures.value, c.square.ensures.size)

pub overflow_sub-result : goal.overflow_sub-result
overflow_sub-result c = omega (arith, ints, c.squared.ensures.size, c.square.ensures.size)

pub returns-clause-size : goal.returns-clause-size
returns-clause-size c = record {
  low = omega (arith, ints, c.squared.ensures.size, c.square.ensures.size);
  high = omega (arith, ints, c.squared.ensures.size, c.square.ensures.size);
}
