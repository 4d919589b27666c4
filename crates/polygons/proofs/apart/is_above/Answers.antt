use Rattle.std.proofs.Common.{arith, pos, w32, to_z, of_z, ◌*ℤ◌}
use Rattle.std.proofs.lemmas.Int.{ints, clamps}
use Rattle.polygons.proofs.Tests.{le_yes, le_is}
use Rattle.polygons.proofs.apart.is_above.Goals as goal

pub returns : goal.returns
returns c =
    let most = c.max.ensures.value in
    let low = c.requires.low in let high = c.requires.high in
    let end = to_z w32 (of_z w32 c.max.result) in
    let border = to_z w32 (of_z w32 (pos 256 *ℤ to_z w32 (of_z w32 c.args.row))) in (
      λ t. let le = le_is end border t in (omega (arith, ints, clamps), omega (arith, ints, clamps)),
      λ ends. let a = ends.0 in let b = ends.1 in le_yes end border (omega (arith, ints, clamps)),
    )
