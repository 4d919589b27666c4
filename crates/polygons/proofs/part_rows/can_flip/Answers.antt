use Rattle.std.proofs.Common.{arith, replicate, bit_and, w64}
use Rattle.polygons.proofs.MaskLanes.{itself, splat, zipped}
use Rattle.polygons.proofs.ByteSums.{none_differ}
use Rattle.polygons.proofs.part_rows.can_flip.Goals as goal

pub returns-in-NonZero : goal.returns-in-NonZero
returns-in-NonZero c =
    let none = none_differ w64 4 _ (replicate 4 0) _ _ (omega arith) (zipped 4 bit_and _ _ _ _ (itself 4 c.args.words c.requires.words) (itself 4 c.args.bits c.requires.bits)) (splat 4 0) in
    (λ t _. none.0 t, λ all. none.1 (all c.in-NonZero.is))
