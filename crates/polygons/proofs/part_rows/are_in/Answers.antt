use Rattle.std.proofs.Common.{arith, ◌/◌, ◌^◌, replicate, w64}
use Rattle.polygons.proofs.MaskLanes.{itself, splat, zipped}
use Rattle.polygons.proofs.ByteSums.{none_differ}
use Rattle.polygons.proofs.part_rows.are_in.Goals as goal

pub returns : goal.returns
returns c = none_differ w64 4 _ (replicate 4 c.args.block) _ _ (omega arith) (zipped 4 (λ x k. x / 2 ^ k) _ _ _ _ (itself 4 c.args.columns c.requires) (splat 4 3)) (splat 4 c.args.block)
