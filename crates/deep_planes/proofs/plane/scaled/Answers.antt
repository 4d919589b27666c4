use Rattle.gradients.proofs.Modulos.{scaled_is}
use Rattle.deep_planes.proofs.plane.scaled.Goals as goal

pub returns : goal.returns
returns c = scaled_is c.args.distance c.from.result c.args.gradient _ _ c.ranges.distance c.ranges.gradient c.from.ensures c.cast_unsigned.ensures c.cast_unsigned-2.ensures
