use Rattle.std.proofs.Common.{arith}
use Rattle.std.proofs.lemmas.Int.{ints}
use Rattle.shade.proofs.Resolved.{few_samples}
use Rattle.raster.proofs.pixel_row.logarithm_and_half.Goals as goal

pub returns-clause-half : goal.returns-clause-half
returns-clause-half c = omega (arith, ints, few_samples c.args.count, c.count.ensures)
