use Rattle.std.proofs.Common.{arith}
use Rattle.std.proofs.lemmas.Simd.{Each2-splat, Each1-all}
use Rattle.lanes.proofs.Lanewise.{by_255}
use Rattle.lanes.proofs.arithmetic.by_255.Goals as goal

pub nonzero_div-result : goal.nonzero_div-result
nonzero_div-result c = Each2-splat _ c.args.n 16 255 (Each1-all _ (λ a. omega arith) c.args.n)

pub returns : goal.returns
returns c = by_255 c.args.n c.fits-n.0
