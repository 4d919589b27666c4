use Rattle.std.proofs.Common.{arith}
use Rattle.polygons.proofs.Counts.{downs-append, ups-append}
use Rattle.polygons.proofs.Cancel.{crossings_add}
use Rattle.polygons.proofs.laws.count_both.Goals as goal

pub returns : goal.returns
returns c =
    let d = downs-append c.args.first.now c.args.second.now c.args.p in
    let u = ups-append c.args.first.now c.args.second.now c.args.p in
    record { downs = omega arith; ups = omega arith; sum = crossings_add c.args.first.now c.args.second.now c.args.p }
