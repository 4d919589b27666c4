use Rattle.std.proofs.Common.{ap, ◌∙◌, arith, ◌+◌, ◌*◌, ◌≤◌, length, slice_index}
use Rattle.polygons.proofs.ByteSums.{put, part_set, part_apart}
use Rattle.polygons.proofs.four_sums.set_sums.Goals as goal

pub returns-clause-set : goal.returns-clause-set
returns-clause-set c q l =
    let a = 32 * c.args.row in
    let sums = c.args.sums.now in
    let inside : a + 32 ≤ length sums = omega (arith, c.requires.row, c.told-sums) in
    ap (λ v. slice_index v (a + q)) (put a 32 sums c.args.ends inside c.requires.whole) ∙ part_set a 32 sums c.args.ends (omega (arith, inside)) c.requires.whole q l

pub returns-clause-others : goal.returns-clause-others
returns-clause-others c q n =
    let a = 32 * c.args.row in
    let sums = c.args.sums.now in
    let inside : a + 32 ≤ length sums = omega (arith, c.requires.row, c.told-sums) in
    ap (λ v. slice_index v q) (put a 32 sums c.args.ends inside c.requires.whole) ∙ part_apart a 32 sums c.args.ends (omega (arith, inside)) c.requires.whole q (λ l m. n (omega arith))
