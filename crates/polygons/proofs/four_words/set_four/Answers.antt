use Rattle.std.proofs.Common.{ap, ◌∙◌, arith, ◌+◌, ◌*◌, ◌≤◌, length, slice_index}
use Rattle.polygons.proofs.ByteSums.{put, part_set, part_apart}
use Rattle.polygons.proofs.four_words.set_four.Goals as goal

pub returns-clause-set : goal.returns-clause-set
returns-clause-set c w l =
    let a = 4 * c.args.row in
    let words = c.args.words.now in
    let inside : a + 4 ≤ length words = omega (arith, c.requires.row, c.told-words) in
    ap (λ v. slice_index v (a + w)) (put a 4 words c.args.four inside c.requires.whole) ∙ part_set a 4 words c.args.four (omega (arith, inside)) c.requires.whole w l

pub returns-clause-others : goal.returns-clause-others
returns-clause-others c i n =
    let a = 4 * c.args.row in
    let words = c.args.words.now in
    let inside : a + 4 ≤ length words = omega (arith, c.requires.row, c.told-words) in
    ap (λ v. slice_index v i) (put a 4 words c.args.four inside c.requires.whole) ∙ part_apart a 4 words c.args.four (omega (arith, inside)) c.requires.whole i (λ l m. n (omega arith))
