use Rattle.std.proofs.Common.{◌≡◌, arith}
use Rattle.draw_list.proofs.PixelPrefix.{part_of_rows}
use Rattle.draw_list.proofs.Unique.{part-unique}
use Rattle.reference.proofs.picture.render.Goals as goal

pub returns-clause-picture : goal.returns-clause-picture
returns-clause-picture c =
    let list = c.args.list.now in
    let all : c.loop-py.py ≡ list.height = omega arith in
    part_of_rows list 0 0 list.width list.height _ (rw all at c.loop-py.invariant)

pub returns-clause-only : goal.returns-clause-only
returns-clause-only c = λ other h.
    let list = c.args.list.now in
    let all : c.loop-py.py ≡ list.height = omega arith in
    part-unique list 0 0 list.width list.height other _ h (part_of_rows list 0 0 list.width list.height _ (rw all at c.loop-py.invariant))
