use Rattle.std.proofs.Common.{◌≡◌, ◌+◌, ◌*◌, arith, subst}
use Rattle.lanes.specs.Sources.{TakesGiven}
use Rattle.lanes.proofs.Blocks.{IsDrawnBefore, and_next, all_done}
use Rattle.lanes.proofs.block.draw_block.Goals as goal

pub loop-group-preserved : goal.loop-group-preserved
loop-group-preserved g c =
    let D = TakesGiven c.args.merge.now c.args.depth.now c.args.colour.now in
    let next : 16 * c.loop-group.group + 16 ≡ 16 * (c.loop-group.group + 1) = omega arith in
    subst (IsDrawnBefore D c.args.p c.args.mask _ _) next
    (and_next D c.args.p c.args.mask _ _ _ (16 * c.loop-group.group) 16 (omega arith) c.loop-group.invariant c.draw_rows.ensures)

pub returns : goal.returns
returns g c =
    let end : c.loop-group.group ≡ 4 = omega arith in
    all_done (TakesGiven c.args.merge.now c.args.depth.now c.args.colour.now) c.args.p c.args.mask _ _ (rw end at c.loop-group.invariant)
