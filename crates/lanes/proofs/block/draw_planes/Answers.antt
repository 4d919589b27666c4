use Rattle.std.proofs.Common.{arith}
use Rattle.lanes.specs.Sources.{TakesGiven}
use Rattle.lanes.proofs.BlockPlanes.{and_plane}
use Rattle.lanes.proofs.block.draw_planes.Goals as goal

pub loop-s-preserved : goal.loop-s-preserved
loop-s-preserved g c =
    let D = TakesGiven c.args.merge.now c.args.depth.now c.args.colour.now in
    and_plane D c.args.mask.now c.args.samples.now c.loop-s.samples c.loop-s.s c.loop-s.invariant c.draw_by_mask.new.samples
    (omega (arith, c.requires, c.part_size-s-end.ensures, c.loop-s-test.true)) (rw c.first.ensures.value at c.draw_by_mask.ensures)

pub returns-clause-drawn : goal.returns-clause-drawn
returns-clause-drawn g c s l = c.loop-s.invariant.done s (omega (arith, c.part_size-s-end.ensures, c.loop-s-test.false))
