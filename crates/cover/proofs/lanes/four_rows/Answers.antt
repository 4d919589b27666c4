use Rattle.cover.proofs.TwoRows.{four_rows_are}
use Rattle.cover.proofs.lanes.four_rows.Goals as goal

pub returns : goal.returns
returns c =
    four_rows_are c.args.right c.args.down c.requires.right c.requires.down _ _ _ _ _ _ _ _ _ _ _ _ _ _ _ _
    c.lane.ensures c.lane-2.ensures c.lane-3.ensures c.lane-4.ensures c.lane-5.ensures c.lane-6.ensures c.lane-7.ensures c.lane-8.ensures
    c.lane-9.ensures c.lane-10.ensures c.lane-11.ensures c.lane-12.ensures c.lane-13.ensures c.lane-14.ensures c.lane-15.ensures c.lane-16.ensures
