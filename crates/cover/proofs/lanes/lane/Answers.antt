use Rattle.cover.proofs.TwoRows.{IsExactLane, exact_lane}
use Rattle.cover.proofs.lanes.lane.Goals as goal

lane : (c : goal.Start) → IsExactLane c.args.right c.args.column c.args.down c.args.row
lane c = exact_lane c.args.right c.args.column c.args.down c.args.row c.requires.right c.requires.column c.requires.down c.requires.row

pub overflow_add-result : goal.overflow_add-result
overflow_add-result c = (lane c).fits

pub returns : goal.returns
returns c = (lane c).value
