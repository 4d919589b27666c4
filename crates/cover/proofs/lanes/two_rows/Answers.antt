use Rattle.cover.proofs.TwoRows.{two_rows_are}
use Rattle.cover.proofs.lanes.two_rows.Goals as goal

pub returns : goal.returns
returns c = two_rows_are c.args.right c.args.down c.requires.right c.requires.down
