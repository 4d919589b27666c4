use Rattle.reach.proofs.TileColumns.{misses_tile}
use Rattle.reach.proofs.tiles.misses.Goals as goal

pub returns-in-Out : goal.returns-in-Out
returns-in-Out c = λ _.
    misses_tile c.args.setup.now c.args.count c.args.side c.args.column c.args.row (rw c.pixels-blocks.ensures at c.in-Out.ensures)
