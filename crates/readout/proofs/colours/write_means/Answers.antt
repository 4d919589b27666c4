use Rattle.readout.proofs.Written.{by_means}
use Rattle.readout.proofs.colours.write_means.Goals as goal

pub returns : goal.returns
returns g c = by_means c.args.rows.now c.args.rows.now.tile_rows.canvas.count c.args.planes.now c.means_of_block.new.means c.args.across c.args.down c.block_in_tile-k.result c.args.format c.args.bytes.now _ c.block_in_tile-k.ensures.value c.means_of_block.ensures c.resolve_block_by.ensures
