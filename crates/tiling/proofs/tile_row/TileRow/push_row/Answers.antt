use Rattle.std.proofs.Common.{rules}
use Rattle.tiling.proofs.Columns.{column_added}
use Rattle.tiling.proofs.tile_row.TileRow.push_row.Goals as goal

pub loop-column-preserved : goal.loop-column-preserved
loop-column-preserved c =
    column_added c.args.self.now.list.now c.args.self.now.tiling.now _ c.loop-column.column c.args.bytes.now.items c.loop-column.bytes.items _ _ (search rules) c.args.self.now.width c.loop-column.invariant c.row_of.ensures c.in_ok-extend_from_slice.ensures.items
