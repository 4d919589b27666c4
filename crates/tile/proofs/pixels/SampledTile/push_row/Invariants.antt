use Rattle.std.proofs.Common.{◌+◌, ◌*◌, min}
use Rattle.draw_list.specs.PixelPrefix.{IsPixelPrefix}
use Rattle.tile.proofs.pixels.SampledTile.push_row.Given as goal

abbrev pub invariant-loop-column : goal.invariant-loop-column
invariant-loop-column l = IsPixelPrefix l.self.list.now (8 * l.self.tile.now.bx) (8 * l.self.tile.now.by) l.width (l.row * l.width + min (8 * l.column) l.width) l.bytes.items
