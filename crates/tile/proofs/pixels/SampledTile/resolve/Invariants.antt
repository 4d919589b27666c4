use Rattle.std.proofs.Common.{◌*◌}
use Rattle.draw_list.specs.PixelPrefix.{IsPixelPrefix}
use Rattle.tile.proofs.pixels.SampledTile.resolve.Given as goal

abbrev pub invariant-loop-row : goal.invariant-loop-row
invariant-loop-row l = IsPixelPrefix l.self.list.now (8 * l.self.tile.now.bx) (8 * l.self.tile.now.by) l.width (l.row * l.width) l.bytes.items
