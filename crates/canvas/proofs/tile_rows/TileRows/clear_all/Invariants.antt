use Rattle.shade.specs.Canvas.{with_alpha}
use Rattle.canvas.proofs.ClearedTiles.{AreTilesCleared}
use Rattle.canvas.proofs.tile_rows.TileRows.clear_all.Given as goal

abbrev pub invariant-loop-number : goal.invariant-loop-number
invariant-loop-number l = AreTilesCleared l.self.canvas l.self.first l.self.end (with_alpha l.fn.sample l.fn.alpha) l.number l.samples
