use Rattle.std.proofs.Common.{◌-◌, min}
use Rattle.bins.specs.TileRuns.{AreTileRuns}
use Rattle.bins.proofs.tile_run.push_runs.Given as goal

abbrev pub invariant-loop-row : goal.invariant-loop-row
invariant-loop-row l = AreTileRuns l.list l.tiling l.first_row l.rows l.number (min l.rows (l.row - l.first_row)) l.runs.items
