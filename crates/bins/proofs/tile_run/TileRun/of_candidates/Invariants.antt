use Rattle.bins.specs.Fetched.{IsBefore}
use Rattle.bins.proofs.InRows.{HaveRuns}
use Rattle.bins.proofs.tile_run.TileRun.of_candidates.Given as goal

abbrev pub invariant-loop-place : goal.invariant-loop-place
invariant-loop-place l =
    HaveRuns l.list l.tiling l.first_row l.rows l.numbers l.place l.runs.items × IsBefore l.list l.numbers l.place l.fetched
