use Rattle.std.proofs.Common.{arith}
use Rattle.tile_rows.specs.TileRows.{AreBinsOf}
use Rattle.tile_rows.proofs.Having.{have_all, tiles_of_answers}
use Rattle.tile_rows.proofs.tile_rows.TileRows.draw.Goals as goal
use Rattle.tile_rows.proofs.tile_rows.TileRows.draw.Goals.{in-Some, in-None+in-Ok}

pub run_beside-requires-clause-can_work : goal.run_beside-requires-clause-can_work
run_beside-requires-clause-can_work g c κs within worker k below inside entered =
    let s = c.args.self.now in
    let are : AreBinsOf s c.match-bins.bins = elim c.match-bins.branch [
      | in-Some w ↦ rw w.bins-is (rw w.in-Some.is at c.requires.bins)
      | in-None+in-Ok w ↦ rw w.bins-is w.in-Ok.ensures
    ] in
    (omega (arith, inside, c.tiles-2.ensures.value), have_all s.list.now s.tiling.now s.first s.end _ are, (worker, entered))

pub returns-clause-tiles : goal.returns-clause-tiles
returns-clause-tiles g c =
    let s = c.args.self.now in
    tiles_of_answers s.list.now s.tiling.now s.first s.end _ _ c.tiles-2.ensures.value c.run_beside.ensures.len c.run_beside.ensures.right
