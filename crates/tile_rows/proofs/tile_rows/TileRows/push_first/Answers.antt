use Rattle.tiling.proofs.JoinedRows.{added_by_names}
use Rattle.tile_rows.proofs.tile_rows.TileRows.push_first.Goals as goal

pub draw_alone-requires-clause-store : goal.draw_alone-requires-clause-store
draw_alone-requires-clause-store g c κs within = rw (c.others-row.ensures.0, c.others-row.ensures.1) c.requires.store

pub draw_alone-requires-clause-bins : goal.draw_alone-requires-clause-bins
draw_alone-requires-clause-bins g c κs within = rw (c.others-row.ensures.0, c.others-row.ensures.1, c.others-row.ensures.2, c.others-row.ensures.3) c.in_ok-make_ready.ensures.first

pub returns-clause-bytes : goal.returns-clause-bytes
returns-clause-bytes g c =
    let s = c.args.self.now in
    let row = c.others-row.result in
    added_by_names s.list.now row.list.now s.tiling.now row.tiling.now s.first row.first row.end _ _ c.others-row.ensures.0 c.others-row.ensures.1 c.others-row.ensures.2 c.others-row.ensures.3 c.in_ok-join.ensures.bytes
