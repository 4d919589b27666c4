use Rattle.tile_rows.proofs.Having.{have_first}
use Rattle.tile_rows.proofs.tile_rows.TileRows.make_ready.Goals as goal

pub returns-clause-first : goal.returns-clause-first
returns-clause-first c = have_first _ _ _ _ c.in_ok-bins.ensures
