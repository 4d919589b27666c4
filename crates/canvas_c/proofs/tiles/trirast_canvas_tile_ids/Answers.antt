use Rattle.std.proofs.Common.{inl, inr, refl}
use Rattle.canvas_c.proofs.tiles.trirast_canvas_tile_ids.Goals as goal

pub returns-in-Ok-clause-status : goal.returns-in-Ok-clause-status
returns-in-Ok-clause-status c = inl (c.in-Ok.ensures.judged.0, refl)

pub returns-in-Err-clause-status : goal.returns-in-Err-clause-status
returns-in-Err-clause-status c = inr (c.in-Err.failed, c.in-Err.ensures.judged, c.number.ensures.value)
