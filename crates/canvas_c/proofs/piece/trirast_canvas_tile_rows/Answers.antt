use Rattle.std.proofs.Common.{refl}
use Rattle.canvas_c.proofs.piece.trirast_canvas_tile_rows.Goals as goal

pub returns-in-Some-clause-none : goal.returns-in-Some-clause-none
returns-in-Some-clause-none c = λ none. absurd (none (c.in-Some.ensures.some.0 refl))
