use Rattle.std.proofs.Common.{rules, subst}
use Rattle.canvas.specs.Drawing.{AreCleared}
use Rattle.canvas.specs.Tiles.{AreUniform}
use Rattle.canvas_c.specs.Clearing.{cleared_to}
use Rattle.canvas_c.proofs.cleared.clear_into.Goals as goal

pub returns-clause-cleared : goal.returns-clause-cleared
returns-clause-cleared c =
    let rows = c.in_ok-rows.rows in
    record { rows = rows; are = c.in_ok-rows.ensures.judged.1; holds = subst (AreCleared rows.canvas rows.first rows.end (cleared_to c.args.head.now c.args.clear.now)) (search rules) (rw (c.over-piece.ensures.rows, c.alpha_of-alpha.ensures) at c.clear.ensures.cleared) }

pub returns-clause-uniform : goal.returns-clause-uniform
returns-clause-uniform c =
    let rows = c.in_ok-rows.rows in
    record { rows = rows; are = c.in_ok-rows.ensures.judged.1; holds = subst (AreUniform rows.canvas rows.first rows.end) (search rules) (rw c.over-piece.ensures.rows at c.clear.ensures.uniform) }
