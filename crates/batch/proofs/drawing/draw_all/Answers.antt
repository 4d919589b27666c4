use Rattle.std.proofs.Common.{◌≡◌, ◌∙◌, ap, subst, ◌<◌, ◌≤◌, [], ◌∷◌, length, arith}
use Rattle.std.proofs.lemmas.Result.{err_from_is_err_and}
use Rattle.checks.specs.Checking.{Pass, FirstIs}
use Rattle.canvas.specs.Drawing.{HaveEnds}
use Rattle.batch.specs.Checks.{draws_checks}
use Rattle.batch.specs.Ids.{drawn_as}
use Rattle.batch.specs.Listed.{whole_draw}
use Rattle.batch.specs.Seen.{draws_seen}
use Rattle.batch.specs.OwnIndices.{indices_given, count_of_indices}
use Rattle.batch.proofs.Draws.{passed_here, ids_here, drawn_here, end_drawn}
use Rattle.batch.proofs.drawing.draw_all.Goals as goal

pub draw_one-requires : goal.draw_one-requires
draw_one-requires g c =
    let within : c.loop-draw.draw-index < length c.draws_or-listed.result.now = omega arith in
    let p = passed_here c.args.origin.now.x c.args.origin.now.y c.draws_or-listed.result.now c.loop-draw.draw-index _ within c.loop-draw.next_ids (g.V.Vertices.listed c.loop-draw.vertices_left) (indices_given c.loop-draw.indices_left) c.loop-draw.invariant.passed in
    p.0

pub triangles_of_draw-requires : goal.triangles_of_draw-requires
triangles_of_draw-requires g c =
    let within : c.loop-draw.draw-index < length c.draws_or-listed.result.now = omega arith in
    let p = passed_here c.args.origin.now.x c.args.origin.now.y c.draws_or-listed.result.now c.loop-draw.draw-index _ within c.loop-draw.next_ids (g.V.Vertices.listed c.loop-draw.vertices_left) (indices_given c.loop-draw.indices_left) c.loop-draw.invariant.passed in
    p.0.1.0

pub behind-indices_left-requires : goal.behind-indices_left-requires
behind-indices_left-requires g c =
    let within : c.loop-draw.draw-index < length c.draws_or-listed.result.now = omega arith in
    let p = passed_here c.args.origin.now.x c.args.origin.now.y c.draws_or-listed.result.now c.loop-draw.draw-index _ within c.loop-draw.next_ids (g.V.Vertices.listed c.loop-draw.vertices_left) (indices_given c.loop-draw.indices_left) c.loop-draw.invariant.passed in
    p.0.1.0

pub behind-vertices_left-requires : goal.behind-vertices_left-requires
behind-vertices_left-requires g c =
    let within : c.loop-draw.draw-index < length c.draws_or-listed.result.now = omega arith in
    let p = passed_here c.args.origin.now.x c.args.origin.now.y c.draws_or-listed.result.now c.loop-draw.draw-index _ within c.loop-draw.next_ids (g.V.Vertices.listed c.loop-draw.vertices_left) (indices_given c.loop-draw.indices_left) c.loop-draw.invariant.passed in
    p.0.0

pub after-next_ids-requires : goal.after-next_ids-requires
after-next_ids-requires g c =
    let within : c.loop-draw.draw-index < length c.draws_or-listed.result.now = omega arith in
    let origin = c.args.origin.now in
    let vertices = g.V.Vertices.listed c.loop-draw.vertices_left in
    let given = indices_given c.loop-draw.indices_left in
    rw c.triangles_of_draw.ensures (ids_here origin.x origin.y c.draws_or-listed.result.now c.loop-draw.draw-index _ within c.loop-draw.next_ids vertices given c.loop-draw.invariant.passed)

pub loop-draw-preserved : goal.loop-draw-preserved
loop-draw-preserved g c =
    let within : c.loop-draw.draw-index < length c.draws_or-listed.result.now = omega arith in
    let given = indices_given c.loop-draw.indices_left in
    let p = passed_here c.args.origin.now.x c.args.origin.now.y c.draws_or-listed.result.now c.loop-draw.draw-index _ within c.loop-draw.next_ids (g.V.Vertices.listed c.loop-draw.vertices_left) given c.loop-draw.invariant.passed in
    let rows = c.args.piece.now.rows in
    record {
      rows = c.draw_one.ensures.rows ∙ c.loop-draw.invariant.rows;
      same = c.draw_one.ensures.same ∙ c.loop-draw.invariant.same;
      passed = rw (c.after-next_ids.ensures, c.triangles_of_draw.ensures, c.behind-indices_left.ensures, c.behind-vertices_left.ensures) p.1;
      drawn = λ new later. c.loop-draw.invariant.drawn new (drawn_here c.args.has_alpha c.args.origin.now.x c.args.origin.now.y c.draws_or-listed.result.now c.loop-draw.draw-index _ within c.loop-draw.next_ids (g.V.Vertices.listed c.loop-draw.vertices_left) given rows.canvas rows.first rows.end _ _ new (rw c.loop-draw.invariant.rows at c.draw_one.ensures.drawn)
          (rw (c.after-next_ids.ensures, c.triangles_of_draw.ensures, c.behind-indices_left.ensures, c.behind-vertices_left.ensures) at later));
    }

pub returns-in_err-check_draws-clause-judged : goal.returns-in_err-check_draws-clause-judged
returns-in_err-check_draws-clause-judged g c =
    let origin = c.args.origin.now in
    let vertices = g.V.Vertices.listed c.args.vertices.now in
    let indices = indices_given c.args.indices.now in
    let one : c.whole.result ≡ whole_draw (length vertices) (count_of_indices indices) = rw (c.count.ensures, c.count-2.ensures) at c.whole.ensures in
    let listed = c.draws_or-listed.ensures vertices indices (ap (λ draw. draw ∷ []) one) in
    let p = err_from_is_err_and c.from_residual.result c.from_residual.ensures.1 in
    rw (p.1, p.2) (subst (λ draws. FirstIs (draws_checks origin.x origin.y 0 c.args.ids draws vertices indices) c.in_err-check_draws.field-0.0) listed c.in_err-check_draws.ensures)

pub returns-clause-judged : goal.returns-clause-judged
returns-clause-judged g c =
    let origin = c.args.origin.now in
    let vertices = g.V.Vertices.listed c.args.vertices.now in
    let indices = indices_given c.args.indices.now in
    let one : c.whole.result ≡ whole_draw (length vertices) (count_of_indices indices) = rw (c.count.ensures, c.count-2.ensures) at c.whole.ensures in
    let listed = c.draws_or-listed.ensures vertices indices (ap (λ draw. draw ∷ []) one) in
    (subst (λ draws. Pass (draws_checks origin.x origin.y 0 c.args.ids draws vertices indices)) listed c.in_ok-check_draws.ensures.0, record {})

pub returns-clause-drawn : goal.returns-clause-drawn
returns-clause-drawn g c =
    let origin = c.args.origin.now in
    let rows = c.args.piece.now.rows in
    let vertices = g.V.Vertices.listed c.args.vertices.now in
    let indices = indices_given c.args.indices.now in
    let past : length c.draws_or-listed.result.now ≤ c.loop-draw.draw-index = omega arith in
    let one : c.whole.result ≡ whole_draw (length vertices) (count_of_indices indices) = rw (c.count.ensures, c.count-2.ensures) at c.whole.ensures in
    let listed = c.draws_or-listed.ensures vertices indices (ap (λ draw. draw ∷ []) one) in
    subst (λ draws. HaveEnds (drawn_as c.args.ids (draws_seen c.args.has_alpha origin.x origin.y draws vertices indices)) rows.canvas rows.first rows.end c.args.piece.now.planes.now c.loop-draw.piece.planes.now) listed
    (c.loop-draw.invariant.drawn _ (end_drawn origin.x origin.y c.draws_or-listed.result.now c.loop-draw.draw-index past c.loop-draw.next_ids (g.V.Vertices.listed c.loop-draw.vertices_left) (indices_given c.loop-draw.indices_left) c.args.has_alpha rows.canvas rows.first rows.end _))
