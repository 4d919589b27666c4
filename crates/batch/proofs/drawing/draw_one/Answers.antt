use Rattle.std.proofs.Common.{subst, take, List, ℕ, Option, Some, None, arith}
use Rattle.std.specs.List.{range_with_len}
use Rattle.std.proofs.lemmas.List.FromFn.{length-range_with_len}
use Rattle.draw_list.specs.Primitives.{triangles_of}
use Rattle.canvas.specs.Drawing.{HaveEnds}
use Rattle.batch.specs.Ids.{drawn_as}
use Rattle.batch.specs.Listed.{primitives_listed}
use Rattle.batch.proofs.Corners.{seen_all}
use Rattle.batch.proofs.drawing.draw_one.Goals as goal

pub draw_primitives-requires-in-InOrder-clause-fits : goal.draw_primitives-requires-in-InOrder-clause-fits
draw_primitives-requires-in-InOrder-clause-fits g c = omega (arith, length-range_with_len 0 c.args.draw.now.vertices, c.first-own.ensures.few)

pub returns-in-Words-clause-drawn : goal.returns-in-Words-clause-drawn
returns-in-Words-clause-drawn g c =
    let rows = c.args.piece.now.rows in
    let draw = c.args.draw.now in
    let origin = c.args.origin.now in
    let given : Option (List ℕ) = Some c.in-Words.all.now in
    rw c.in-Words.is
    (subst (λ ts. HaveEnds (drawn_as c.args.ids ts) rows.canvas rows.first rows.end c.args.piece.now.planes.now c.draw_primitives.new.piece.planes.now)
    (seen_all c.args.has_alpha origin.x origin.y draw (g.V.Vertices.listed c.args.vertices.now) given (triangles_of (primitives_listed draw.topology (take draw.indices c.in-Words.all.now)))) (rw c.first-own.ensures.value at c.draw_primitives.ensures.drawn))

pub returns-in-Halves-clause-drawn : goal.returns-in-Halves-clause-drawn
returns-in-Halves-clause-drawn g c =
    let rows = c.args.piece.now.rows in
    let draw = c.args.draw.now in
    let origin = c.args.origin.now in
    let given : Option (List ℕ) = Some c.in-Halves.all.now in
    rw c.in-Halves.is
    (subst (λ ts. HaveEnds (drawn_as c.args.ids ts) rows.canvas rows.first rows.end c.args.piece.now.planes.now c.draw_primitives-in-Halves.new.piece.planes.now)
    (seen_all c.args.has_alpha origin.x origin.y draw (g.V.Vertices.listed c.args.vertices.now) given (triangles_of (primitives_listed draw.topology (take draw.indices c.in-Halves.all.now)))) (rw c.first-own.ensures.value at c.draw_primitives-in-Halves.ensures.drawn))

pub returns-in-InOrder-clause-drawn : goal.returns-in-InOrder-clause-drawn
returns-in-InOrder-clause-drawn g c =
    let rows = c.args.piece.now.rows in
    let draw = c.args.draw.now in
    let origin = c.args.origin.now in
    let given : Option (List ℕ) = None in
    rw c.in-InOrder.is
    (subst (λ ts. HaveEnds (drawn_as c.args.ids ts) rows.canvas rows.first rows.end c.args.piece.now.planes.now c.draw_primitives-in-InOrder.new.piece.planes.now)
    (seen_all c.args.has_alpha origin.x origin.y draw (g.V.Vertices.listed c.args.vertices.now) given (triangles_of (primitives_listed draw.topology (range_with_len 0 draw.vertices)))) (rw c.first-own.ensures.value at c.draw_primitives-in-InOrder.ensures.drawn))
