use Rattle.std.proofs.Common.{◌+◌, ◌≤◌, subst}
use Rattle.std.proofs.lemmas.List.{length-map}
use Rattle.draw_list.specs.Primitives.{count_of_triangles}
use Rattle.draw_list.proofs.Triangulated.{length-triangles_of}
use Rattle.canvas.specs.Drawing.{HaveEnds}
use Rattle.batch.specs.Listed.{primitives_listed}
use Rattle.batch.proofs.Elements.{names_seen}
use Rattle.batch.proofs.drawing.draw_primitives.Goals as goal

pub invariant_of-part : goal.invariant_of-part
invariant_of-part g c =
    let origin = c.args.origin.now in
    record {
      known = c.requires.known;
      fits = c.requires.fits;
      named = names_seen origin.x origin.y (g.V.Vertices.listed c.args.vertices) c.args.draw.now.topology (g.I.Indices.listed c.args.indices) c.requires.passed.1.1;
    }

pub invariant_of-part-in-Some : goal.invariant_of-part-in-Some
invariant_of-part-in-Some g c =
    let origin = c.args.origin.now in
    record {
      known = c.requires.known;
      fits = c.requires.fits;
      named = names_seen origin.x origin.y (g.V.Vertices.listed c.args.vertices) c.args.draw.now.topology (g.I.Indices.listed c.args.indices) c.requires.passed.1.1;
    }

pub unwrap-requires : goal.unwrap-requires
unwrap-requires g c =
    let few : c.in-Some.first + count_of_triangles (primitives_listed c.args.draw.now.topology (g.I.Indices.listed c.args.indices)) ≤ 16777216 = rw c.in-Some.is at c.requires.passed.1.0 in
    c.new.ensures.some.1 (rw (length-map, length-triangles_of) few)

pub returns-in-None-clause-drawn : goal.returns-in-None-clause-drawn
returns-in-None-clause-drawn g c =
    rw c.in-None.is (rw (c.seen_state.ensures, c.state.ensures) at c.draw.ensures.drawn)

pub returns-clause-drawn : goal.returns-clause-drawn
returns-clause-drawn g c =
    let rows = c.args.piece.now.rows in
    let numbered = subst (λ ts. HaveEnds ts rows.canvas rows.first rows.end c.args.piece.now.planes.now c.draw-in-Some.new.self.planes.now) (rw c.unwrap.ensures at c.new.ensures.listed) c.draw-in-Some.ensures.drawn in
    rw c.in-Some.is (rw (c.seen_state.ensures, c.state.ensures) at numbered)
