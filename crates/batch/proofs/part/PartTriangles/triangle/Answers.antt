use Rattle.std.proofs.Common.{◌∙◌, ◌<◌, [], List, ℕ, Some, length, ap, sym, arith}
use Rattle.std.proofs.lemmas.List.{length-map}
use Rattle.draw_list.specs.Primitives.{triangles_of}
use Rattle.draw_list.proofs.Triangulated.{length-triangles_of}
use Rattle.batch.specs.Listed.{primitives_listed}
use Rattle.canvas.proofs.Sources.{mapped_or}
use Rattle.batch.specs.Parts.{seen_from}
use Rattle.batch.proofs.part.PartTriangles.triangle.Goals as goal

pub triangle-indices-requires-clause-number : goal.triangle-indices-requires-clause-number
triangle-indices-requires-clause-number g c =
    let part = c.args.self.now in
    let triangles : List (List ℕ) = triangles_of (primitives_listed part.topology (g.I.Indices.listed part.indices)) in
    omega (arith, c.requires, length-map triangles (seen_from part.origin part.state (g.V.Vertices.listed part.vertices)), length-triangles_of (primitives_listed part.topology (g.I.Indices.listed part.indices)))

pub seen_triangle-requires : goal.seen_triangle-requires
seen_triangle-requires g c = c.triangle-indices.ensures.named _ _ _ c.args.self.now.named

pub returns : goal.returns
returns g c =
    let part = c.args.self.now in
    let triangles : List (List ℕ) = triangles_of (primitives_listed part.topology (g.I.Indices.listed part.indices)) in
    let seen = seen_from part.origin part.state (g.V.Vertices.listed part.vertices) in
    let less : c.args.number < length triangles = omega (arith, c.requires, length-map triangles seen) in
    mapped_or seen triangles c.args.number [] less ∙ ap Some (sym (c.seen_triangle.ensures ∙ ap seen c.triangle-indices.ensures.value))
