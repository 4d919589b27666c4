use Rattle.std.proofs.Common.{◌∙◌, sym}
use Rattle.std.proofs.lemmas.List.{length-map}
use Rattle.draw_list.specs.Primitives.{triangles_of}
use Rattle.draw_list.proofs.Triangulated.{length-triangles_of}
use Rattle.batch.specs.Listed.{primitives_listed}
use Rattle.batch.specs.Parts.{seen_from}
use Rattle.batch.proofs.part.PartTriangles.count.Goals as goal

pub returns : goal.returns
returns g c =
    let part = c.args.self.now in
    let listed = g.I.Indices.listed part.indices in
    c.triangle_count.ensures.value listed (sym c.count.ensures)
    ∙ sym (length-map (triangles_of (primitives_listed part.topology listed)) (seen_from part.origin part.state (g.V.Vertices.listed part.vertices)) ∙ length-triangles_of (primitives_listed part.topology listed))
