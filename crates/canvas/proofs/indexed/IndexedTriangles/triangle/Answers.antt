use Rattle.std.proofs.Common.{◌∙◌, ◌<◌, [], Some, length, ap, sym, arith}
use Rattle.std.proofs.lemmas.List.{length-map}
use Rattle.canvas.specs.Indexed.{placed_by}
use Rattle.canvas.proofs.Sources.{mapped_or}
use Rattle.canvas.proofs.indexed.IndexedTriangles.triangle.Goals as goal

pub returns : goal.returns
returns c =
    let self = c.args.self.now in
    let f = placed_by self.vertices.now self.state in
    let less : c.args.number < length self.triangles.now = omega (arith, c.requires, length-map self.triangles.now f) in
    mapped_or f self.triangles.now c.args.number [] less ∙ ap Some (sym c.placed.ensures)
