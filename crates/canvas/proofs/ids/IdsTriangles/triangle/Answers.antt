use Rattle.std.proofs.Common.{◌∙◌, Some, ap, sym, arith}
use Rattle.canvas.proofs.Sources.{length-with_ids, with_ids_at}
use Rattle.canvas.proofs.ids.IdsTriangles.triangle.Goals as goal

pub triangle-requires : goal.triangle-requires
triangle-requires g c = omega (arith, c.requires, length-with_ids (g.S.Triangles.listed c.args.self.now.source.now) c.args.self.now.first)

pub overflow_add-self : goal.overflow_add-self
overflow_add-self g c = omega (arith, c.requires, c.args.self.now.few, length-with_ids (g.S.Triangles.listed c.args.self.now.source.now) c.args.self.now.first)

pub returns : goal.returns
returns g c = with_ids_at (g.S.Triangles.listed c.args.self.now.source.now) c.args.self.now.first c.args.number _ c.triangle.ensures ∙ ap Some (sym c.with_id.ensures)
