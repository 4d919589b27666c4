use Rattle.std.proofs.Common.{◌∙◌, sym}
use Rattle.std.proofs.lemmas.List.{length-map}
use Rattle.canvas.specs.Window.{moved}
use Rattle.canvas.proofs.window.WindowTriangles.count.Goals as goal

pub returns : goal.returns
returns g c = c.count.ensures ∙ sym (length-map (g.S.Triangles.listed c.args.self.now.source.now) (moved c.args.self.now.origin.x c.args.self.now.origin.y))
