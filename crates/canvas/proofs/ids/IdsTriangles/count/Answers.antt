use Rattle.std.proofs.Common.{◌∙◌, sym}
use Rattle.canvas.proofs.Sources.{length-with_ids}
use Rattle.canvas.proofs.ids.IdsTriangles.count.Goals as goal

pub returns : goal.returns
returns g c = c.count.ensures ∙ sym (length-with_ids _ c.args.self.now.first)
