use Rattle.canvas.proofs.Masks.{item_found}
use Rattle.canvas.proofs.Shown.{begins}
use Rattle.canvas.proofs.triangles.draw_first.Goals as goal

pub returns-in-Some-clause-drawn : goal.returns-in-Some-clause-drawn
returns-in-Some-clause-drawn c =
    let inside = c.in-Some.ensures.within in
    begins c.args.chunk.now c.args.tile.now c.in-Some.k c.index-chunk-k.result _ _ inside (item_found c.args.chunk.now c.in-Some.k c.index-chunk-k.result inside c.index-chunk-k.is) c.in-Some.ensures.first c.draw_triangle.ensures
