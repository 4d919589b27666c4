use Rattle.polygons.proofs.Quads.{quad_polygon}
use Rattle.polygons.proofs.laws.quad_covers.Goals as goal

pub returns-clause-polygon : goal.returns-clause-polygon
returns-clause-polygon c =
    let q = c.args.quad.now in
    let law = quad_polygon c.args.rule q.a q.b q.c q.d c.args.p c.covers.ensures.split.first in
    (λ t. law.1 (c.covers.ensures.value.0 t), λ k. c.covers.ensures.value.1 (law.0 k))
