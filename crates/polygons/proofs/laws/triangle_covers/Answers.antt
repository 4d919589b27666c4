use Rattle.polygons.proofs.Triangle.{triangle_polygon}
use Rattle.polygons.proofs.laws.triangle_covers.Goals as goal

pub returns-clause-triangle : goal.returns-clause-triangle
returns-clause-triangle c =
    let law = triangle_polygon c.args.rule c.args.a c.args.b c.args.c c.args.p in
    (λ t. law.0 (c.polygon_covers.ensures.value.0 t), λ k. c.polygon_covers.ensures.value.1 (law.1 k))
