use Rattle.std.proofs.Common.{◌+◌, ◌*◌, ap}
use Rattle.cover.specs.Quad.{AreMasksOfQuad}
use Rattle.cover.proofs.FourSides.{quad_covered, first_parts, second_parts}
use Rattle.cover.proofs.quad.quad_masks.Goals as goal

pub returns : goal.returns
returns c =
    let q = c.args.quad.now in
    let covered : AreMasksOfQuad q c.args.bx c.args.by c.args.count c.masks.result =
    quad_covered q c.of.result c.args.bx c.args.by _ _ c.args.count c.masks.result c.of.ensures.sides (ap (λ n. 2048 * c.args.bx + n) c.box_start.ensures) (ap (λ n. 2048 * c.args.by + n) c.box_start-2.ensures) c.masks.ensures in
    record {
      covered = covered;
      first_diagonal = first_parts q c.args.bx c.args.by c.args.count c.masks.result c.of.ensures.convex covered;
      second_diagonal = second_parts q c.args.bx c.args.by c.args.count c.masks.result c.of.ensures.convex covered;
    }
