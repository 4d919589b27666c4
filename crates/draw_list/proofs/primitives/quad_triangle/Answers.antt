use Rattle.std.proofs.Common.{◌≡◌, ◌∙◌, sym, ap, ◌%◌, ◌/◌, [], get_or, arith}
use Rattle.draw_list.specs.Primitives.{quad_triangles}
use Rattle.draw_list.proofs.Triangulated.{quad_triangle_at}
use Rattle.draw_list.proofs.primitives.quad_triangle.Goals as goal

pub returns-then-number-eq0-clause-value : goal.returns-then-number-eq0-clause-value
returns-then-number-eq0-clause-value c =
    let quads = c.args.quads.now in
    let number = c.args.number in
    let first : number % 2 ≡ 0 = omega (arith, c.if-number-eq0.true) in
    sym (quad_triangle_at quads number [] c.requires ∙ ap (λ k. get_or (quad_triangles (get_or quads (number / 2) [])) k []) first)

pub returns-else-number-eq0-clause-value : goal.returns-else-number-eq0-clause-value
returns-else-number-eq0-clause-value c =
    let quads = c.args.quads.now in
    let number = c.args.number in
    let second : number % 2 ≡ 1 = omega (arith, c.if-number-eq0.false) in
    sym (quad_triangle_at quads number [] c.requires ∙ ap (λ k. get_or (quad_triangles (get_or quads (number / 2) [])) k []) second)
