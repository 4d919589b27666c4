use Rattle.std.proofs.Common.{arith}
use Rattle.draw_list.specs.Primitives.{triangle_strip, quad_list}
use Rattle.draw_list.proofs.Triangulated.{length-triangles_of}
use Rattle.draw_list.proofs.primitives.Primitives.triangles.Goals as goal

pub returns-in-Strip-clause-all : goal.returns-in-Strip-clause-all
returns-in-Strip-clause-all c =
    let indices = c.in-Strip.indices in
    rw c.in-Strip.is (omega (arith, length-triangles_of (triangle_strip indices.items), c.strip_count.ensures, c.len-in-Strip.ensures, indices.ok.0))

pub returns-in-Quads-clause-all : goal.returns-in-Quads-clause-all
returns-in-Quads-clause-all c =
    let quads = c.in-Quads.quads in
    rw c.in-Quads.is (omega (arith, length-triangles_of (quad_list quads.items), c.quads_count.ensures, c.len-in-Quads.ensures, quads.ok.0))
