use Rattle.std.proofs.Common.{◌≡◌, ◌<◌, ◌∙◌, sym, [], length}
use Rattle.draw_list.specs.Primitives.{strip_triangle, strip_count}
use Rattle.draw_list.proofs.Triangulated.{strip_triangle_at}
use Rattle.draw_list.proofs.primitives.Primitives.triangle.Goals as goal

pub returns-in-Strip-clause-value : goal.returns-in-Strip-clause-value
returns-in-Strip-clause-value c =
    let indices = c.in-Strip.indices.items in
    let within : c.args.number < strip_count (length indices) = rw c.in-Strip.is at c.requires in
    let found : c.strip_triangle.result ≡ strip_triangle indices c.args.number = rw c.deref.ensures.value at c.strip_triangle.ensures.value in
    rw c.in-Strip.is (found ∙ sym (strip_triangle_at indices c.args.number [] within))
