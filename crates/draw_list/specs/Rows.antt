-- The rows of pixels of a triangle.
use Rattle.std.specs.Prelude.{◌≡◌, ℤ, pos, ◌+ℤ◌, List}
use Rattle.std.specs.Int.{int_min, int_max, int_div_euclid}
use Rattle.std.specs.List.{AllZip}
use Rattle.grid.specs.declared.triangle.Tri.{Tri}
use Rattle.shade.specs.declared.placed.Placed.{Placed}
use Rattle.draw_list.specs.declared.rows.RowSpan.{RowSpan}

-- The row of pixels of a y in 1/256 pixel: the y by 256, rounded down.
abbrev pub pixel_row : ℤ → ℤ
pixel_row y = int_div_euclid y (pos 256)

-- The least y of a triangle's vertices, in 1/256 pixel.
abbrev pub least_y : Tri → ℤ
least_y t = int_min (int_min t.a.y t.b.y) t.c.y

-- The greatest y of a triangle's vertices, in 1/256 pixel.
abbrev pub greatest_y : Tri → ℤ
greatest_y t = int_max (int_max t.a.y t.b.y) t.c.y

-- The span has the rows of pixels from that of the triangle's least y to that of its greatest, cut to the screen. The screen has
-- 4096 rows, and `end` is the row after the last.
pub record IsRowSpan (t : Tri) (span : RowSpan) : Type 0 where
  pub first : pos span.first ≡ int_max (pixel_row (least_y t)) (pos 0)
  pub end : pos span.end ≡ int_max (int_min (pixel_row (greatest_y t) +ℤ pos 1) (pos 4096)) (pos 0)

-- The rows of triangles, in the triangles' order.
abbrev pub AreRows : List Placed → List RowSpan → Type 0
AreRows triangles spans = AllZip (λ t span. IsRowSpan t.tri span) triangles spans
