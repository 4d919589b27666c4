-- A triangle covers no sample outside of its rows.
use Rattle.std.proofs.Common.{refl, ℕ, ◌<◌, ◌≤◌, arith}
use Rattle.std.proofs.lemmas.Int.{ints, clamps}
use Rattle.grid.specs.Samples.{count_of, sample_position}
use Rattle.grid.specs.Triangle.{Covers}
use Rattle.grid.specs.declared.pixels.PixelBox.{PixelBox}
use Rattle.grid.specs.declared.sample_count.SampleCount.{SampleCount}
use Rattle.grid.specs.declared.triangle.Tri.{Tri}
use Rattle.cover.specs.Bounds.{first_pixel, end_pixel}
use Rattle.cover.proofs.Box.{box_holds}
use Rattle.draw_list.specs.Rows.{IsRowSpan}
use Rattle.draw_list.specs.declared.rows.RowSpan.{RowSpan}

pub in_rows : (t : Tri) (span : RowSpan) (count : SampleCount) (i j s : ℕ) → i < 4096 → j < 4096 → s < count_of count → IsRowSpan t span
    → Covers t.a t.b t.c (sample_position i j s count) → (span.first ≤ j) × (j < span.end)
in_rows t span count i j s column row sample is covered =
    let box : PixelBox = record { x0 = first_pixel t.a.x t.b.x t.c.x; y0 = first_pixel t.a.y t.b.y t.c.y; x1 = end_pixel t.a.x t.b.x t.c.x; y1 = end_pixel t.a.y t.b.y t.c.y } in
    let inside = box_holds t box (record { x0 = refl; y0 = refl; x1 = refl; y1 = refl }) count i j s column row sample covered in
    (omega (arith, ints, is.first, inside.top), omega (arith, ints, clamps, is.end, inside.bottom))
