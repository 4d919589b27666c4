use Rattle.std.proofs.Common.{refl}
use Rattle.grid.proofs.Bounds.{passed}
use Rattle.strokes.proofs.cap.square_covers.Goals as goal

pub returns-then-is_across : goal.returns-then-is_across
returns-then-is_across c =
    let cx = passed _ _ c.x.ensures.in_band c.x.ensures.value in
    let px = passed _ _ c.x-2.ensures.in_band c.x-2.ensures.value in
    let cy = passed _ _ c.y.ensures.in_band c.y.ensures.value in
    let py = passed _ _ c.y-then-is_across.ensures.in_band c.y-then-is_across.ensures.value in
    let xs = rw (cx, px) at (c.if-is_across.ensures.0 refl) in
    let ys = rw (cy, py) at c.is_across-then-is_across.ensures in
    (λ t. record { x = xs; y = ys.0 t }, λ h. ys.1 h.y)
