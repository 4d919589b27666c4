use Rattle.std.proofs.Common.{◌≡◌, refl, ◌+◌, ◌*◌, ◌<◌, zero-add, arith}
use Rattle.draw_list.proofs.PixelPrefix.{prefix_pixel}
use Rattle.reference.proofs.picture.push_row.Goals as goal

pub loop-px-preserved : goal.loop-px-preserved
loop-px-preserved c =
    let list = c.args.list.now in
    let px = c.loop-px.px in
    let py = c.args.py in
    let place : py * list.width + (px + 1) ≡ (py * list.width + px) + 1 = omega arith in
    let below : px < list.width = omega arith in
    prefix_pixel list 0 0 list.width _ _ px py _ _ c.loop-px.invariant below refl place (rw (zero-add px, zero-add py) c.in_ok-push_pixel.ensures)
