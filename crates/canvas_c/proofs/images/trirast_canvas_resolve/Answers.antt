use Rattle.std.proofs.Common.{◌↔◌, IsOk, ℕ, ◌*◌, length, inr}
use Rattle.readout.specs.Pixels.{pixel_bytes, IsLargeEnough}
use Rattle.checks.specs.Checking.{done, check, followed_by}
use Rattle.checks.proofs.Checking.{fails_before}
use Rattle.c_abi.specs.declared.status.Status.TheVariants.{BufferTooSmall, BadFormat}
use Rattle.canvas_c.specs.Pieces.{HasRoom, format_of, stride_of, piece_checks, image_checks, IsFormat}
use Rattle.canvas_c.proofs.Ended.{room_of, large_of, done_if, on_done, status_is, fitted_is}
use Rattle.canvas_c.proofs.images.trirast_canvas_resolve.Goals as goal

pub returns-in-Ok-clause-resolved : goal.returns-in-Ok-clause-resolved
returns-in-Ok-clause-resolved c =
    done_if _ c.fitted.result c.status_of.result c.status_of.ensures.done
    (on_done _ _ c.resolve.result c.fitted.result c.fitted.ensures.done (λ written. record { rows = c.in-Ok.rows; are = c.in-Ok.ensures.judged.1; holds = rw (c.stride_of-stride.ensures, c.in-Ok.ensures.format, c.of-view.ensures.rows, c.of-view.ensures.planes) at written }) c.resolve.ensures.resolved)

pub returns-in-Err-clause-status : goal.returns-in-Err-clause-status
returns-in-Err-clause-status c =
    let head = c.args.canvas.now.head in
    let planes : ℕ = length c.args.canvas.now.planes.now in
    let size : ℕ = length c.args.pixels.now in
    inr (c.in-Err.failed, fails_before (followed_by (piece_checks head planes) (check (IsFormat c.args.format) BadFormat done)) (check (HasRoom head (pixel_bytes (format_of c.args.format)) (stride_of (head.width * pixel_bytes (format_of c.args.format)) c.args.stride) size) BufferTooSmall done) c.in-Err.failed c.in-Err.ensures.judged, c.number.ensures.value)

pub returns-in-Ok-clause-status : goal.returns-in-Ok-clause-status
returns-in-Ok-clause-status c =
    let head = c.args.canvas.now.head in
    let rows = c.in-Ok.rows in
    let unit = pixel_bytes (format_of c.args.format) in
    let stride = stride_of (head.width * unit) c.args.stride in
    let size : ℕ = length c.args.pixels.now in
    let fits : IsOk c.resolve.result ↔ IsLargeEnough rows.canvas rows.first rows.end unit stride size = rw (c.stride_of-stride.ensures, c.in-Ok.ensures.format, c.of-view.ensures.rows) at c.resolve.ensures.fits in
    status_is (image_checks c.args.canvas.now.head (length c.args.canvas.now.planes.now) c.args.format c.args.stride (length c.args.pixels.now)) c.fitted.result c.status_of.result
    (fitted_is (followed_by (piece_checks head (length c.args.canvas.now.planes.now)) (check (IsFormat c.args.format) BadFormat done)) (HasRoom head unit stride size) c.resolve.result c.fitted.result
    c.in-Ok.ensures.judged.0 c.fitted.ensures.done c.fitted.ensures.small
    ((λ ok. room_of head rows unit stride size c.in-Ok.ensures.judged.1 (fits.0 ok)), (λ room. fits.1 (large_of head rows unit stride size c.in-Ok.ensures.judged.1 room)))) c.status_of.ensures.ended
