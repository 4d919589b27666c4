use Rattle.std.proofs.Common.{◌↔◌, inr, ℕ, ◌*◌, ◌<◌, length, IsOk}
use Rattle.grid.specs.Samples.{count_of, pattern_of}
use Rattle.readout.specs.Pixels.{pixel_bytes}
use Rattle.readout.specs.Entries.{FitEntries}
use Rattle.checks.specs.Checking.{done, check, followed_by}
use Rattle.checks.proofs.Checking.{fails_before}
use Rattle.c_abi.specs.declared.status.Status.TheVariants.{BufferTooSmall, BadFormat, BadSample}
use Rattle.canvas_c.specs.Pieces.{HasRoom, format_of, stride_of, piece_checks, IsFormat}
use Rattle.canvas_c.specs.Samples.{colours_checks}
use Rattle.canvas_c.proofs.Ended.{done_if, on_done, room_of, large_of, fitted_is, status_is}
use Rattle.canvas_c.proofs.sample_colours.trirast_canvas_colors.Goals as goal

pub returns-in-Ok-clause-status : goal.returns-in-Ok-clause-status
returns-in-Ok-clause-status c =
    let head = c.args.canvas.now.head in
    let rows = c.in-Ok.rows in
    let format = format_of c.args.format in
    let unit : ℕ = pixel_bytes format in
    let planes : ℕ = length c.args.canvas.now.planes.now in
    let size : ℕ = length c.args.pixels.now in
    let stride : ℕ = stride_of (head.width * unit) c.args.stride in
    let judged = c.in-Ok.ensures.judged in
    let sample : c.args.sample < count_of rows.canvas.count = rw judged.1.count (judged.0.1.1.1.1.1.0) in
    let fits : IsOk c.colors.result ↔ FitEntries rows.canvas rows.first rows.end c.args.sample unit stride size = rw (c.stride_of-stride.ensures, c.in-Ok.ensures.format, c.of-view.ensures.rows) at c.colors.ensures.fits in
    status_is (colours_checks head planes c.args.sample c.args.format c.args.stride size) c.fitted.result c.status_of.result
    (fitted_is (followed_by (piece_checks head planes) (check (IsFormat c.args.format) BadFormat (check (c.args.sample < count_of (pattern_of head.samples)) BadSample done))) (HasRoom head unit stride size) c.colors.result c.fitted.result judged.0 c.fitted.ensures.done c.fitted.ensures.small
    ((λ ok. room_of head rows unit stride size judged.1 (fits.0 ok).1), (λ room. fits.1 (sample, large_of head rows unit stride size judged.1 room))))
    c.status_of.ensures.ended

pub returns-in-Ok-clause-written : goal.returns-in-Ok-clause-written
returns-in-Ok-clause-written c =
    done_if _ c.fitted.result c.status_of.result c.status_of.ensures.done
    (on_done _ _ c.colors.result c.fitted.result c.fitted.ensures.done (λ written. record { rows = c.in-Ok.rows; are = c.in-Ok.ensures.judged.1; holds = rw (c.stride_of-stride.ensures, c.in-Ok.ensures.format, c.of-view.ensures.rows, c.of-view.ensures.planes) at written }) c.colors.ensures.colours)

pub returns-in-Err-clause-status : goal.returns-in-Err-clause-status
returns-in-Err-clause-status c =
    let head = c.args.canvas.now.head in
    let planes : ℕ = length c.args.canvas.now.planes.now in
    let size : ℕ = length c.args.pixels.now in
    inr (
      c.in-Err.failed,
      fails_before (followed_by (piece_checks head planes) (check (IsFormat c.args.format) BadFormat (check (c.args.sample < count_of (pattern_of head.samples)) BadSample done)))
          (check (HasRoom head (pixel_bytes (format_of c.args.format)) (stride_of (head.width * pixel_bytes (format_of c.args.format)) c.args.stride) size) BufferTooSmall done) c.in-Err.failed c.in-Err.ensures.judged,
      c.number.ensures.value,
    )
