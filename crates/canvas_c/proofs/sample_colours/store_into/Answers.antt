use Rattle.std.proofs.Common.{◌↔◌, rules, subst, ℕ, ◌*◌, ◌<◌, length, IsOk}
use Rattle.std.proofs.lemmas.Result.{err_from_is_err_and}
use Rattle.grid.specs.Samples.{count_of, pattern_of}
use Rattle.readout.specs.Pixels.{pixel_bytes}
use Rattle.readout.specs.Entries.{FitEntries}
use Rattle.readout.specs.Loaded.{AreStored}
use Rattle.checks.specs.Checking.{done, check, followed_by}
use Rattle.checks.proofs.Checking.{fails_before}
use Rattle.c_abi.specs.declared.status.Status.TheVariants.{BufferTooSmall, BadFormat, BadSample}
use Rattle.canvas_c.specs.Pieces.{has_alpha, HasRoom, format_of, stride_of, piece_checks, IsFormat}
use Rattle.canvas_c.proofs.Ended.{on_done, room_of, large_of, fitted_is}
use Rattle.canvas_c.proofs.sample_colours.store_into.Goals as goal

pub returns-in_err-rows-clause-judged : goal.returns-in_err-rows-clause-judged
returns-in_err-rows-clause-judged c =
    let head = c.args.head.now in
    let planes : ℕ = length c.args.planes.now in
    let p = err_from_is_err_and c.from_residual.result c.from_residual.ensures.1 in
    rw (p.1, p.2)
    (fails_before (followed_by (piece_checks head planes) (check (IsFormat c.args.format) BadFormat (check (c.args.sample < count_of (pattern_of head.samples)) BadSample done)))
    (check (HasRoom head (pixel_bytes (format_of c.args.format)) (stride_of (head.width * pixel_bytes (format_of c.args.format)) c.args.stride) (length c.args.pixels.now)) BufferTooSmall done) _ c.in_err-rows.ensures.judged)

pub returns-clause-judged : goal.returns-clause-judged
returns-clause-judged c =
    let head = c.args.head.now in
    let rows = c.in_ok-rows.rows in
    let format = format_of c.args.format in
    let unit : ℕ = pixel_bytes format in
    let planes : ℕ = length c.args.planes.now in
    let size : ℕ = length c.args.pixels.now in
    let stride : ℕ = stride_of (head.width * unit) c.args.stride in
    let judged = c.in_ok-rows.ensures.judged in
    let sample : c.args.sample < count_of rows.canvas.count = rw judged.1.count (judged.0.1.1.1.1.1.0) in
    let fits : IsOk c.store.result ↔ FitEntries rows.canvas rows.first rows.end c.args.sample unit stride size = rw (c.stride_of.ensures, c.in_ok-rows.ensures.format, c.over-piece.ensures.rows) at c.store.ensures.fits in
    fitted_is (followed_by (piece_checks head planes) (check (IsFormat c.args.format) BadFormat (check (c.args.sample < count_of (pattern_of head.samples)) BadSample done))) (HasRoom head unit stride size) c.store.result c.fitted.result judged.0 c.fitted.ensures.done c.fitted.ensures.small
    ((λ ok. room_of head rows unit stride size judged.1 (fits.0 ok).1), (λ room. fits.1 (sample, large_of head rows unit stride size judged.1 room)))

pub returns-clause-stored : goal.returns-clause-stored
returns-clause-stored c =
    let rows = c.in_ok-rows.rows in
    let format = format_of c.args.format in
    on_done _ _ c.store.result c.fitted.result c.fitted.ensures.done
    (λ stored. record {
      rows = rows;
      are = c.in_ok-rows.ensures.judged.1;
      holds = subst (AreStored rows.canvas rows.first rows.end c.args.sample c.args.pixels.now format (stride_of (c.args.head.now.width * pixel_bytes format) c.args.stride) (has_alpha c.args.head.now) c.args.planes.now) (search rules) (rw (c.has_alpha.ensures, c.stride_of.ensures, c.in_ok-rows.ensures.format, c.over-piece.ensures.rows, c.over-piece.ensures.planes) at stored);
    }) c.store.ensures.stored
