use Rattle.std.proofs.Common.{rules, ◌↔◌, IsOk, subst, ℕ, ◌*◌, length}
use Rattle.std.proofs.lemmas.Result.{err_from_is_err_and}
use Rattle.readout.specs.Pixels.{pixel_bytes, IsLargeEnough}
use Rattle.readout.specs.Loaded.{AreLoaded}
use Rattle.checks.specs.Checking.{done, check, followed_by}
use Rattle.checks.proofs.Checking.{fails_before}
use Rattle.c_abi.specs.declared.status.Status.TheVariants.{BufferTooSmall, BadFormat}
use Rattle.canvas_c.specs.Pieces.{has_alpha, HasRoom, format_of, stride_of, piece_checks, IsFormat}
use Rattle.canvas_c.proofs.Ended.{room_of, large_of, on_done, fitted_is}
use Rattle.canvas_c.proofs.images.load_into.Goals as goal

pub returns-clause-loaded : goal.returns-clause-loaded
returns-clause-loaded c =
    let rows = c.in_ok-rows.rows in
    let format = format_of c.args.format in
    on_done _ _ c.load.result c.fitted.result c.fitted.ensures.done
    (λ loaded. record {
      rows = rows;
      are = c.in_ok-rows.ensures.judged.1;
      holds = subst (AreLoaded rows.canvas rows.first rows.end c.args.pixels.now format (stride_of (c.args.head.now.width * pixel_bytes format) c.args.stride) (has_alpha c.args.head.now) c.args.planes.now) (search rules) (rw (c.has_alpha.ensures, c.stride_of.ensures, c.in_ok-rows.ensures.format, c.over-piece.ensures.rows, c.over-piece.ensures.planes) at loaded);
    }) c.load.ensures.loaded

pub returns-in_err-rows-clause-judged : goal.returns-in_err-rows-clause-judged
returns-in_err-rows-clause-judged c =
    let head = c.args.head.now in
    let planes : ℕ = length c.args.planes.now in
    let p = err_from_is_err_and c.from_residual.result c.from_residual.ensures.1 in
    rw (p.1, p.2)
    (fails_before (followed_by (piece_checks head planes) (check (IsFormat c.args.format) BadFormat done)) (check (HasRoom head (pixel_bytes (format_of c.args.format)) (stride_of (head.width * pixel_bytes (format_of c.args.format)) c.args.stride) (length c.args.pixels.now)) BufferTooSmall done) _ c.in_err-rows.ensures.judged)

pub returns-clause-judged : goal.returns-clause-judged
returns-clause-judged c =
    let head = c.args.head.now in
    let rows = c.in_ok-rows.rows in
    let unit = pixel_bytes (format_of c.args.format) in
    let stride = stride_of (head.width * unit) c.args.stride in
    let size : ℕ = length c.args.pixels.now in
    let fits : IsOk c.load.result ↔ IsLargeEnough rows.canvas rows.first rows.end unit stride size = rw (c.stride_of.ensures, c.in_ok-rows.ensures.format, c.over-piece.ensures.rows) at c.load.ensures.fits in
    fitted_is (followed_by (piece_checks head (length c.args.planes.now)) (check (IsFormat c.args.format) BadFormat done)) (HasRoom head unit stride size) c.load.result c.fitted.result
    c.in_ok-rows.ensures.judged.0 c.fitted.ensures.done c.fitted.ensures.small
    ((λ ok. room_of head rows unit stride size c.in_ok-rows.ensures.judged.1 (fits.0 ok)), (λ room. fits.1 (large_of head rows unit stride size c.in_ok-rows.ensures.judged.1 room)))
