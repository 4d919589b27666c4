use Rattle.std.proofs.Common.{refl, ℕ, ◌≤◌, length}
use Rattle.std.proofs.lemmas.Result.{err_from_is_err_and}
use Rattle.readout.specs.Tiles.{tile_entries, FitTile, IsTileMisfit}
use Rattle.checks.specs.Checking.{done, check}
use Rattle.checks.proofs.Checking.{fails_before}
use Rattle.c_abi.specs.declared.status.Status.TheVariants.{BufferTooSmall, BadTile}
use Rattle.canvas_c.specs.Pieces.{piece_checks}
use Rattle.canvas_c.specs.Samples.{NamesTile, entries_in_tile}
use Rattle.canvas_c.proofs.OfTiles.{tile_fits, tile_fails, told_ids}
use Rattle.canvas_c.proofs.tiles.ids_into.Goals as goal

pub returns-in_err-rows-clause-judged : goal.returns-in_err-rows-clause-judged
returns-in_err-rows-clause-judged c =
    let head = c.args.head.now in
    let planes : ℕ = length c.args.planes.now in
    let size : ℕ = length c.args.ids.now in
    let p = err_from_is_err_and c.from_residual.result c.from_residual.ensures.1 in
    rw (p.1, p.2) (fails_before (piece_checks head planes) (check (NamesTile head c.args.column c.args.row) BadTile (check (entries_in_tile head ≤ size) BufferTooSmall done)) _ c.in_err-rows.ensures.judged)

pub returns-in-Ok-clause-judged : goal.returns-in-Ok-clause-judged
returns-in-Ok-clause-judged c =
    let head = c.args.head.now in
    let rows = c.in_ok-rows.rows in
    let planes : ℕ = length c.args.planes.now in
    let size : ℕ = length c.args.ids.now in
    let judged = c.in_ok-rows.ensures.judged in
    let fits : FitTile rows.canvas rows.first rows.end c.args.column c.args.row size = rw c.of.ensures.rows at c.in-Ok.ensures.fits.0 refl in (
      tile_fits head rows judged.1 c.args.column c.args.row (piece_checks head planes) (entries_in_tile head ≤ size) (tile_entries rows.canvas.count ≤ size) judged.0 fits.0 (rw judged.1.count at fits.1),
      record {
        rows = rows;
        are = judged.1;
        holds = told_ids rows.canvas rows.first rows.end c.args.column c.args.row c.args.planes.now c.args.ids.now c.tile_ids.new.ids c.in-Ok.many c.is_one.result
            (rw (c.of.ensures.rows, c.of.ensures.planes) at c.in-Ok.ensures.many) (rw (c.of.ensures.rows, c.of.ensures.planes) at c.in-Ok.ensures.ids) c.in-Ok.ensures.others c.is_one.ensures.one c.is_one.ensures.more;
      },
    )

pub returns-in-Err-clause-judged : goal.returns-in-Err-clause-judged
returns-in-Err-clause-judged c =
    let head = c.args.head.now in
    let rows = c.in_ok-rows.rows in
    let planes : ℕ = length c.args.planes.now in
    let size : ℕ = length c.args.ids.now in
    let judged = c.in_ok-rows.ensures.judged in
    let reason : IsTileMisfit rows.canvas rows.first rows.end c.args.column c.args.row (tile_entries rows.canvas.count ≤ size) c.in-Err.misfit = rw c.of.ensures.rows at c.in-Err.ensures.reason in
    rw c.status_for_tile.ensures
    (tile_fails head rows judged.1 c.args.column c.args.row (piece_checks head planes) (entries_in_tile head ≤ size) (tile_entries rows.canvas.count ≤ size) judged.0 c.in-Err.misfit (λ room. rw judged.1.count room) reason)
