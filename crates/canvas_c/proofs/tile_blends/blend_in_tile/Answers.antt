use Rattle.std.proofs.Common.{refl, subst, rules, ℕ, length}
use Rattle.std.proofs.lemmas.Result.{err_from_is_err_and}
use Rattle.checks.specs.Checking.{Checks, done, check, followed_by, Pass}
use Rattle.checks.proofs.Checking.{pass_both, fails_before, fails_later}
use Rattle.batch.specs.declared.draw.BatchDraw.{BatchDraw}
use Rattle.batch.specs.States.{state_checks}
use Rattle.readout.specs.Tiles.{IsTileMisfit}
use Rattle.tile_blend.specs.Fragments.{AreFragments, FitFragments, IsTileBlended}
use Rattle.grid.specs.Samples.{pattern_of}
use Rattle.c_abi.specs.declared.status.Status.{Status}
use Rattle.c_abi.specs.declared.status.Status.TheVariants.{BadBatch, BufferTooSmall, BadTile}
use Rattle.canvas_c.specs.declared.piece.CanvasHead.{CanvasHead}
use Rattle.canvas_c.specs.Pieces.{piece_checks}
use Rattle.canvas_c.specs.Samples.{NamesTile, merge_listed}
use Rattle.canvas_c.proofs.OfTiles.{tile_fits, tile_fails}
use Rattle.canvas_c.proofs.tile_blends.blend_in_tile.Goals as goal

-- what is checked of the state, then of the tile and the arrays
abbrev state_checked : BatchDraw → Checks Status
state_checked state = check (Pass (state_checks state)) BadBatch done

abbrev tile_checked : CanvasHead → ℕ → ℕ → ℕ → ℕ → ℕ → Checks Status
tile_checked head column row colours depths kept =
    check (NamesTile head column row) BadTile (check (AreFragments (pattern_of head.samples) colours depths kept) BufferTooSmall done)

pub returns-in_err-rows-clause-judged : goal.returns-in_err-rows-clause-judged
returns-in_err-rows-clause-judged c =
    let head = c.args.head.now in
    let f = c.args.fragments.now in
    let p = err_from_is_err_and c.from_residual.result c.from_residual.ensures.1 in
    rw (p.1, p.2)
    (fails_before (piece_checks head (length c.args.planes.now)) (followed_by (state_checked c.args.state.now) (tile_checked head c.args.column c.args.row (length f.colours.now) (length f.depths.now) (length f.kept.now))) _ c.in_err-rows.ensures.judged)

pub returns-in_err-merge-clause-judged : goal.returns-in_err-merge-clause-judged
returns-in_err-merge-clause-judged c =
    let head = c.args.head.now in
    let f = c.args.fragments.now in
    let later = tile_checked head c.args.column c.args.row (length f.colours.now) (length f.depths.now) (length f.kept.now) in
    let p = err_from_is_err_and c.from_residual-in_err-merge.result c.from_residual-in_err-merge.ensures.1 in
    rw (p.1, p.2)
    (fails_later (piece_checks head (length c.args.planes.now)) (followed_by (state_checked c.args.state.now) later) _ c.in_ok-rows.ensures.judged.0 (fails_before (state_checked c.args.state.now) later _ c.in_err-merge.ensures))

pub returns-in-Ok-clause-judged : goal.returns-in-Ok-clause-judged
returns-in-Ok-clause-judged c =
    let head = c.args.head.now in
    let f = c.args.fragments.now in
    let rows = c.in_ok-rows.rows in
    let before = piece_checks head (length c.args.planes.now) in
    let judged = c.in_ok-rows.ensures.judged in
    let fits : FitFragments rows.canvas rows.first rows.end c.args.column c.args.row (length f.colours.now) (length f.depths.now) (length f.kept.now) = rw c.over-piece.ensures.rows at c.in-Ok.ensures.fits.0 refl in (
      tile_fits head rows judged.1 c.args.column c.args.row (followed_by before (state_checked c.args.state.now)) (AreFragments (pattern_of head.samples) (length f.colours.now) (length f.depths.now) (length f.kept.now)) (AreFragments rows.canvas.count (length f.colours.now) (length f.depths.now) (length f.kept.now))
          (pass_both before (state_checked c.args.state.now) judged.0 c.in_ok-merge.ensures.0) fits.0 (rw judged.1.count at fits.1),
      tt,
    )

pub returns-in-Ok-clause-blended : goal.returns-in-Ok-clause-blended
returns-in-Ok-clause-blended c =
    let head = c.args.head.now in
    let f = c.args.fragments.now in
    let rows = c.in_ok-rows.rows in
    record {
      rows = rows;
      are = c.in_ok-rows.ensures.judged.1;
      holds = subst (IsTileBlended rows.canvas rows.first rows.end c.args.column c.args.row (merge_listed head c.args.state.now) f.colours.now f.depths.now f.kept.now c.args.planes.now) (search rules) (rw (c.over-piece.ensures.rows, c.over-piece.ensures.planes, c.in_ok-merge.ensures.1, c.has_alpha.ensures) at c.in-Ok.ensures.blended);
    }

pub returns-in-Err-clause-judged : goal.returns-in-Err-clause-judged
returns-in-Err-clause-judged c =
    let head = c.args.head.now in
    let f = c.args.fragments.now in
    let rows = c.in_ok-rows.rows in
    let before = piece_checks head (length c.args.planes.now) in
    let judged = c.in_ok-rows.ensures.judged in
    let reason : IsTileMisfit rows.canvas rows.first rows.end c.args.column c.args.row (AreFragments rows.canvas.count (length f.colours.now) (length f.depths.now) (length f.kept.now)) c.in-Err.misfit = rw c.over-piece.ensures.rows at c.in-Err.ensures.reason in
    rw c.status_for_tile.ensures
    (tile_fails head rows judged.1 c.args.column c.args.row (followed_by before (state_checked c.args.state.now)) (AreFragments (pattern_of head.samples) (length f.colours.now) (length f.depths.now) (length f.kept.now)) (AreFragments rows.canvas.count (length f.colours.now) (length f.depths.now) (length f.kept.now))
    (pass_both before (state_checked c.args.state.now) judged.0 c.in_ok-merge.ensures.0) c.in-Err.misfit (λ room. rw judged.1.count room) reason)
