use Rattle.std.proofs.Common.{rules, inl, inr, refl, ◌≡◌, ◌∙◌, ◌↔◌, ap, ℕ, ◌%◌, ◌<◌, max, IsOk, length}
use Rattle.std.proofs.lemmas.Result.{err_from_is_err_and}
use Rattle.grid.specs.Samples.{count_of}
use Rattle.readout.specs.Entries.{FitEntries}
use Rattle.checks.specs.Checking.{Checks, done, check, followed_by}
use Rattle.checks.proofs.Checking.{pass_both, fails_before, fails_later}
use Rattle.c_abi.specs.declared.status.Status.{Status}
use Rattle.c_abi.specs.declared.status.Status.TheVariants.{BadSample, BadStride, BufferTooSmall}
use Rattle.canvas_c.specs.Pieces.{HasRoom, entries_of, piece_checks}
use Rattle.canvas_c.proofs.Ended.{room_of, large_of, on_done, count_is, fitted_is}
use Rattle.canvas_c.proofs.entries.entries_into.Goals as goal

pub returns-clause-written : goal.returns-clause-written
returns-clause-written g c =
    on_done _ _ c.entries.result c.fitted.result c.fitted.ensures.done (λ written. record { rows = c.in_ok-rows.rows; are = c.in_ok-rows.ensures.judged.1; holds = rw (c.entries_of-stride.ensures, c.of.ensures.rows, c.of.ensures.planes) at written }) c.entries.ensures.entries

pub returns-in_err-rows-clause-judged : goal.returns-in_err-rows-clause-judged
returns-in_err-rows-clause-judged g c =
    let head = c.args.head.now in
    let later : Checks Status = check (c.args.sample < max 1 head.samples) BadSample (check (c.args.stride % c.args.entry_bytes ≡ 0) BadStride
    (check (HasRoom head 1 (entries_of head.width c.args.entry_bytes c.args.stride) (length c.args.entries.now)) BufferTooSmall done)) in
    let p = err_from_is_err_and c.from_residual.result c.from_residual.ensures.1 in
    rw (p.1, p.2) (fails_before (piece_checks head (length c.args.planes.now)) later _ c.in_err-rows.ensures.judged)

pub returns-clause-judged : goal.returns-clause-judged
returns-clause-judged g c =
    let head = c.args.head.now in
    let rows = c.in_ok-rows.rows in
    let are = c.in_ok-rows.ensures.judged.1 in
    let passed = c.in_ok-rows.ensures.judged.0 in
    let stride = entries_of head.width c.args.entry_bytes c.args.stride in
    let size : ℕ = length c.args.entries.now in
    let few : c.args.sample < max 1 head.samples = search rules in
    let aligned : c.args.stride % c.args.entry_bytes ≡ 0 = search rules in
    let own : Checks Status = check (c.args.sample < max 1 head.samples) BadSample (check (c.args.stride % c.args.entry_bytes ≡ 0) BadStride done) in
    let counted : count_of rows.canvas.count ≡ max 1 head.samples = ap count_of are.count ∙ count_is head.samples passed.1.0.pattern in
    let fits : IsOk c.entries.result ↔ FitEntries rows.canvas rows.first rows.end c.args.sample 1 stride size = rw (c.entries_of-stride.ensures, c.of.ensures.rows) at c.entries.ensures.fits in
    let pieces = piece_checks head (length c.args.planes.now) in
    fitted_is (followed_by pieces own) (HasRoom head 1 stride size) c.entries.result c.fitted.result
    (pass_both pieces own passed (few, (aligned, record {}))) c.fitted.ensures.done c.fitted.ensures.small
    ((λ ok. room_of head rows 1 stride size are (fits.0 ok).1), (λ room. fits.1 (rw counted few, large_of head rows 1 stride size are room)))

pub returns-then-sample-max-clause-judged : goal.returns-then-sample-max-clause-judged
returns-then-sample-max-clause-judged g c =
    let head = c.args.head.now in
    let later : Checks Status = check (c.args.sample < max 1 head.samples) BadSample (check (c.args.stride % c.args.entry_bytes ≡ 0) BadStride
    (check (HasRoom head 1 (entries_of head.width c.args.entry_bytes c.args.stride) (length c.args.entries.now)) BufferTooSmall done)) in
    let lacks : ¬ (c.args.sample < max 1 head.samples) = search rules in
    fails_later (piece_checks head (length c.args.planes.now)) later BadSample c.in_ok-rows.ensures.judged.0 (inl (lacks, refl))

pub returns-then-stride-entry_bytes-ne0-clause-judged : goal.returns-then-stride-entry_bytes-ne0-clause-judged
returns-then-stride-entry_bytes-ne0-clause-judged g c =
    let head = c.args.head.now in
    let later : Checks Status = check (c.args.sample < max 1 head.samples) BadSample (check (c.args.stride % c.args.entry_bytes ≡ 0) BadStride
    (check (HasRoom head 1 (entries_of head.width c.args.entry_bytes c.args.stride) (length c.args.entries.now)) BufferTooSmall done)) in
    let few : c.args.sample < max 1 head.samples = search rules in
    let lacks : ¬ (c.args.stride % c.args.entry_bytes ≡ 0) = search rules in
    fails_later (piece_checks head (length c.args.planes.now)) later BadStride c.in_ok-rows.ensures.judged.0 (inr (few, inl (lacks, refl)))
