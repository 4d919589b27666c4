use Rattle.std.proofs.Common.{◌≡◌, inl, refl, ap, ℕ, ◌<◌, length, arith}
use Rattle.grid.specs.Samples.{count_of, pattern_of}
use Rattle.checks.specs.Checking.{done, check, followed_by}
use Rattle.checks.proofs.Checking.{fails_before, fails_later}
use Rattle.c_abi.specs.declared.status.Status.TheVariants.{BadFormat, BadSample}
use Rattle.canvas_c.specs.Pieces.{piece_checks, IsFormat}
use Rattle.canvas_c.proofs.sample_colours.sample_rows.Goals as goal

pub returns-in-Err-clause-judged : goal.returns-in-Err-clause-judged
returns-in-Err-clause-judged c =
    let head = c.args.head.now in
    let planes : ℕ = length c.args.planes.now in
    fails_before (followed_by (piece_checks head planes) (check (IsFormat c.args.format) BadFormat done)) (check (c.args.sample < count_of (pattern_of head.samples)) BadSample done) c.in-Err.failed c.in-Err.ensures.judged

pub returns-then-sample-count-clause-judged : goal.returns-then-sample-count-clause-judged
returns-then-sample-count-clause-judged c =
    let head = c.args.head.now in
    let planes : ℕ = length c.args.planes.now in
    let judged = c.in-Ok.ensures.judged in
    let same : count_of c.in-Ok.rows.canvas.count ≡ count_of (pattern_of head.samples) = ap count_of judged.1.count in
    let lacks : ¬ (c.args.sample < count_of (pattern_of head.samples)) = λ less. omega (arith, less, same, c.count.ensures, c.if-sample-count.true) in
    fails_later (followed_by (piece_checks head planes) (check (IsFormat c.args.format) BadFormat done)) (check (c.args.sample < count_of (pattern_of head.samples)) BadSample done) BadSample judged.0 (inl (lacks, refl))
