use Rattle.std.proofs.Common.{◌<◌, ◌≤◌, slice_index, length, arith}
use Rattle.std.specs.List.{All}
use Rattle.std.proofs.lemmas.List.{take_all}
use Rattle.std.proofs.lemmas.List.Elements.{All-more}
use Rattle.batch.specs.Causes.{bad_index}
use Rattle.batch.proofs.Elements.{each_fails, each_passes}
use Rattle.batch.proofs.checking.check_indices.Goals as goal

pub loop-place-preserved : goal.loop-place-preserved
loop-place-preserved g c =
    let indices = g.I.Indices.listed c.args.indices.now in
    let inside : c.loop-place.place < length indices = omega (arith, c.loop-place-test.true, c.count-place-end.ensures) in
    let named : slice_index indices c.loop-place.place < c.args.count = omega (arith, c.if-index-count.false, c.at-index.ensures) in
    All-more (λ k. k < c.args.count) indices c.loop-place.place 0 inside c.loop-place.invariant named

pub returns-then-index-count : goal.returns-then-index-count
returns-then-index-count g c =
    let indices = g.I.Indices.listed c.args.indices.now in
    let inside : c.loop-place.place < length indices = omega (arith, c.loop-place-test.true, c.count-place-end.ensures) in
    let fails : ¬ (slice_index indices c.loop-place.place < c.args.count) = λ less. absurd (omega (arith, less, c.if-index-count.true, c.at-index.ensures)) in
    rw (c.bad_index.ensures, c.at-index.ensures) (each_fails (λ k. k < c.args.count) bad_index indices c.loop-place.place 0 inside c.loop-place.invariant fails)

pub returns : goal.returns
returns g c =
    let indices = g.I.Indices.listed c.args.indices.now in
    let past : length indices ≤ c.loop-place.place = omega (arith, c.loop-place-test.false, c.count-place-end.ensures) in
    let all : All (λ k. k < c.args.count) indices = rw (take_all c.loop-place.place indices past) at c.loop-place.invariant in
    (each_passes (λ k. k < c.args.count) bad_index 0 indices all, tt)
