use Rattle.std.proofs.Common.{sym, ◌∙◌, ◌<◌, ◌≤◌, [], length, arith, rules}
use Rattle.std.proofs.lemmas.Grind.{get_or_default_zero}
use Rattle.bins.proofs.Gathering.{few_runs}
use Rattle.bins.proofs.InRows.{none_have_runs, to_next, one_more, all_have_runs}
use Rattle.bins.proofs.tile_run.TileRun.of_candidates.Goals as goal

pub returns-in_default-clause-runs : goal.returns-in_default-clause-runs
returns-in_default-clause-runs c =
    let list = c.args.list.now in
    let numbers = c.args.numbers.now in
    let empty : length numbers ≤ 0 = search rules in
    rw c.new-runs.ensures.items (all_have_runs list c.args.tiling.now c.args.first_row c.args.rows numbers c.requires.candidates 0 [] (none_have_runs list c.args.tiling.now c.args.first_row c.args.rows numbers) empty)

pub push_runs-requires-clause-triangle : goal.push_runs-requires-clause-triangle
push_runs-requires-clause-triangle c =
    let numbers = c.args.numbers.now in
    let place = c.loop-place.place in
    let inside : place < length numbers = omega (arith, c.loop-place-test.true) in
    rw (get_or_default_zero numbers place _ inside) (sym c.go_on.ensures.has.triangle ∙ c.triangle.ensures)

pub push_runs-requires-clause-limits : goal.push_runs-requires-clause-limits
push_runs-requires-clause-limits c = c.requires.limits

pub push_runs-requires-clause-before : goal.push_runs-requires-clause-before
push_runs-requires-clause-before c =
    let numbers = c.args.numbers.now in
    let inside : c.loop-place.place < length numbers = omega (arith, c.loop-place-test.true) in
    to_next c.args.list.now c.args.tiling.now c.args.first_row c.args.rows numbers c.requires.candidates c.loop-place.place _ c.loop-place.invariant.0 inside

pub loop-place-preserved : goal.loop-place-preserved
loop-place-preserved c =
    let numbers = c.args.numbers.now in
    let inside : c.loop-place.place < length numbers = omega (arith, c.loop-place-test.true) in
    let have = one_more c.args.list.now c.args.tiling.now c.args.first_row c.args.rows numbers c.requires.candidates c.loop-place.place _ c.loop-place.invariant.0 _ inside c.in_ok-push_runs.ensures in
    (have, c.go_on.ensures.before)

pub returns-clause-few : goal.returns-clause-few
returns-clause-few c =
    few_runs c.args.list.now c.args.tiling.now c.args.first_row c.args.rows c.loop-place.runs.items c.requires.limits c.requires.rows c.requires.few (all_have_runs c.args.list.now c.args.tiling.now c.args.first_row c.args.rows c.args.numbers.now c.requires.candidates c.loop-place.place _ c.loop-place.invariant.0 (omega (arith, c.loop-place-test.false)))

pub returns-clause-runs : goal.returns-clause-runs
returns-clause-runs c =
    all_have_runs c.args.list.now c.args.tiling.now c.args.first_row c.args.rows c.args.numbers.now c.requires.candidates c.loop-place.place _ c.loop-place.invariant.0 (omega (arith, c.loop-place-test.false))
