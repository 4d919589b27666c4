use Rattle.std.proofs.Common.{◌∙◌, sym, ◌<◌, ◌≤◌, length, slice_index, refl, arith, rules}
use Rattle.tile.proofs.Ends.{none_have_drawn, have_drawn_more, all_have_drawn}
use Rattle.tile.proofs.SameRuns.{colours_same}
use Rattle.tile.proofs.tile_pixels.draw_bin.Goals as goal

pub returns-in_default-clause-ends : goal.returns-in_default-clause-ends
returns-in_default-clause-ends c =
    let empty : length c.args.numbers.now ≤ 0 = search rules in
    all_have_drawn c.args.list.now c.args.tile.now c.args.numbers.now c.requires.bin 0 _ (none_have_drawn c.args.list.now c.args.tile.now c.args.numbers.now c.args.samples.now c.requires.samples c.requires.cleared) empty

pub returns-in_default-clause-same : goal.returns-in_default-clause-same
returns-in_default-clause-same c = colours_same c.args.tile.now c.args.samples.now _ c.requires.samples c.requires.cleared _ c.colour_run.ensures

pub loop-place-init : goal.loop-place-init
loop-place-init c = (none_have_drawn c.args.list.now c.args.tile.now c.args.numbers.now c.args.samples.now c.requires.samples c.requires.cleared, rw c.in-Some.is at c.of.ensures.some)

pub loop-place-preserved : goal.loop-place-preserved
loop-place-preserved c =
    let list = c.args.list.now in
    let numbers = c.args.numbers.now in
    let place = c.loop-place.place in
    let inside : place < length numbers = omega (arith, c.loop-place-test.true) in
    let number = slice_index numbers place in
    let known = sym c.go_on.ensures.has.triangle ∙ c.triangle-in-loop-place.ensures in (
      have_drawn_more list c.args.tile.now numbers c.requires.bin place _ c.loop-place.invariant.0 number _ c.draw_next.new.samples c.requires.count inside refl known (rw c.keeping_alpha-triangle.ensures at c.draw_next.ensures),
      c.go_on.ensures.before,
    )

pub returns-clause-ends : goal.returns-clause-ends
returns-clause-ends c = all_have_drawn c.args.list.now c.args.tile.now c.args.numbers.now c.requires.bin c.loop-place.place _ c.loop-place.invariant.0 (omega (arith, c.loop-place-test.false))
