use Rattle.std.proofs.Common.{◌≡◌, arith, ◌*◌, w32, to_z, of_z, pos, ◌+ℤ◌, ◌*ℤ◌}
use Rattle.std.proofs.lemmas.Int.{ints}
use Rattle.lanes.specs.Sources.{TakesGiven}
use Rattle.lanes.proofs.Blocks.{rows_kept, rows_drawn, group_at, drawn_from, group_on_screen}
use Rattle.lanes.proofs.block.draw_rows.Goals as goal

pub draw_group-requires-clause-on_screen : goal.draw_group-requires-clause-on_screen
draw_group-requires-clause-on_screen g c =
    let on = c.requires.on_screen in
    let x : to_z w32 (of_z w32 c.x-x.result) ≡ c.args.p.x = omega (arith, ints, c.x-x.ensures.value, on.left, on.right) in
    let y : to_z w32 (of_z w32 (to_z w32 (of_z w32 c.y.result) +ℤ to_z w32 (of_z w32 (pos 512 *ℤ to_z w32 c.args.group)))) ≡ c.args.p.y +ℤ pos (512 * c.args.group) =
    omega (arith, ints, c.y.ensures.value, on.top, on.bottom, c.requires.group) in
    rw (x, y) (group_on_screen c.args.p c.args.group c.requires.group on)

pub returns-then-not-has_some : goal.returns-then-not-has_some
returns-then-not-has_some g c =
    rows_kept (TakesGiven c.args.merge.now c.args.depth.now c.args.colour.now) c.args.p c.args.mask c.args.group c.args.samples.now (c.has_some.ensures c.if-not-has_some.true)

pub returns : goal.returns
returns g c =
    let D = TakesGiven c.args.merge.now c.args.depth.now c.args.colour.now in
    rows_drawn D c.args.p c.args.mask c.args.group c.lanes_of-covered.result c.args.samples.now c.draw_group.new.samples c.lanes_of-covered.ensures
    (record {
      set = λ i l set.
          drawn_from D _ _ (group_at c.args.p c.args.group) i _ _ (omega (arith, ints, c.x-x.ensures.value)) (omega (arith, ints, c.y.ensures.value, c.requires.on_screen))
          (c.draw_group.ensures.set i l set);
      clear = c.draw_group.ensures.clear;
      elsewhere = c.draw_group.ensures.elsewhere;
    })
