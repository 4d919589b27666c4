use Rattle.std.proofs.Common.{◌≡◌, ◌+◌, ◌-◌, ◌*◌, ◌<◌, ◌≤◌, ℕ, min, arith}
use Rattle.blocks.specs.Layout.{planes_of_tile}
use Rattle.canvas.specs.Layout.{columns_of}
use Rattle.blocks.proofs.Places.{part_within}
use Rattle.canvas.proofs.Ends.{none_drawn, all_drawn, one_tile_drawn, column_of}
use Rattle.canvas.proofs.Listed.{row_unmet}
use Rattle.canvas.proofs.canvas.Canvas.draw_listed_row.Goals as goal

pub loop-column-init : goal.loop-column-init
loop-column-init g c =
    let ts = g.T.Triangles.listed c.args.triangles.now in
    let list = c.args.list.now in
    let row = c.args.row in
    none_drawn ts c.args.self.now row (row + 1) column_of list.span.first c.args.samples.now
    (λ i j s h before x. row_unmet ts c.args.self.now row list.numbers list.columns.firsts list.columns.ends list.count list.span c.requires.list i j s h (λ inside. let from = inside.from in omega (arith, from, before)) x)

pub loop-column-preserved : goal.loop-column-preserved
loop-column-preserved g c =
    let ts = g.T.Triangles.listed c.args.triangles.now in
    let self = c.args.self.now in
    let column = c.loop-column.column in
    let each : ℕ = c.planes_of_tile-each.result in
    let a : ℕ = column * each in
    let wide : column < columns_of self = omega (arith, c.loop-column-test.true, c.min-column-end.ensures, c.column_count.ensures.value) in
    let many : a + each - a ≡ planes_of_tile self.count = omega (arith, c.planes_of_tile-each.ensures.value) in
    let at : a ≡ column * planes_of_tile self.count = rw c.planes_of_tile-each.ensures.value (omega arith) in
    let room = part_within column (columns_of self) (planes_of_tile self.count) wide in
    one_tile_drawn ts self c.args.row column c.args.samples.now c.loop-column.samples c.draw_listed_tile.new.samples (a + each - a) a
    (omega (arith, room, many, at, c.requires.samples, c.loop-column.auto.samples)) (omega (arith, c.draw_listed_tile.auto.samples, room, many, at, c.requires.samples, c.loop-column.auto.samples)) many at c.tile-tile.result c.tile-tile.ensures c.loop-column.invariant c.draw_listed_tile.ensures

pub returns : goal.returns
returns g c =
    let ts = g.T.Triangles.listed c.args.triangles.now in
    let self = c.args.self.now in
    let list = c.args.list.now in
    let row = c.args.row in
    let column = c.loop-column.column in
    let past : min list.span.end (columns_of self) ≤ column = omega (arith, c.loop-column-test.false, c.min-column-end.ensures, c.column_count.ensures.value) in
    all_drawn ts self row (row + 1) column_of column c.args.samples.now c.loop-column.samples
    (λ i j s h behind x. row_unmet ts self row list.numbers list.columns.firsts list.columns.ends list.count list.span c.requires.list i j s h (λ inside. let below = inside.below in let inside_picture = h.column in omega (arith, below, inside_picture, behind, past)) x)
    c.loop-column.invariant
