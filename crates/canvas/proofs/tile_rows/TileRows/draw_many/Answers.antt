use Rattle.std.proofs.Common.{◌≡◌, ◌+◌, ◌-◌, ◌*◌, ◌<◌, ◌≤◌, ℕ, length, min, rules, arith}
use Rattle.canvas.specs.Layout.{planes_of_row}
use Rattle.blocks.proofs.Places.{part_within}
use Rattle.canvas.proofs.Ends.{none_drawn, all_drawn, one_row_drawn, row_of_tiles}
use Rattle.canvas.proofs.Listed.{outside_bounds}
use Rattle.canvas.proofs.tile_rows.TileRows.draw_many.Goals as goal

pub loop-row-init : goal.loop-row-init
loop-row-init g c =
    let ts = g.T.Triangles.listed c.args.triangles.now in
    let self = c.args.self.now in
    let bounds = c.set.new.self in
    none_drawn ts self.canvas self.first self.end row_of_tiles c.max-row.result c.args.samples.now
    (λ i j s h above x. outside_bounds ts self.canvas self.first self.end self.within bounds.columns.firsts bounds.columns.ends bounds.rows.firsts bounds.rows.ends bounds.span c.set.ensures i j s h
    (λ inside. let from = inside.from in let first = h.from in omega (arith, from, first, above, c.max-row.ensures)) x)

pub slice_bounds-draw_listed_row-end : goal.slice_bounds-draw_listed_row-end
slice_bounds-draw_listed_row-end g c =
    let self = c.args.self.now in
    let row : ℕ = c.loop-row.row in
    let each : ℕ = c.planes_of_row-each.result in
    let from : self.first ≤ row = omega (arith, c.loop-row.auto.row, c.max-row.ensures) in
    let below : row < self.end = omega (arith, c.loop-row-test.true, c.min-row-end.ensures) in
    let room = part_within (row - self.first) (self.end - self.first) (planes_of_row self.canvas) (omega (arith, from, below)) in
    let fits : (row - self.first) * each + each ≤ length c.loop-row.samples = rw c.planes_of_row-each.ensures.value (omega (arith, room, c.requires.samples, c.loop-row.auto.samples)) in
    search rules

pub loop-row-preserved : goal.loop-row-preserved
loop-row-preserved g c =
    let ts = g.T.Triangles.listed c.args.triangles.now in
    let self = c.args.self.now in
    let row = c.loop-row.row in
    let each : ℕ = c.planes_of_row-each.result in
    let a : ℕ = (row - self.first) * each in
    let from : self.first ≤ row = omega (arith, c.loop-row.auto.row, c.max-row.ensures) in
    let below : row < self.end = omega (arith, c.loop-row-test.true, c.min-row-end.ensures) in
    let many : a + each - a ≡ planes_of_row self.canvas = omega (arith, c.planes_of_row-each.ensures.value) in
    let at : a ≡ (row - self.first) * planes_of_row self.canvas = rw c.planes_of_row-each.ensures.value (omega arith) in
    let room = part_within (row - self.first) (self.end - self.first) (planes_of_row self.canvas) (omega (arith, from, below)) in
    one_row_drawn ts self.canvas self.first self.end row from c.args.samples.now c.loop-row.samples c.draw_listed_row.new.samples (a + each - a) a
    (omega (arith, room, many, at, c.requires.samples, c.loop-row.auto.samples)) (omega (arith, c.draw_listed_row.auto.samples, room, many, at, c.requires.samples, c.loop-row.auto.samples)) many at c.loop-row.invariant c.draw_listed_row.ensures

pub returns : goal.returns
returns g c =
    let ts = g.T.Triangles.listed c.args.triangles.now in
    let self = c.args.self.now in
    let bounds = c.set.new.self in
    let row = c.loop-row.row in
    let past : min self.end bounds.span.end ≤ row = omega (arith, c.loop-row-test.false, c.min-row-end.ensures) in
    all_drawn ts self.canvas self.first self.end row_of_tiles row c.args.samples.now c.loop-row.samples
    (λ i j s h behind x. outside_bounds ts self.canvas self.first self.end self.within bounds.columns.firsts bounds.columns.ends bounds.rows.firsts bounds.rows.ends bounds.span c.set.ensures i j s h
    (λ inside. let below = inside.below in let end = h.below in omega (arith, below, end, behind, past)) x)
    c.loop-row.invariant
