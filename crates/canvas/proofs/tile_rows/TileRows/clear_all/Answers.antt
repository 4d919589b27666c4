use Rattle.std.proofs.Common.{◌≡◌, ◌+◌, ◌-◌, ◌*◌, ◌≤◌, ℕ, length, rules, arith}
use Rattle.shade.specs.Canvas.{with_alpha}
use Rattle.blocks.specs.Layout.{planes_of_tile}
use Rattle.canvas.specs.Layout.{columns_of}
use Rattle.blocks.proofs.Places.{part_within}
use Rattle.canvas.proofs.ClearedTiles.{all_tiles, one_cleared, none_cleared, all_cleared, all_uniform}
use Rattle.canvas.proofs.tile_rows.TileRows.clear_all.Goals as goal

pub slice_bounds-clear_tile-end : goal.slice_bounds-clear_tile-end
slice_bounds-clear_tile-end c =
    let self = c.args.self.now in
    let many : ℕ = (self.end - self.first) * columns_of self.canvas in
    let each : ℕ = c.planes_of_tile-each.result in
    let number : ℕ = c.loop-number.number in
    let room = part_within number many (planes_of_tile self.canvas.count) (omega (arith, c.loop-number-test.true, c.tiles-number-end.ensures.value)) in
    let all = all_tiles (self.end - self.first) (columns_of self.canvas) (planes_of_tile self.canvas.count) in
    let fits : number * each + each ≤ length c.loop-number.samples =
    rw c.planes_of_tile-each.ensures.value (omega (arith, room, all, c.requires, c.loop-number.auto.samples)) in
    search rules

pub loop-number-init : goal.loop-number-init
loop-number-init c =
    let self = c.args.self.now in
    none_cleared self.canvas self.first self.end (with_alpha c.args.sample c.args.alpha) c.args.samples.now

pub loop-number-preserved : goal.loop-number-preserved
loop-number-preserved c =
    let self = c.args.self.now in
    let pt : ℕ = planes_of_tile self.canvas.count in
    let many : ℕ = (self.end - self.first) * columns_of self.canvas in
    let each : ℕ = c.planes_of_tile-each.result in
    let number : ℕ = c.loop-number.number in
    let a : ℕ = number * each in
    let room = part_within number many pt (omega (arith, c.loop-number-test.true, c.tiles-number-end.ensures.value)) in
    let all = all_tiles (self.end - self.first) (columns_of self.canvas) pt in
    let size : a + each - a ≡ pt = omega (arith, c.planes_of_tile-each.ensures.value) in
    let at : a ≡ number * pt = rw c.planes_of_tile-each.ensures.value (omega arith) in
    one_cleared self.canvas self.first self.end (with_alpha c.args.sample c.args.alpha) number c.loop-number.samples c.clear_tile.new.samples (a + each - a) a
    (omega (arith, room, all, size, at, c.requires, c.loop-number.auto.samples))
    (omega (arith, c.clear_tile.auto.samples, room, all, size, at, c.requires, c.loop-number.auto.samples)) size at c.clear_tile.ensures.cleared c.clear_tile.ensures.uniform c.loop-number.invariant

pub returns-clause-cleared : goal.returns-clause-cleared
returns-clause-cleared c =
    let self = c.args.self.now in
    all_cleared self.canvas self.first self.end (with_alpha c.args.sample c.args.alpha) c.loop-number.number c.loop-number.samples (omega (arith, c.loop-number-test.false, c.tiles-number-end.ensures.value)) c.loop-number.invariant

pub returns-clause-uniform : goal.returns-clause-uniform
returns-clause-uniform c =
    let self = c.args.self.now in
    all_uniform self.canvas self.first self.end (with_alpha c.args.sample c.args.alpha) c.loop-number.number c.loop-number.samples (omega (arith, c.loop-number-test.false, c.tiles-number-end.ensures.value)) c.loop-number.invariant
