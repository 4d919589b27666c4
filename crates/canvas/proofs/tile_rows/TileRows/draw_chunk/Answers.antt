use Rattle.std.proofs.Common.{◌≡◌, ◌+◌, ◌-◌, ◌*◌, ◌<◌, ◌≤◌, ℕ, length, min, sym, subst, rules, arith}
use Rattle.canvas.specs.Layout.{planes_of_row}
use Rattle.blocks.proofs.Places.{part_within}
use Rattle.canvas.proofs.Ends.{none_drawn, one_missed, all_drawn, one_row_drawn, row_of_tiles, AreRowsDrawn}
use Rattle.canvas.proofs.Missed.{above_rows, behind_rows, no_mark_in_row}
use Rattle.canvas.proofs.tile_rows.TileRows.draw_chunk.Goals as goal
use Rattle.canvas.proofs.tile_rows.TileRows.draw_chunk.Goals.{then-marks-ne0, else-marks-ne0}

pub loop-row-init : goal.loop-row-init
loop-row-init c =
    let self = c.args.self.now in
    none_drawn c.args.chunk.now self.canvas self.first self.end row_of_tiles c.max-row.result c.args.samples.now
    (above_rows c.args.chunk.now self.canvas c.reach_of-reached.result self.first self.end self.within c.reach_of-reached.ensures c.max-row.result c.max-row.ensures)

pub slice_bounds-draw_row-end : goal.slice_bounds-draw_row-end
slice_bounds-draw_row-end c =
    let self = c.args.self.now in
    let row = c.loop-row.row in
    let each : ℕ = c.planes_of_row-each.result in
    let from : self.first ≤ row = omega (arith, c.loop-row.auto.row, c.max-row.ensures) in
    let below : row < self.end = omega (arith, c.loop-row-test.true, c.min-row-end.ensures) in
    let room = part_within (row - self.first) (self.end - self.first) (planes_of_row self.canvas) (omega (arith, from, below)) in
    let fits : (row - self.first) * each + each ≤ length c.loop-row.samples = rw c.planes_of_row-each.ensures.value (omega (arith, room, c.requires.samples, c.loop-row.auto.samples)) in
    search rules

pub loop-row-preserved : goal.loop-row-preserved
loop-row-preserved c =
    let ts = c.args.chunk.now in
    let self = c.args.self.now in
    let row = c.loop-row.row in
    let each : ℕ = c.planes_of_row-each.result in
    let a : ℕ = (row - self.first) * each in
    elim c.if-marks-ne0.branch [
      | then-marks-ne0 w ↦
          let from : self.first ≤ row = omega (arith, c.loop-row.auto.row, c.max-row.ensures) in
          let below : row < self.end = omega (arith, c.loop-row-test.true, c.min-row-end.ensures) in
          let many : a + each - a ≡ planes_of_row self.canvas = omega (arith, c.planes_of_row-each.ensures.value) in
          let at : a ≡ (row - self.first) * planes_of_row self.canvas = rw c.planes_of_row-each.ensures.value (omega arith) in
          let room = part_within (row - self.first) (self.end - self.first) (planes_of_row self.canvas) (omega (arith, from, below)) in
          subst (λ xs. AreRowsDrawn ts self.canvas self.first self.end (row + 1) c.args.samples.now xs) (sym w.samples-is)
          (one_row_drawn ts self.canvas self.first self.end row from c.args.samples.now c.loop-row.samples w.draw_row.new.samples (a + each - a) a
          (omega (arith, room, many, at, c.requires.samples, c.loop-row.auto.samples)) (omega (arith, w.draw_row.auto.samples, room, many, at, c.requires.samples, c.loop-row.auto.samples)) many at c.loop-row.invariant w.draw_row.ensures)
      | else-marks-ne0 w ↦
          subst (λ xs. AreRowsDrawn ts self.canvas self.first self.end (row + 1) c.args.samples.now xs) (sym w.samples-is)
          (one_missed ts self.canvas self.first self.end row_of_tiles row c.args.samples.now c.loop-row.samples
          (no_mark_in_row ts self.canvas c.reach_of-reached.result self.first self.end self.within c.reach_of-reached.ensures row w.if-marks-ne0.false) c.loop-row.invariant)
    ]

pub returns : goal.returns
returns c =
    let self = c.args.self.now in
    let row = c.loop-row.row in
    let past : min self.end c.reach_of-reached.result.rows.span.end ≤ row = omega (arith, c.loop-row-test.false, c.min-row-end.ensures) in
    all_drawn c.args.chunk.now self.canvas self.first self.end row_of_tiles row c.args.samples.now c.loop-row.samples
    (behind_rows c.args.chunk.now self.canvas c.reach_of-reached.result self.first self.end self.within c.reach_of-reached.ensures row past) c.loop-row.invariant
