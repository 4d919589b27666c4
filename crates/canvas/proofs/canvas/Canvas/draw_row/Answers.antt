use Rattle.std.proofs.Common.{◌≡◌, ◌+◌, ◌-◌, ◌*◌, ◌<◌, ◌≤◌, ℕ, min, sym, subst, arith}
use Rattle.blocks.specs.Layout.{planes_of_tile}
use Rattle.canvas.specs.Layout.{columns_of}
use Rattle.blocks.proofs.Places.{part_within}
use Rattle.canvas.proofs.Ends.{none_drawn, one_missed, all_drawn, one_tile_drawn, column_of, AreTilesDrawn}
use Rattle.canvas.proofs.Masks.{mask_of_tile}
use Rattle.canvas.proofs.Missed.{before_columns, behind_columns, no_mark_in_both}
use Rattle.canvas.proofs.canvas.Canvas.draw_row.Goals as goal
use Rattle.canvas.proofs.canvas.Canvas.draw_row.Goals.{then-mask-ne0, else-mask-ne0}

pub draw_tile-requires-clause-mask : goal.draw_tile-requires-clause-mask
draw_tile-requires-clause-mask c =
    let wide : c.loop-column.column < columns_of c.args.self.now = omega (arith, c.loop-column-test.true, c.min-column-end.ensures, c.column_count.ensures.value) in
    mask_of_tile c.args.self.now c.args.chunk.now c.args.reached.now c.loop-column.column c.args.row c.tile-tile.result c.tile-tile.ensures wide c.requires.row c.requires.reached

pub loop-column-init : goal.loop-column-init
loop-column-init c =
    let row = c.args.row in
    none_drawn c.args.chunk.now c.args.self.now row (row + 1) column_of c.args.reached.now.columns.span.first c.args.samples.now
    (before_columns c.args.chunk.now c.args.self.now c.args.reached.now row c.requires.row c.requires.reached c.args.reached.now.columns.span.first (omega arith))

pub loop-column-preserved : goal.loop-column-preserved
loop-column-preserved c =
    let ts = c.args.chunk.now in
    let self = c.args.self.now in
    let reached = c.args.reached.now in
    let row = c.args.row in
    let column = c.loop-column.column in
    let each : ℕ = c.planes_of_tile-each.result in
    let a : ℕ = column * each in
    elim c.if-mask-ne0.branch [
      | then-mask-ne0 w ↦
          let wide : column < columns_of self = omega (arith, c.loop-column-test.true, c.min-column-end.ensures, c.column_count.ensures.value) in
          let many : a + each - a ≡ planes_of_tile self.count = omega (arith, c.planes_of_tile-each.ensures.value) in
          let at : a ≡ column * planes_of_tile self.count = rw c.planes_of_tile-each.ensures.value (omega arith) in
          let room = part_within column (columns_of self) (planes_of_tile self.count) wide in
          subst (λ xs. AreTilesDrawn ts self row (column + 1) c.args.samples.now xs) (sym w.samples-is)
          (one_tile_drawn ts self row column c.args.samples.now c.loop-column.samples w.draw_tile.new.samples (a + each - a) a
          (omega (arith, room, many, at, c.requires.samples, c.loop-column.auto.samples)) (omega (arith, w.draw_tile.auto.samples, room, many, at, c.requires.samples, c.loop-column.auto.samples)) many at w.tile-tile.result w.tile-tile.ensures c.loop-column.invariant w.draw_tile.ensures)
      | else-mask-ne0 w ↦
          subst (λ xs. AreTilesDrawn ts self row (column + 1) c.args.samples.now xs) (sym w.samples-is)
          (one_missed ts self row (row + 1) column_of column c.args.samples.now c.loop-column.samples (no_mark_in_both ts self reached row c.requires.row c.requires.reached column w.if-mask-ne0.false) c.loop-column.invariant)
    ]

pub returns : goal.returns
returns c =
    let row = c.args.row in
    let column = c.loop-column.column in
    let past : min c.args.reached.now.columns.span.end (columns_of c.args.self.now) ≤ column = omega (arith, c.loop-column-test.false, c.min-column-end.ensures, c.column_count.ensures.value) in
    all_drawn c.args.chunk.now c.args.self.now row (row + 1) column_of column c.args.samples.now c.loop-column.samples
    (behind_columns c.args.chunk.now c.args.self.now c.args.reached.now row c.requires.row c.requires.reached column past) c.loop-column.invariant
