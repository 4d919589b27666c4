use Rattle.std.proofs.Common.{◌≡◌, ◌+◌, ◌*◌, min, arith}
use Rattle.tile.proofs.PixelRuns.{prefix_more}
use Rattle.tile.proofs.pixels.SampledTile.push_row.Goals as goal

pub loop-column-init : goal.loop-column-init
loop-column-init c =
    let none : c.args.row * c.args.width + min (8 * 0) c.args.width ≡ c.args.row * c.args.width = omega arith in
    rw none c.requires.above

pub push_pixel_run-requires-clause-shown : goal.push_pixel_run-requires-clause-shown
push_pixel_run-requires-clause-shown c = λ i below. c.requires.shown (8 * c.loop-column.column + i) (omega (arith, below, c.min-many.ensures))

pub loop-column-preserved : goal.loop-column-preserved
loop-column-preserved c =
    let tile = c.args.self.now.tile.now in
    let many = c.min-many.ensures in
    prefix_more c.args.self.now.list.now (8 * tile.bx) (8 * tile.by) c.args.width _ _ (8 * c.loop-column.column) c.args.row c.min-many.result _ _ c.loop-column.invariant (omega arith) (omega arith) (omega arith) c.in_ok-push_pixel_run.ensures

pub returns : goal.returns
returns c =
    let all : c.args.row * c.args.width + min (8 * c.loop-column.column) c.args.width ≡ (c.args.row + 1) * c.args.width = omega arith in
    rw all at c.loop-column.invariant
