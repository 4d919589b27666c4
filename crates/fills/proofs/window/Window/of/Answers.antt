use Rattle.std.proofs.Common.{arith, ℕ, slice_index}
use Rattle.std.proofs.lemmas.Int.{ints}
use Rattle.grid.specs.Samples.{offsets_x, offsets_y}
use Rattle.polygons.proofs.Samples.{offset_x, offset_y}
use Rattle.fills.proofs.window.Window.of.Goals as goal

pub returns-clause-holds : goal.returns-clause-holds
returns-clause-holds c i j s wide short inside =
    let canvas = c.args.canvas.now in
    let ox : ℕ = slice_index (offsets_x canvas.count) s in
    let oy : ℕ = slice_index (offsets_y canvas.count) s in
    let across = c.blocks_with-left.ensures.all i ox (omega (arith, wide, canvas.width_fits)) (offset_x canvas.count s) (omega (arith, ints, inside.left)) (omega (arith, ints, inside.right)) in
    let down = c.blocks_with-top.ensures.all j oy (omega (arith, short, canvas.height_fits)) (offset_y canvas.count s) (omega (arith, ints, inside.top)) (omega (arith, ints, inside.bottom)) in
    (across.0, omega (arith, across.1, wide, c.min.ensures, c.column_count.ensures.value), omega (arith, down.0), omega (arith, down.1, short, c.div_ceil.ensures, c.min-2.ensures, c.row_count.ensures.value))
