use Rattle.std.proofs.Common.{arith}
use Rattle.shade.proofs.Resolved.{some_samples}
use Rattle.block_fills.proofs.OnePlane.{holds_block, plane_drawn}
use Rattle.block_fills.proofs.covered_block.CoveredBlock.draw_plane.Goals as goal

pub block_tile-block-requires-clause-column : goal.block_tile-block-requires-clause-column
block_tile-block-requires-clause-column c =
    let tile = c.args.self.now.tile.now in
    let right = rw c.args.self.now.side at c.args.self.now.block.right in
    let across = rw c.args.self.now.side at tile.column.aligned in
    omega (arith, right, across, tile.column.on_screen)

pub block_tile-block-requires-clause-row : goal.block_tile-block-requires-clause-row
block_tile-block-requires-clause-row c =
    let tile = c.args.self.now.tile.now in
    let bottom = rw c.args.self.now.side at c.args.self.now.block.bottom in
    let down = rw c.args.self.now.side at tile.row.aligned in
    omega (arith, bottom, down, tile.row.on_screen)

pub draw_fragment-requires-clause-whole : goal.draw_fragment-requires-clause-whole
draw_fragment-requires-clause-whole c true_is =
    holds_block c.args.self.now.fragment.now.state.scissor c.args.self.now.tile.now c.block_tile-block.result c.args.self.now.side c.args.self.now.bx c.args.self.now.by c.args.self.now.block c.block_tile-block.ensures (c.args.self.now.allows c.requires.whole).in_scissor

pub returns : goal.returns
returns c =
    let b = c.args.self.now in
    let allows = b.allows c.requires.whole in
    let o = c.block_tile-block.result in
    plane_drawn b.fragment.now o b.bx b.by c.args.plane.now c.draw_fragment.new.samples c.block_tile-block.ensures
    (holds_block b.fragment.now.state.scissor b.tile.now o b.side b.bx b.by b.block c.block_tile-block.ensures allows.in_scissor)
    (allows.in_mask 0 (some_samples b.tile.now.count)) c.draw_fragment.ensures
