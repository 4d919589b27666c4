use Rattle.std.proofs.Common.{◌≡◌, ◌+◌, ◌-◌, ◌≤◌, ℕ, ap, sym, subst, length, take, drop, arith}
use Rattle.grid.specs.Samples.{count_of}
use Rattle.blocks.specs.Layout.{planes_of_tile}
use Rattle.canvas.specs.Drawing.{TileHasEnds}
use Rattle.blocks.proofs.Cut.{put}
use Rattle.canvas.proofs.DrawnTiles.{own_put, mark_put, tile_drawn}
use Rattle.canvas.proofs.triangles.draw_tile.Goals as goal

pub returns : goal.returns
returns c =
    let ts = c.args.chunk.now in
    let tile = c.args.tile.now in
    let filled = c.fill_tile.new.samples in
    let part = c.draw_blocks.new.samples in
    let own : ℕ = 1 + c.count.result in
    let at : own ≡ 1 + count_of tile.count = ap (λ n. 1 + n) c.count.ensures in
    let long : length filled ≡ planes_of_tile tile.count = omega (arith, c.fill_tile.auto.samples, c.requires.samples) in
    let fits : own ≤ length filled = omega (arith, at, long) in
    let n : ℕ = length filled - own in
    let room : own + n ≤ length filled = omega (arith, fits) in
    let size : length part ≡ n = omega (arith, c.draw_blocks.auto.samples, fits) in
    tile_drawn ts tile c.requires.side c.args.samples.now filled (put filled part own n) n own (omega (arith, fits, long)) at c.fill_tile.ensures.own
    (mark_put filled part n own room size (omega arith)) c.fill_tile.ensures.kept
    (subst (λ xs. TileHasEnds ts tile (take n (drop own filled)) xs) (sym (own_put filled part n own room size)) c.draw_blocks.ensures)
