use Rattle.std.proofs.Common.{◌≡◌, ◌∙◌, ◌+◌, ◌-◌, ◌*◌, ◌<◌, ◌≤◌, ℕ, List, refl, ap, sym, subst, length, take, drop, rules, arith}
use Rattle.grid.specs.Samples.{count_of}
use Rattle.lanes.specs.declared.block_samples.BlockSamples.{BlockSamples}
use Rattle.shade.specs.declared.placed.Placed.{Placed}
use Rattle.blocks.specs.Layout.{stored_in_tile}
use Rattle.canvas.specs.Drawing.{TileHasEnds}
use Rattle.canvas.specs.Rows.{numbered}
use Rattle.blocks.proofs.Cut.{put}
use Rattle.canvas.proofs.DrawnTiles.{own_put, mark_put, tile_drawn}
use Rattle.canvas.proofs.Listed.{nothing, columns_of_tile, tile_of_row}
use Rattle.canvas.proofs.canvas.Canvas.draw_listed_tile.Goals as goal

pub loop-from-init : goal.loop-from-init
loop-from-init g c = record {
  place = refl;
  drawn = record { filled = c.fill_tile.new.samples; are_own = c.fill_tile.ensures.own; mark = refl; kept = c.fill_tile.ensures.kept; draws = λ row column s h. refl };
}

pub draw_some-requires : goal.draw_some-requires
draw_some-requires g c =
    let list = c.args.list.now in
    let self = c.args.self.now in
    let narrow : c.args.column < 64 = omega (arith, c.requires.column, self.width_fits) in
    let columns = columns_of_tile (g.T.Triangles.listed c.args.triangles.now) self c.args.row c.args.column list.numbers list.columns.firsts list.columns.ends list.count list.span c.requires.list c.args.tile.now c.requires.tile c.requires.column in
    (search rules, (c.loop-from.invariant.place, (c.loop-from-test.true, (narrow, (c.requires.list.below, (columns, rw (c.requires.tile.2, c.requires.tile.3) (omega (arith, c.requires.samples, c.fill_tile.auto.samples, c.loop-from.auto.samples, c.count.ensures))))))))

pub loop-from-preserved : goal.loop-from-preserved
loop-from-preserved g c =
    let self = c.args.self.now in
    let tile = c.args.tile.now in
    let list = c.args.list.now in
    let us : List Placed = numbered (g.T.Triangles.listed c.args.triangles.now) nothing (take list.count list.numbers) in
    let before = c.loop-from.invariant.drawn in
    let filled : List BlockSamples = before.filled in
    let xs = c.loop-from.samples in
    let part = c.draw_some.new.samples in
    let own : ℕ = 1 + c.count.result in
    let n : ℕ = length xs - own in
    let many : ℕ = 64 * count_of self.count in
    let is : n ≡ many = omega (arith, c.requires.samples, c.fill_tile.auto.samples, c.loop-from.auto.samples, c.count.ensures) in
    let room : own + n ≤ length xs = omega (arith, c.requires.samples, c.fill_tile.auto.samples, c.loop-from.auto.samples, c.count.ensures) in
    let size : length part ≡ n = omega (arith, c.draw_some.auto.samples, room) in
    let drawn : TileHasEnds (take c.loop-from.from us) tile (take many (drop own filled)) (take n (drop own xs)) =
    subst (λ k. TileHasEnds (take c.loop-from.from us) tile (take many (drop own filled)) (take k (drop own xs))) (sym is) before.draws in
    let next : TileHasEnds (take (c.loop-from.from + 16) us) tile (take many (drop own filled)) part = c.draw_some.ensures nothing (take many (drop own filled)) drawn in
    let back : take many (drop own (put xs part own n)) ≡ part = ap (λ k. take k (drop own (put xs part own n))) (sym is) ∙ own_put xs part n own room size in
    record {
      place = omega (arith, c.loop-from.invariant.place);
      drawn = record {
        filled = filled;
        are_own = before.are_own;
        mark = mark_put xs part n own room size (omega arith) ∙ before.mark;
        kept = before.kept;
        draws = subst (λ ys. TileHasEnds (take (c.loop-from.from + 16) us) tile (take many (drop own filled)) ys) (sym back) next;
      };
    }

pub returns : goal.returns
returns g c =
    let self = c.args.self.now in
    let tile = c.args.tile.now in
    let list = c.args.list.now in
    let ts = g.T.Triangles.listed c.args.triangles.now in
    let end = c.loop-from.invariant.drawn in
    let filled : List BlockSamples = end.filled in
    let same = sym c.requires.tile.3 in
    let own : ℕ = 1 + c.count.result in
    let many : ℕ = 64 * count_of self.count in
    let at : own ≡ 1 + count_of tile.count = ap (λ n. 1 + n) c.count.ensures ∙ ap (λ n. 1 + count_of n) same in
    tile_drawn ts tile c.requires.tile.2 c.args.samples.now filled c.loop-from.samples many own (rw c.requires.tile.3 (omega (arith, c.count.ensures))) at end.are_own end.mark
    (subst (λ n. (i j s : ℕ) → s < count_of n → stored_in_tile n filled i j s ≡ stored_in_tile n c.args.samples.now i j s) same end.kept)
    (tile_of_row ts self c.args.row c.args.column list.numbers list.columns.firsts list.columns.ends list.count list.span c.requires.list tile c.requires.tile c.requires.column
    c.loop-from.from (omega (arith, c.loop-from-test.false)) (take many (drop own filled)) (take many (drop own c.loop-from.samples)) end.draws)
