use Rattle.std.proofs.Common.{rules, ◌≡◌, ◌+◌, ◌-◌, ◌*◌, ◌<◌, ◌≤◌, ap, ap₂, length, take, drop, arith}
use Rattle.tiling.specs.Grid.{columns_of, tiles_over}
use Rattle.tiling.proofs.JoinedRows.{adds_of, added_next}
use Rattle.tiling.proofs.Tiled.{row_fits, row_of_tiles}
use Rattle.tile_rows.proofs.tile_rows.TileRows.join.Goals as goal

pub slice_bounds-join-end : goal.slice_bounds-join-end
slice_bounds-join-end c =
    let s = c.args.self.now in
    let fits : (c.loop-row.row - s.first) * c.columns-columns.result + c.columns-columns.result ≤ length c.args.tiles.now =
    rw c.columns-columns.ensures.value (row_fits s.list.now s.tiling.now s.first s.end c.loop-row.row c.args.tiles.now c.requires c.loop-row.auto.row c.loop-row-test.true) in
    search rules

pub join-requires : goal.join-requires
join-requires c =
    let s = c.args.self.now in
    let start : (c.loop-row.row - s.first) * c.columns-columns.result ≡ (c.loop-row.row - s.first) * columns_of s.tiling.now = ap (λ n. (c.loop-row.row - s.first) * n) c.columns-columns.ensures.value in
    let many : (c.loop-row.row - s.first) * c.columns-columns.result + c.columns-columns.result - (c.loop-row.row - s.first) * c.columns-columns.result ≡ columns_of s.tiling.now =
    omega (arith, c.columns-columns.ensures.value) in
    let row = row_of_tiles s.list.now s.tiling.now s.first s.end c.loop-row.row c.args.tiles.now c.requires c.loop-row.auto.row c.loop-row-test.true _ (ap₂ (λ n m. take n (drop m c.args.tiles.now)) many start) in
    rw (c.new-tile_row.ensures.0, c.new-tile_row.ensures.1, c.new-tile_row.ensures.2) row

pub loop-row-preserved : goal.loop-row-preserved
loop-row-preserved c =
    let s = c.args.self.now in
    let added = adds_of s.list.now c.new-tile_row.result.list.now s.tiling.now c.new-tile_row.result.tiling.now c.loop-row.row c.new-tile_row.result.row _ _ c.new-tile_row.ensures.0 c.new-tile_row.ensures.1 c.new-tile_row.ensures.2 c.in_ok-join.ensures in
    let below : c.loop-row.row < tiles_over s.tiling.now.height s.tiling.now.side = omega (arith, c.loop-row-test.true, s.within) in
    added_next s.list.now s.tiling.now s.first c.loop-row.row _ _ _ s.height c.loop-row.auto.row (rw s.height at below) c.loop-row.invariant added
