use Rattle.std.proofs.Common.{◌≡◌, ◌∙◌, ◌+◌, ◌<◌, ap, rules}
use Rattle.tiling.specs.Grid.{TileGrid, rows_of}
use Rattle.tiling.proofs.JoinedRows.{added_behind, added_by_names}
use Rattle.engine.proofs.picture_bytes.push_tile_rows.Goals as goal

pub loop-row-preserved : goal.loop-row-preserved
loop-row-preserved c =
    let at = c.loop-row.invariant in
    let rows = c.new-rows.ensures in
    let within : c.loop-row.row < rows_of c.new-tiling.result = search rules in
    let added = added_by_names c.args.list.now c.new-rows.result.list.now c.new-tiling.result c.new-rows.result.tiling.now c.loop-row.row c.new-rows.result.first _ _ _
    rows.0 rows.1 rows.2 (ap (λ n. n + 1) rows.2) c.in_ok-push_first.ensures.bytes in
    let same : c.new-tiling.result.height ≡ c.args.list.now.height = ap (λ (g : TileGrid). g.height) c.new-tiling.ensures ∙ c.height.ensures.value in
    record {
      added = added_behind c.args.list.now c.new-tiling.result.side c.args.first c.loop-row.row _ _ _ _ (search rules) (search rules) (rw same at within) at.added added;
      store = search rules;
      bins = rw (rows.0, rows.1) at c.push_first.ensures.bins;
    }

pub push_first-requires-clause-bins : goal.push_first-requires-clause-bins
push_first-requires-clause-bins c κs = rw (c.new-rows.ensures.0, c.new-rows.ensures.1) c.loop-row.invariant.bins
