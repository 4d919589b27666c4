use Rattle.std.proofs.Common.{rules}
use Rattle.tiling.proofs.Tiled.{tile_pushed}
use Rattle.tile_rows.proofs.tile_rows.TileRows.draw_alone.Goals as goal

pub loop-n-preserved : goal.loop-n-preserved
loop-n-preserved g c =
    let at = c.loop-n.invariant in record {
      tiles = tile_pushed _ _ _ _ _ _ c.in_ok-work.field-0 at.tiles c.in_ok-work.ensures.right c.push_reserved.ensures.items;
      number = search rules;
      room = search rules;
      store = search rules;
    }
