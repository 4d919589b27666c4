use Rattle.std.proofs.Common.{◌≡◌, ◌+◌, ◌-◌, ◌≤◌, min, IfSome}
use Rattle.bins.specs.Bin.{AreBins}
use Rattle.engine.specs.Picture.{WritesRows}
use Rattle.tiling.specs.Tiles.{AreTiles}
use Rattle.engine.proofs.picture.write_together.Given as goal

-- the tile rows before `above` are written, those from there to before `first` are drawn, and what is there of bins are those of the
-- next batch
abbrev pub invariant-loop-first : goal.invariant-loop-first
invariant-loop-first g l = record {
  begin : l.rows.first ≤ l.above;
  order : l.above ≤ l.first;
  end : l.first ≤ l.rows.end;
  written : WritesRows l.rows.list.now l.rows.tiling.now.side l.rows.first l.above l.before l.written (g.W.Write.contents l.fn.output.inner) (g.W.Write.contents l.output.inner);
  tiles : AreTiles l.rows.list.now l.rows.tiling.now l.above l.first l.tiles.items;
  bins : IfSome l.bins (AreBins l.rows.list.now l.rows.tiling.now l.first (min l.rows.end (l.first + l.together) - l.first));
  same_failures : l.output.failures ≡ l.fn.output.failures;
}

abbrev pub decreases-loop-first : goal.decreases-loop-first
decreases-loop-first g l = l.rows.end - l.first
