use Rattle.std.proofs.Common.{◌≡◌}
use Rattle.bins.specs.Bin.{AreOfTiles}
use Rattle.engine.specs.Picture.{WritesRows}
use Rattle.engine.proofs.picture.write_alone.Given as goal

-- the tile rows so far are written, the store is unchanged, and the bins are those of their tiles
abbrev pub invariant-loop-row : goal.invariant-loop-row
invariant-loop-row g l = record {
  rows : WritesRows l.rows.list.now l.rows.tiling.now.side l.rows.first l.row l.before l.written (g.W.Write.contents l.fn.output.inner) (g.W.Write.contents l.output.inner);
  store : l.store ≡ l.initial.store;
  bins : AreOfTiles l.rows.list.now l.rows.tiling.now l.bins;
  same_failures : l.output.failures ≡ l.fn.output.failures;
}
