use Rattle.std.proofs.Common.{refl, arith, sym, subst, ◌+◌, List}
use Rattle.lanes.specs.declared.block_samples.BlockSamples.{BlockSamples}
use Rattle.block_fills.specs.Parts.{IsInColumn, TilePaints}
use Rattle.block_fills.proofs.Columns.{one_block_more, one_block_skipped}
use Rattle.block_fills.proofs.Joined.{tile_none}
use Rattle.block_fills.proofs.column.paint_column.Goals as goal
use Rattle.block_fills.proofs.column.paint_column.Goals.{then-has_some, else-has_some}

pub loop-row-init : goal.loop-row-init
loop-row-init g c =
    let f = c.args.fragment.now in
    let tile = c.args.tile.now in
    tile_none f tile (IsInColumn f.state tile c.args.bx 0 c.args.masks.now c.args.k) c.args.samples.now (λ row column s h p. omega (arith, p.before))

pub loop-row-preserved : goal.loop-row-preserved
loop-row-preserved g c =
    let f = c.args.fragment.now in
    let tile = c.args.tile.now in
    let row = c.loop-row.row in
    let masks = c.args.masks.now in
    let After = λ (xs : List BlockSamples). TilePaints f tile (IsInColumn f.state tile c.args.bx (row + 1) masks c.args.k) c.args.samples.now xs in
    elim c.if-has_some.branch [
      | then-has_some w ↦
          subst After (sym w.samples-is)
          (one_block_more f tile c.args.bx row masks c.args.k c.args.samples.now c.loop-row.samples w.paint_block.new.samples c.loop-row.invariant w.paint_block.ensures)
      | else-has_some w ↦
          subst After (sym w.samples-is)
          (one_block_skipped f tile c.args.bx row masks c.args.k c.args.samples.now c.loop-row.samples (λ s h. w.if-has_some.ensures refl s (rw c.requires.count h)) c.loop-row.invariant)
    ]
