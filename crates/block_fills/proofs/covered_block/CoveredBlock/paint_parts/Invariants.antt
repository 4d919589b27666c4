use Rattle.std.proofs.Common.{◌≡◌}
use Rattle.blocks.specs.declared.way.Way.TheVariants.{Own}
use Rattle.blocks.specs.Layout.{way_in_tile}
use Rattle.block_fills.specs.Parts.{number_in_tile, IsInBlock, TilePaints}
use Rattle.block_fills.proofs.BlockParts.{OfParts}
use Rattle.block_fills.proofs.covered_block.CoveredBlock.paint_parts.Given as goal

abbrev pub invariant-loop-part : goal.invariant-loop-part
invariant-loop-part l = record {
  own : way_in_tile l.samples (number_in_tile l.self.tile.now l.self.bx l.self.by) ≡ Own;
  painted : TilePaints l.self.fragment.now l.self.tile.now (OfParts (IsInBlock l.self.fragment.now.state l.self.tile.now l.self.bx l.self.by l.masks l.k) l.part) l.fn.samples l.samples;
}
