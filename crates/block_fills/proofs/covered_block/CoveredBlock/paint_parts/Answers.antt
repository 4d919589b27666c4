use Rattle.std.proofs.Common.{◌≡◌, arith, sym, subst, ◌+◌, ◌≤◌, List}
use Rattle.blocks.specs.declared.way.Way.TheVariants.{Own}
use Rattle.blocks.specs.Layout.{way_in_tile}
use Rattle.lanes.specs.declared.block_samples.BlockSamples.{BlockSamples}
use Rattle.block_fills.specs.Parts.{number_in_tile, IsInBlock, TilePaints}
use Rattle.block_fills.proofs.BlockParts.{OfParts, no_part, block_part_more, block_part_skipped, every_part}
use Rattle.block_fills.proofs.SampleParts.{is_part}
use Rattle.block_fills.proofs.covered_block.CoveredBlock.paint_parts.Goals as goal
use Rattle.block_fills.proofs.covered_block.CoveredBlock.paint_parts.Goals.{then-has_some, else-has_some}

pub paint_part-requires-clause-part : goal.paint_part-requires-clause-part
paint_part-requires-clause-part c = is_part c.args.self.now.tile.now.count c.loop-part.part (omega (arith, c.loop-part-test.true, c.parts-part-end.ensures))

pub loop-part-init : goal.loop-part-init
loop-part-init c =
    let f = c.args.self.now.fragment.now in
    let tile = c.args.self.now.tile.now in
    record {
      own = subst (λ k. way_in_tile c.fill_block.new.samples k ≡ Own) c.number.ensures.value c.fill_block.ensures.own;
      painted = no_part f tile (IsInBlock f.state tile c.args.self.now.bx c.args.self.now.by c.args.masks.now c.args.k) c.args.samples.now c.fill_block.new.samples c.fill_block.ensures.kept;
    }

pub loop-part-preserved : goal.loop-part-preserved
loop-part-preserved c =
    let f = c.args.self.now.fragment.now in
    let tile = c.args.self.now.tile.now in
    let masks = c.args.masks.now in
    let part = c.loop-part.part in
    let v = c.loop-part.invariant in
    let old = c.args.samples.now in
    let mid = c.loop-part.samples in
    let words = c.part-words.result in
    let low : tile.by ≤ c.args.self.now.by = c.args.self.now.block.top in
    let AreOwn = λ (xs : List BlockSamples). way_in_tile xs (number_in_tile tile c.args.self.now.bx c.args.self.now.by) ≡ Own in
    let Painted = λ (xs : List BlockSamples). TilePaints f tile (OfParts (IsInBlock f.state tile c.args.self.now.bx c.args.self.now.by masks c.args.k) (part + 1)) old xs in
    elim c.if-has_some.branch [
      | then-has_some w ↦ record {
        own = subst AreOwn (sym w.samples-is) w.paint_part.ensures.own;
        painted = subst Painted (sym w.samples-is)
            (block_part_more f tile c.args.self.now.bx c.args.self.now.by masks c.args.k part words low c.part-words.ensures old mid w.paint_part.new.samples v.painted w.paint_part.ensures.painted);
      }
      | else-has_some w ↦ record {
        own = subst AreOwn (sym w.samples-is) v.own;
        painted = subst Painted (sym w.samples-is)
            (block_part_skipped f tile c.args.self.now.bx c.args.self.now.by masks c.args.k part words low c.part-words.ensures old mid (c.has_some.ensures w.if-has_some.false) v.painted);
      }
    ]

pub returns : goal.returns
returns c =
    let f = c.args.self.now.fragment.now in
    let tile = c.args.self.now.tile.now in
    every_part f tile (IsInBlock f.state tile c.args.self.now.bx c.args.self.now.by c.args.masks.now c.args.k) c.loop-part.part c.args.samples.now c.loop-part.samples
    (omega (arith, c.loop-part-test.false, c.parts-part-end.ensures)) c.loop-part.invariant.painted
