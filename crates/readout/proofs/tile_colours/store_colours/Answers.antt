use Rattle.std.proofs.Common.{◌≡◌, ◌∙◌, sym, ap, ◌<◌, ℕ, slice_index}
use Rattle.grid.specs.Samples.{count_of}
use Rattle.shade.proofs.Resolved.{some_samples}
use Rattle.lanes.specs.declared.block_samples.BlockSamples.{BlockSamples}
use Rattle.blocks.specs.Layout.{way_of, stored_in_tile, id_of}
use Rattle.readout.specs.Tiles.{with_colour}
use Rattle.readout.proofs.TileEntries.{one_says, each_says}
use Rattle.readout.proofs.tile_colours.store_colours.Goals as goal

pub returns-then-colours-eq1-clause-stored : goal.returns-then-colours-eq1-clause-stored
returns-then-colours-eq1-clause-stored c i j s h =
    c.store_one.ensures.stored i j s h ∙ sym (ap (λ n. with_colour n (stored_in_tile c.args.count c.args.samples.now i j s)) (one_says c.args.count c.args.colours.now i j s c.if-colours-eq1.true))

pub returns-then-colours-eq1-clause-uniform : goal.returns-then-colours-eq1-clause-uniform
returns-then-colours-eq1-clause-uniform c one u =
    let count = c.args.count in
    let colour : ℕ = slice_index c.args.colours.now 0 in
    let same : (i j s : ℕ) → s < count_of count → id_of (stored_in_tile count c.store_one.new.samples i j s) ≡ id_of (with_colour colour (stored_in_tile count c.args.samples.now 0 0 0)) = λ i j s h. ap id_of (c.store_one.ensures.stored i j s h) in
    record {
      cleared = λ k l. ap (λ (p : BlockSamples). way_of p k) c.store_one.ensures.first ∙ u.cleared k l;
      one = λ i j s h. same i j s h ∙ sym (same 0 0 0 (some_samples count));
    }

pub returns-else-colours-eq1-clause-stored : goal.returns-else-colours-eq1-clause-stored
returns-else-colours-eq1-clause-stored c i j s h =
    c.store_each.ensures i j s h ∙ sym (ap (λ n. with_colour n (stored_in_tile c.args.count c.args.samples.now i j s)) (each_says c.args.count c.args.colours.now i j s c.if-colours-eq1.false))
