use Rattle.std.proofs.Common.{◌≡◌, ◌∙◌, ap, sym, ◌-◌, ◌/◌, slice_index}
use Rattle.grid.specs.Samples.{count_of}
use Rattle.blocks.specs.declared.way.Way.TheVariants.{FlatPair, Own}
use Rattle.blocks.specs.Layout.{place_by, pixel_in_block}
use Rattle.blocks.proofs.Pairs.{chosen_none}
use Rattle.blocks.proofs.FlatBlocks.{two_made, two_ways, two_others}
use Rattle.blocks.proofs.flat_block.FlatBlock.store.Goals as goal

pub returns-then-not-has_bits-clause-made : goal.returns-then-not-has_bits-clause-made
returns-then-not-has_bits-clause-made c i j s h here =
    let flat = c.args.self.now in
    c.make_flat.ensures.made i j s h here ∙ sym (chosen_none (slice_index flat.masks s) (pixel_in_block i j) flat.second flat.first (c.has_bits.ensures.0 c.if-not-has_bits.true s h))

pub returns-clause-made : goal.returns-clause-made
returns-clause-made c =
    let count = c.args.count in
    let k = c.args.k in
    let second : c.place_by-2.result ≡ place_by count FlatPair k (count_of count / 2) = c.place_by-2.ensures.value ∙ ap (λ n. place_by count FlatPair k (n / 2)) c.count.ensures in
    let last : c.place_by-masks.result ≡ place_by count Own k (count_of count - 1) = c.place_by-masks.ensures.value ∙ ap (λ n. place_by count Own k (n - 1)) c.count-2.ensures in
    two_made count k c.args.self.now c.set.new.self c.set_way.new.state c.args.samples.now c.place_by.result c.place_by.ensures.value c.requires.some c.requires.block c.requires.samples c.set.ensures.stored c.set.ensures.kept
    c.set-2.new.self c.set_masks.new.plane c.place_by-2.result c.place_by-masks.result second last c.set-2.ensures.stored c.set-2.ensures.kept c.set_masks.ensures c.set_way.ensures.set c.set_way.ensures.others

pub returns-clause-ways : goal.returns-clause-ways
returns-clause-ways c =
    let count = c.args.count in
    let k = c.args.k in
    let second : c.place_by-2.result ≡ place_by count FlatPair k (count_of count / 2) = c.place_by-2.ensures.value ∙ ap (λ n. place_by count FlatPair k (n / 2)) c.count.ensures in
    let last : c.place_by-masks.result ≡ place_by count Own k (count_of count - 1) = c.place_by-masks.ensures.value ∙ ap (λ n. place_by count Own k (n - 1)) c.count-2.ensures in
    two_ways count k c.args.self.now c.set.new.self c.set_way.new.state c.args.samples.now c.place_by.result c.place_by.ensures.value c.requires.some c.requires.block c.requires.samples c.set.ensures.stored c.set.ensures.kept
    c.set-2.new.self c.set_masks.new.plane c.place_by-2.result c.place_by-masks.result second last c.set-2.ensures.stored c.set-2.ensures.kept c.set_masks.ensures c.set_way.ensures.set c.set_way.ensures.others

pub returns-clause-others : goal.returns-clause-others
returns-clause-others c =
    let count = c.args.count in
    let k = c.args.k in
    let second : c.place_by-2.result ≡ place_by count FlatPair k (count_of count / 2) = c.place_by-2.ensures.value ∙ ap (λ n. place_by count FlatPair k (n / 2)) c.count.ensures in
    let last : c.place_by-masks.result ≡ place_by count Own k (count_of count - 1) = c.place_by-masks.ensures.value ∙ ap (λ n. place_by count Own k (n - 1)) c.count-2.ensures in
    two_others count k c.args.self.now c.set.new.self c.set_way.new.state c.args.samples.now c.place_by.result c.place_by.ensures.value c.requires.some c.requires.block c.requires.samples c.set.ensures.stored c.set.ensures.kept
    c.set-2.new.self c.set_masks.new.plane c.place_by-2.result c.place_by-masks.result second last c.set-2.ensures.stored c.set-2.ensures.kept c.set_masks.ensures c.set_way.ensures.set c.set_way.ensures.others
