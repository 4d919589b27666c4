use Rattle.std.proofs.Common.{◌∙◌, ap, ◌-◌}
use Rattle.blocks.specs.Layout.{place_by}
use Rattle.blocks.specs.declared.way.Way.TheVariants.{Pair}
use Rattle.blocks.proofs.Pairs.{is_pair, pair_ways, has_masks, pair_made, pair_others}
use Rattle.blocks.proofs.pair_blocks.make_pair.Goals as goal

pub returns : goal.returns
returns c =
    let count = c.args.count in
    let k = c.args.k in
    let masks = c.args.masks.now in
    let marks = c.set_masks.new.plane in
    let state = c.set_way.new.state in
    let old = c.args.samples.now in
    let last = c.place_by.ensures.value ∙ ap (λ n. place_by count Pair k (n - 1)) c.count.ensures in
    record {
      pair = is_pair count k masks marks state old _ last c.requires.some c.requires.block c.requires.samples c.set_masks.ensures c.set_way.ensures.set c.set_way.ensures.others;
      ways = pair_ways count k masks marks state old _ last c.requires.some c.requires.block c.requires.samples c.set_masks.ensures c.set_way.ensures.set c.set_way.ensures.others;
      masks = has_masks count k masks marks state old _ last c.requires.some c.requires.block c.requires.samples c.set_masks.ensures c.set_way.ensures.set c.set_way.ensures.others;
      made = pair_made count k masks marks state old _ last c.requires.some c.requires.block c.requires.samples c.set_masks.ensures c.set_way.ensures.set c.set_way.ensures.others;
      others = pair_others count k masks marks state old _ last c.requires.some c.requires.block c.requires.samples c.set_masks.ensures c.set_way.ensures.set c.set_way.ensures.others;
    }
