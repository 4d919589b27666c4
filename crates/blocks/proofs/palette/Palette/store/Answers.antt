use Rattle.std.proofs.Common.{◌≡◌, ◌∙◌, ap, ◌-◌, slice_index}
use Rattle.grid.specs.Samples.{count_of}
use Rattle.blocks.specs.declared.flat_block.FlatBlock.{FlatBlock}
use Rattle.blocks.specs.declared.way.Way.TheVariants.{Own}
use Rattle.blocks.specs.Layout.{further_plane, place_by}
use Rattle.blocks.specs.Palettes.{sample_numbered}
use Rattle.blocks.proofs.Palettes.{two_samples, has_flat, four_made, four_ways, four_others}
use Rattle.blocks.proofs.palette.Palette.store.Goals as goal

pub returns-then-not-has_bits-clause-made : goal.returns-then-not-has_bits-clause-made
returns-then-not-has_bits-clause-made c =
    let palette = c.args.self.now in
    let flat : FlatBlock = record { first = sample_numbered palette.samples 0; second = sample_numbered palette.samples 1; masks = palette.low } in
    has_flat c.args.count c.args.k c.store.new.samples palette flat (λ s p h l. two_samples palette.samples (slice_index palette.low s) p (slice_index palette.high s) (c.has_bits.ensures.0 c.if-not-has_bits.true s h)) c.store.ensures.made

pub returns-clause-made : goal.returns-clause-made
returns-clause-made c =
    let count = c.args.count in
    let k = c.args.k in
    let masks : c.place_by-masks.result ≡ place_by count Own k (count_of count - 1) = c.place_by-masks.ensures.value ∙ ap (λ n. place_by count Own k (n - 1)) c.count.ensures in
    let more : c.place_by-more.result ≡ place_by count Own k (further_plane count) = c.place_by-more.ensures.value ∙ ap (place_by count Own k) c.further_plane.ensures.value in
    four_made count k c.args.self.now c.set_masks.new.plane c.set_further_masks.new.plane c.set_way.new.state c.args.samples.now c.store_samples.new.samples c.place_by-masks.result c.place_by-more.result masks more c.requires.some c.requires.block
    (c.store_samples.auto.samples ∙ c.requires.samples) c.store_samples.ensures.stored c.store_samples.ensures.others c.store_samples.ensures.first c.set_masks.ensures c.set_further_masks.ensures.set c.set_further_masks.ensures.before c.set_way.ensures.set c.set_way.ensures.others

pub returns-clause-ways : goal.returns-clause-ways
returns-clause-ways c =
    let count = c.args.count in
    let k = c.args.k in
    let masks : c.place_by-masks.result ≡ place_by count Own k (count_of count - 1) = c.place_by-masks.ensures.value ∙ ap (λ n. place_by count Own k (n - 1)) c.count.ensures in
    let more : c.place_by-more.result ≡ place_by count Own k (further_plane count) = c.place_by-more.ensures.value ∙ ap (place_by count Own k) c.further_plane.ensures.value in
    four_ways count k c.args.self.now c.set_masks.new.plane c.set_further_masks.new.plane c.set_way.new.state c.args.samples.now c.store_samples.new.samples c.place_by-masks.result c.place_by-more.result masks more c.requires.some c.requires.block
    (c.store_samples.auto.samples ∙ c.requires.samples) c.store_samples.ensures.stored c.store_samples.ensures.others c.store_samples.ensures.first c.set_masks.ensures c.set_further_masks.ensures.set c.set_further_masks.ensures.before c.set_way.ensures.set c.set_way.ensures.others

pub returns-clause-others : goal.returns-clause-others
returns-clause-others c =
    let count = c.args.count in
    let k = c.args.k in
    let masks : c.place_by-masks.result ≡ place_by count Own k (count_of count - 1) = c.place_by-masks.ensures.value ∙ ap (λ n. place_by count Own k (n - 1)) c.count.ensures in
    let more : c.place_by-more.result ≡ place_by count Own k (further_plane count) = c.place_by-more.ensures.value ∙ ap (place_by count Own k) c.further_plane.ensures.value in
    four_others count k c.args.self.now c.set_masks.new.plane c.set_further_masks.new.plane c.set_way.new.state c.args.samples.now c.store_samples.new.samples c.place_by-masks.result c.place_by-more.result masks more c.requires.some c.requires.block
    (c.store_samples.auto.samples ∙ c.requires.samples) c.store_samples.ensures.stored c.store_samples.ensures.others c.store_samples.ensures.first c.set_masks.ensures c.set_further_masks.ensures.set c.set_further_masks.ensures.before c.set_way.ensures.set c.set_way.ensures.others
