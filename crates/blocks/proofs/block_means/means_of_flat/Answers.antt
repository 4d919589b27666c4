use Rattle.std.proofs.Common.{refl, subst, ◌∙◌, ap, ◌-◌, ◌/◌, replicate}
use Rattle.lanes.specs.declared.block_samples.BlockSamples.{BlockSamples}
use Rattle.lanes.specs.Block.{stored_at}
use Rattle.blocks.specs.declared.way.Way.TheVariants.{FlatPair, Own}
use Rattle.blocks.specs.Layout.{place_by, in_list}
use Rattle.blocks.proofs.Ways.{flat_pair_not_four}
use Rattle.blocks.specs.Means.{HasMeansOf}
use Rattle.blocks.proofs.BlockMeans.{AreMeansBy, each_channel, bits_in_plane, means_of_both}
use Rattle.blocks.proofs.block_means.means_of_flat.Goals as goal

pub returns : goal.returns
returns g c =
    let count = c.known-count.result in
    let k = c.args.k in
    let xs = c.args.planes.now in
    let bits = c.count_bits-bits.result in
    let mean : BlockSamples = record { z = replicate 64 0; r = c.means_of_bytes.result; g = c.means_of_bytes-2.result; b = c.means_of_bytes-3.result; alpha = c.means_of_alphas.result } in
    subst (λ n. HasMeansOf n xs k mean) c.known-count.ensures
    (means_of_both count FlatPair xs k c.place_by-3.result (λ p. c.sample-first.result) (λ p. c.sample-second.result) bits mean c.requires.way refl flat_pair_not_four
    (λ p l. c.sample-first.ensures ∙ ap (λ q. stored_at (in_list xs q) k) c.place_by.ensures.value)
    (λ p l. c.sample-second.ensures ∙ ap (λ q. stored_at (in_list xs q) k) (c.place_by-2.ensures.value ∙ ap (λ n. place_by count FlatPair k (n / 2)) c.count-many.ensures))
    (c.place_by-3.ensures.value ∙ ap (λ n. place_by count Own k (n - 1)) c.count-many.ensures)
    (bits_in_plane count bits c.masks_of.result (in_list xs c.place_by-3.result) c.masks_of.ensures c.count_bits-bits.ensures.each)
    (each_channel (AreMeansBy count bits (λ p. c.sample-first.result) (λ p. c.sample-second.result) mean) c.means_of_bytes.ensures c.means_of_bytes-2.ensures c.means_of_bytes-3.ensures c.means_of_alphas.ensures))
