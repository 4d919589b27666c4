use Rattle.std.proofs.Common.{refl, subst, ◌∙◌, ap, ◌-◌, ◌/◌, replicate}
use Rattle.lanes.specs.declared.block_samples.BlockSamples.{BlockSamples}
use Rattle.lanes.specs.Block.{stored_at}
use Rattle.blocks.specs.declared.way.Way.TheVariants.{Pair}
use Rattle.blocks.specs.Layout.{place_by, in_list}
use Rattle.blocks.proofs.Ways.{pair_not_four}
use Rattle.blocks.specs.Means.{HasMeansOf}
use Rattle.blocks.proofs.BlockMeans.{AreMeansBy, each_channel, bits_in_plane, means_of_both}
use Rattle.blocks.proofs.block_means.means_of_pair.Goals as goal

pub returns : goal.returns
returns g c =
    let count = c.known-count.result in
    let k = c.args.k in
    let xs = c.args.planes.now in
    let bits = c.count_bits-bits.result in
    let first = stored_at (in_list xs c.place_by.result) in
    let second = stored_at (in_list xs c.place_by-2.result) in
    let mean : BlockSamples = record { z = replicate 64 0; r = c.channel_of_both.result; g = c.channel_of_both-2.result; b = c.channel_of_both-3.result; alpha = c.channel_of_both-4.result } in
    subst (λ n. HasMeansOf n xs k mean) c.known-count.ensures
    (means_of_both count Pair xs k c.place_by-3.result first second bits mean c.requires.way refl pair_not_four
    (λ p l. ap (λ q. stored_at (in_list xs q) p) c.place_by.ensures.value)
    (λ p l. ap (λ q. stored_at (in_list xs q) p) (c.place_by-2.ensures.value ∙ ap (λ n. place_by count Pair k (n / 2)) c.count-many.ensures))
    (c.place_by-3.ensures.value ∙ ap (λ n. place_by count Pair k (n - 1)) c.count-many.ensures)
    (bits_in_plane count bits c.masks_of.result (in_list xs c.place_by-3.result) c.masks_of.ensures c.count_bits-bits.ensures.each)
    (each_channel (AreMeansBy count bits first second mean) c.channel_of_both.ensures c.channel_of_both-2.ensures c.channel_of_both-3.ensures c.channel_of_both-4.ensures))
