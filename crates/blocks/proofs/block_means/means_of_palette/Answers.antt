use Rattle.std.proofs.Common.{subst, replicate, arith}
use Rattle.lanes.specs.declared.block_samples.BlockSamples.{BlockSamples}
use Rattle.blocks.specs.declared.block_means.Channel.TheVariants.{Red, Green, Blue, Alpha}
use Rattle.blocks.specs.Means.{HasMeansOf}
use Rattle.blocks.proofs.BlockMeans.{four_numbers, many_numbered, mean_of_numbers, means_of_four}
use Rattle.blocks.proofs.Palettes.{has_palette}
use Rattle.blocks.proofs.block_means.means_of_palette.Goals as goal

pub others-noughts-requires-clause-few : goal.others-noughts-requires-clause-few
others-noughts-requires-clause-few g c p l =
    let count = c.known-count.result in
    let palette = c.stored-palette.result in
    let ones = many_numbered count palette 1 c.pixels_of.result c.count_bits-ones.result c.pixels_of.ensures c.count_bits-ones.ensures.each p l in
    let twos = many_numbered count palette 2 c.pixels_of-2.result c.count_bits-twos.result c.pixels_of-2.ensures c.count_bits-twos.ensures.each p l in
    let threes = many_numbered count palette 3 c.pixels_of-3.result c.count_bits-threes.result c.pixels_of-3.ensures c.count_bits-threes.ensures.each p l in
    omega (arith, ones, twos, threes, four_numbers count palette p)

pub returns : goal.returns
returns g c =
    let count = c.known-count.result in
    let palette = c.stored-palette.result in
    let ones = many_numbered count palette 1 c.pixels_of.result c.count_bits-ones.result c.pixels_of.ensures c.count_bits-ones.ensures.each in
    let twos = many_numbered count palette 2 c.pixels_of-2.result c.count_bits-twos.result c.pixels_of-2.ensures c.count_bits-twos.ensures.each in
    let threes = many_numbered count palette 3 c.pixels_of-3.result c.count_bits-threes.result c.pixels_of-3.ensures c.count_bits-threes.ensures.each in
    let all = c.others-noughts.ensures.each in
    let mean : BlockSamples = record { z = replicate 64 0; r = c.means_of_four.result; g = c.means_of_four-2.result; b = c.means_of_four-3.result; alpha = c.alphas_of_four.result } in
    subst (λ n. HasMeansOf n c.args.planes.now c.args.k mean) c.known-count.ensures
    (means_of_four count c.args.k c.args.planes.now palette mean (has_palette count c.args.k c.args.planes.now palette c.requires.way c.stored-palette.ensures)
    (λ p l. record {
      red = mean_of_numbers count palette Red p _ _ _ _ _ (all p l) (ones p l) (twos p l) (threes p l) (c.means_of_four.ensures p l);
      green = mean_of_numbers count palette Green p _ _ _ _ _ (all p l) (ones p l) (twos p l) (threes p l) (c.means_of_four-2.ensures p l);
      blue = mean_of_numbers count palette Blue p _ _ _ _ _ (all p l) (ones p l) (twos p l) (threes p l) (c.means_of_four-3.ensures p l);
      alpha = mean_of_numbers count palette Alpha p _ _ _ _ _ (all p l) (ones p l) (twos p l) (threes p l) (c.alphas_of_four.ensures p l);
    }))
