use Rattle.std.proofs.Common.{◌∙◌, arith}
use Rattle.raster.proofs.PixelRow.{few_samples, small_sums, lane_mean}
use Rattle.raster.proofs.pixel_row.colours_by_sums.Goals as goal

pub sums-requires-clause-few : goal.sums-requires-clause-few
sums-requires-clause-few c = omega (arith, few_samples c.args.bits c.requires.bits, c.requires.samples)

pub means_of_sums-requires-clause-small : goal.means_of_sums-requires-clause-small
means_of_sums-requires-clause-small c = small_sums c.args.bits _ _ _ c.requires.bits c.requires.samples c.sums.ensures.red

pub means_of_sums-requires-2-clause-small : goal.means_of_sums-requires-2-clause-small
means_of_sums-requires-2-clause-small c = small_sums c.args.bits _ _ _ c.requires.bits c.requires.samples c.sums.ensures.green

pub means_of_sums-requires-3-clause-small : goal.means_of_sums-requires-3-clause-small
means_of_sums-requires-3-clause-small c = small_sums c.args.bits _ _ _ c.requires.bits c.requires.samples c.sums.ensures.blue

pub returns-clause-means : goal.returns-clause-means
returns-clause-means c i h =
    let bytes = c.interleaved.ensures.bytes i h in
    let mean = lane_mean c.args.bits c.args.half in (
      bytes.0 ∙ mean _ _ _ _ i h c.requires.samples c.requires.half c.sums.ensures.red (c.means_of_sums.ensures.each i h),
      bytes.1 ∙ mean _ _ _ _ i h c.requires.samples c.requires.half c.sums.ensures.green (c.means_of_sums-2.ensures.each i h),
      bytes.2 ∙ mean _ _ _ _ i h c.requires.samples c.requires.half c.sums.ensures.blue (c.means_of_sums-3.ensures.each i h),
    )
