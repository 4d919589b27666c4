use Rattle.std.proofs.Common.{◌+◌, ◌-◌, arith}
use Rattle.raster.proofs.PixelRow.{by_sums}
use Rattle.raster.proofs.pixel_row.colours_of_more.Goals as goal

pub returns-clause-colours : goal.returns-clause-colours
returns-clause-colours c i h =
    by_sums c.args.tile.now c.args.samples.now c.args.row c.args.column i c.place-place.result (c.place-place.result + c.count.result - c.place-place.result) c.colours_by_sums.result h
    c.requires.samples c.requires.row c.requires.column c.place-place.ensures.value (omega (arith, c.count.ensures)) c.colours_by_sums.ensures.means
