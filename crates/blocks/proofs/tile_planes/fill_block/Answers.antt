use Rattle.std.proofs.Common.{◌<◌, sym, length, arith}
use Rattle.blocks.proofs.TilePlanes.{block_own, block_ways, block_same}
use Rattle.blocks.proofs.tile_planes.fill_block.Goals as goal

pub returns : goal.returns
returns c =
    let count = c.args.count in
    let k = c.args.k in
    let old = c.args.samples.now in
    let way = c.way_of-way.result in
    let filled = c.fill_planes.new.samples in
    let state = c.set_way.new.state in
    let some : 0 < length filled = omega (arith, c.fill_planes.auto.samples, c.requires.samples) in
    record {
      own = block_own count k way old filled state some (sym c.way_of-way.ensures) c.set_way.ensures.set c.set_way.ensures.others c.fill_planes.ensures.own c.fill_planes.ensures.others;
      ways = block_ways count k way old filled state some (sym c.way_of-way.ensures) c.set_way.ensures.set c.set_way.ensures.others c.fill_planes.ensures.own c.fill_planes.ensures.others;
      kept = block_same count k way old filled state some (sym c.way_of-way.ensures) c.set_way.ensures.set c.set_way.ensures.others c.fill_planes.ensures.own c.fill_planes.ensures.others;
    }
