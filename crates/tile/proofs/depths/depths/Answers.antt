use Rattle.tile.proofs.PixelRuns.{depth_in}
use Rattle.tile.proofs.depths.depths.Goals as goal

pub returns : goal.returns
returns c = λ i h.
    let bytes = rw c.place.ensures.value at (c.in_bytes.ensures i h) in
    depth_in c.args.tile.now c.args.samples.now c.args.row c.args.column i h _ _ bytes.0 bytes.1
