use Rattle.std.proofs.lemmas.Simd.{get_or-replicate}
use Rattle.lanes.proofs.block_samples.BlockSamples.filled.Goals as goal

pub returns : goal.returns
returns c k l =
    let s = c.args.sample in
    λ i. record { r = get_or-replicate 64 k s.r 0 l i; g = get_or-replicate 64 k s.g 0 l i; b = get_or-replicate 64 k s.b 0 l i; alpha = get_or-replicate 64 k c.args.alpha 0 l i; z = get_or-replicate 64 k s.z 0 l i }
