use Rattle.std.proofs.Common.{◌*◌, slice_index}
use Rattle.blocks.proofs.MaskBits.{AreBitSums}
use Rattle.blocks.proofs.block_means.sum_bits.Given as goal

abbrev pub invariant-loop-part : goal.invariant-loop-part
invariant-loop-part l = AreBitSums (4 * l.part) (slice_index l.masks) l.bits

abbrev pub invariant-loop-s : goal.invariant-loop-s
invariant-loop-s l = AreBitSums l.s (slice_index l.masks) l.bits
