use Rattle.std.proofs.Common.{◌≡◌, ℕ, ◌<◌, slice_index}
use Rattle.blocks.specs.Layout.{mask_of}
use Rattle.blocks.proofs.pair.set_masks.Given as goal

abbrev pub invariant-loop-s : goal.invariant-loop-s
invariant-loop-s l = (t : ℕ) → t < l.s → mask_of l.plane t ≡ slice_index l.fn.masks t
