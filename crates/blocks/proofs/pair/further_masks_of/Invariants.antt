use Rattle.std.proofs.Common.{◌≡◌, ℕ, ◌<◌, length, slice_index}
use Rattle.blocks.specs.Layout.{mask_of, masks_from, first_further}
use Rattle.blocks.proofs.pair.further_masks_of.Given as goal

abbrev pub invariant-loop-s : goal.invariant-loop-s
invariant-loop-s l = record {
  long : length l.masks ≡ 16;
  read : (t : ℕ) → t < l.s → slice_index l.masks t ≡ mask_of (masks_from (first_further l.count) l.plane) t;
}
