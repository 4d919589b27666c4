use Rattle.std.proofs.Common.{◌≡◌, ℕ, ◌<◌, length, slice_index}
use Rattle.block_fills.specs.Parts.{block_mask}
use Rattle.block_fills.proofs.masks.Masks.words.Given as goal

abbrev pub invariant-loop-s : goal.invariant-loop-s
invariant-loop-s l = record {
  long : length l.words ≡ 16;
  made : (r : ℕ) → r < l.s → slice_index l.words r ≡ block_mask l.self l.column l.row r;
}
