use Rattle.std.proofs.Common.{◌≡◌, ◌↔◌, ℕ, ◌*◌, ◌<◌, ◌≤◌, slice_index}
use Rattle.polygons.proofs.four_words.are_zeros.Given as goal

abbrev pub invariant-loop-i : goal.invariant-loop-i
invariant-loop-i l = (l.any ≡ 0) ↔ ((i : ℕ) → 4 * l.row ≤ i → i < l.i → slice_index l.words i ≡ 0)
