use Rattle.std.proofs.Common.{◌≡◌, ℕ, ◌<◌, ◌≤◌, slice_index}
use Rattle.polygons.specs.Spreading.{IsCarry, IsFilled, IsNextCarry}
use Rattle.polygons.proofs.fill.fill_column.Given as goal

abbrev pub invariant-loop-i : goal.invariant-loop-i
invariant-loop-i l = record {
  filled : (i : ℕ) → i < l.i → IsFilled (slice_index l.initial.words i) (slice_index l.initial.carry i) (slice_index l.words i);
  next : (i : ℕ) → i < l.i → IsNextCarry (slice_index l.initial.words i) (slice_index l.initial.carry i) (slice_index l.carry i);
  carry : (i : ℕ) → i < 32 → IsCarry (slice_index l.carry i);
  words_rest : (i : ℕ) → l.i ≤ i → slice_index l.words i ≡ slice_index l.initial.words i;
  carry_rest : (i : ℕ) → l.i ≤ i → slice_index l.carry i ≡ slice_index l.initial.carry i;
}
