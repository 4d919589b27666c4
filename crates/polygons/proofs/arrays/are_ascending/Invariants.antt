use Rattle.std.proofs.Common.{◌≡◌, ℕ, ◌+◌, ◌<◌, ◌≤◌, false, IsTrue, slice_index}
use Rattle.polygons.specs.Arrays.{AreAscending}
use Rattle.polygons.proofs.arrays.are_ascending.Given as goal

abbrev pub invariant-loop-k : goal.invariant-loop-k
invariant-loop-k l = record {
  rising : l.falls ≡ false → (i : ℕ) → i + 1 < l.k → slice_index l.ends i ≤ slice_index l.ends (i + 1);
  falling : IsTrue l.falls → ¬ AreAscending l.ends;
}
