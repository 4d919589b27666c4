use Rattle.std.proofs.Common.{◌≡◌, ℕ, ◌/◌, ◌<◌, slice_get, Some}
use Rattle.grid.specs.declared.sample_count.SampleCount.{SampleCount}
use Rattle.shade.specs.declared.placed.Placed.{Placed}
use Rattle.reach.specs.Reach.{IsMarked, MeetsOnScreen}
use Rattle.reach.proofs.marks.reach_of.Given as goal

abbrev pub invariant-loop-k : goal.invariant-loop-k
invariant-loop-k l =
    (k : ℕ) (t : Placed) → k < l.k → slice_get l.chunk k ≡ Some t → (count : SampleCount) (i j s : ℕ) → MeetsOnScreen t count i j s
    → IsMarked l.columns (i / 64) k × IsMarked l.rows (j / 64) k
