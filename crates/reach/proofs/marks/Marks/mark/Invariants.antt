use Rattle.std.proofs.Common.{◌≡◌, ℕ, ◌<◌, ◌≤◌, slice_index, IsBitSet}
use Rattle.reach.proofs.marks.Marks.mark.Given as goal

abbrev pub invariant-loop-n : goal.invariant-loop-n
invariant-loop-n l =
    (l.self.span ≡ l.fn.self.span)
    × ((n : ℕ) → l.fn.span.first ≤ n → n < l.n → IsBitSet (slice_index l.self.words n) l.k)
    × ((n bit : ℕ) → IsBitSet (slice_index l.fn.self.words n) bit → IsBitSet (slice_index l.self.words n) bit)
