use Rattle.std.proofs.Common.{◌≡◌, ◌<◌, ℕ, length, slice_index, ◌≤◌}
use Rattle.readout.specs.Straight.{straight_of}
use Rattle.readout.proofs.straight.straight_run.Given as goal

abbrev pub invariant-loop-i : goal.invariant-loop-i
invariant-loop-i l = record {
  whole : length l.made ≡ 8;
  divided : (j : ℕ) → j < l.i → slice_index l.made j ≡ straight_of (slice_index l.fn.channel j) (slice_index l.alphas j);
  rest : (j : ℕ) → l.i ≤ j → slice_index l.made j ≡ slice_index l.fn.channel j;
}
