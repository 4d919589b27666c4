use Rattle.std.proofs.Common.{◌≡◌, ℕ, ◌+◌, ◌<◌, ◌≤◌}
use Rattle.grid.specs.Samples.{count_of}
use Rattle.blocks.specs.Layout.{in_list}
use Rattle.blocks.proofs.tile_planes.copy_cleared.Given as goal

abbrev pub invariant-loop-place : goal.invariant-loop-place
invariant-loop-place l = record {
  copied : (n : ℕ) → 1 + count_of l.fn.count ≤ n → n < l.place → in_list l.samples n ≡ in_list l.fn.samples 1;
  kept : (n : ℕ) → n < 1 + count_of l.fn.count → in_list l.samples n ≡ in_list l.fn.samples n;
}
