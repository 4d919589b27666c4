use Rattle.std.proofs.Common.{◌≡◌, ℕ, ◌<◌}
use Rattle.blocks.specs.Layout.{in_list}
use Rattle.block_fills.proofs.replaced.are_alike.Given as goal

abbrev pub invariant-loop-s : goal.invariant-loop-s
invariant-loop-s l = (r : ℕ) → r < l.s → ((in_list l.planes r).z ≡ (in_list l.planes 0).z) × ((in_list l.planes r).alpha ≡ (in_list l.planes 0).alpha)
