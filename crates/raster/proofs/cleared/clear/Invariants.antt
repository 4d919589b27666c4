use Rattle.std.proofs.Common.{◌≡◌, ℕ, ◌<◌, [], slice_index_or}
use Rattle.raster.proofs.cleared.clear.Given as goal

abbrev pub invariant-loop-plane : goal.invariant-loop-plane
invariant-loop-plane l = (place : ℕ) → place < l.plane-index → slice_index_or l.samples place (record { z = []; r = []; g = []; b = []; alpha = [] }) ≡ l.cleared
