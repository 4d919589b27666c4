use Rattle.std.proofs.Common.{◌≡◌, ℕ, ◌*◌, ◌<◌}
use Rattle.block_fills.specs.Parts.{block_mask}
use Rattle.block_fills.proofs.masks.Masks.has_some.Given as goal

abbrev pub invariant-loop-part : goal.invariant-loop-part
invariant-loop-part l = (s : ℕ) → s < 4 * l.part → block_mask l.self l.column l.row s ≡ 0
