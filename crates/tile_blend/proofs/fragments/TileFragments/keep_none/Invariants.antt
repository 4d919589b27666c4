use Rattle.std.proofs.Common.{◌≡◌, ℕ, ◌+◌, ◌<◌}
use Rattle.tile_blend.specs.Fragments.{entry_or_one}
use Rattle.tile_blend.proofs.fragments.TileFragments.keep_none.Given as goal

abbrev pub invariant-loop-s : goal.invariant-loop-s
invariant-loop-s l = (n : ℕ) → n < l.s → entry_or_one l.self.kept.now (l.from + n) ≡ 0
