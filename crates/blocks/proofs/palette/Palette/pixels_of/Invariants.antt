use Rattle.std.proofs.Common.{◌≡◌, ℕ, ◌<◌, length, slice_index}
use Rattle.blocks.specs.Palettes.{HasNumbers}
use Rattle.blocks.proofs.palette.Palette.pixels_of.Given as goal

abbrev pub invariant-loop-s : goal.invariant-loop-s
invariant-loop-s l = record {
  long : length l.pixels ≡ 16;
  each : (t p : ℕ) → t < l.s → p < 64 → HasNumbers l.self l.number t p (slice_index l.pixels t);
}
