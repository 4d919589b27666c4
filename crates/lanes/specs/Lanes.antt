-- Masks of sixteen lanes.
use Rattle.std.specs.Prelude.{◌≡◌, ◌⊎◌, ℕ, ◌<◌, List, length, slice_index}

-- A lane of a mask says whether P holds: all its bits are set if it does, and none if it does not.
abbrev pub IsMaskLane : ℕ → Type 0 → Type 0
IsMaskLane lane P = ((lane ≡ 65535) × P) ⊎ ((lane ≡ 0) × (¬ P))

-- m has sixteen lanes, and lane k says whether P k holds.
pub record IsMask (m : List ℕ) (P : ℕ → Type 0) : Type 0 where
  pub long : length m ≡ 16
  pub each : (k : ℕ) → k < 16 → IsMaskLane (slice_index m k) (P k)
