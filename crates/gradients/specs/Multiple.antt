-- Multiples of a number, and where samples lie.
use Rattle.std.specs.Prelude.{ℕ, ℤ, pos, ◌≡◌, ◌*ℤ◌}

-- z is a multiple of n.
pub record IsMultiple (n : ℕ) (z : ℤ) : Type 0 where
  pub times : ℤ
  pub is : z ≡ times *ℤ pos n

-- A coordinate that a sample may have: the samples of a pixel lie at multiples of a sixteenth of it.
abbrev pub IsSixteenth : ℤ → Type 0
IsSixteenth z = IsMultiple 16 z
