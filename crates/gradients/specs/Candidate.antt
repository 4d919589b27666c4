use Rattle.std.specs.Prelude.{ℕ, ◌⊎◌, ◌+◌, ◌*◌, ◌/◌, ◌%◌, ◌^◌, ◌≤◌, ◌<◌}
use Rattle.shade.specs.Quotient.{IsQuotient}

-- f is at least n / s with k fractional bits, and exceeds it by at most three units of the last one.
pub record IsClose (k n s f : ℕ) : Type 0 where
  pub low : n * 2 ^ k ≤ f * s
  pub high : f * s ≤ n * 2 ^ k + 3 * s

-- The integer part of f is n / s rounded down, and its fraction is at least three units of the last bit, so that this is seen.
pub record IsSure (k n s f : ℕ) : Type 0 where
  pub whole : IsQuotient n s (f / 2 ^ k)
  pub fraction : 3 ≤ f % 2 ^ k

-- f, with k fractional bits, is close to n / s, or surely has n / s rounded down as its integer part.
abbrev pub IsCandidate : ℕ → ℕ → ℕ → ℕ → Type 0
IsCandidate k n s f = IsClose k n s f ⊎ IsSure k n s f

-- m is n / s rounded down, or the number after that.
abbrev pub IsNear : ℕ → ℕ → ℕ → Type 0
IsNear n s m = (n < (m + 1) * s) × (m * s < n + s)
