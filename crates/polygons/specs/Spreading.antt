-- From flags to masks.
use Rattle.std.specs.Prelude.{◌≡◌, ℕ, ◌+◌, ◌*◌, ◌%◌, ◌<◌}
use Rattle.std.specs.Int.{bit_at}
use Rattle.polygons.specs.Rows.{parity}

-- Of the rows of a word of 8 by 8 bits no more than the first bit of each is set.
abbrev pub IsCarry : ℕ → Type 0
IsCarry word = (r j : ℕ) → r < 8 → 0 < j → j < 8 → bit_at word (8 * r + j) ≡ 0

-- Each bit is the parity of the carry into its row and of the flags of the row up to it.
abbrev pub IsFilled : ℕ → ℕ → ℕ → Type 0
IsFilled word carry filled = (r j : ℕ) → r < 8 → j < 8 → bit_at filled (8 * r + j) ≡ (bit_at carry (8 * r) + parity (λ k. bit_at word (8 * r + k)) (j + 1)) % 2

-- The carry into the next word is the parity of the carry and of all flags of a row.
abbrev pub IsNextCarry : ℕ → ℕ → ℕ → Type 0
IsNextCarry word carry next = (r : ℕ) → r < 8 → bit_at next (8 * r) ≡ (bit_at carry (8 * r) + parity (λ k. bit_at word (8 * r + k)) 8) % 2
