-- Spaces among the bytes of a text.
use Rattle.std.specs.Prelude.{ℕ, Bool, ◌==◌, not}

-- The byte is no space.
abbrev pub is_no_space : ℕ → Bool
is_no_space x = not (x == 32)
