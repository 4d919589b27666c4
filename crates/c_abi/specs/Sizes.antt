-- The sizes of structs.
use Rattle.std.specs.Prelude.{◌≡◌, ◌⊎◌, ℕ}

-- The size of a struct, as the caller has it, is the library's own, or 0 for just that.
pub record IsOwnSize (size own : ℕ) : Type 0 where
  pub known : (size ≡ 0) ⊎ (size ≡ own)
