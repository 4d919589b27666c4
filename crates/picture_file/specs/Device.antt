-- A reader or a writer, and how many of its calls failed.
use Rattle.std.specs.Prelude.{ℕ}

-- A reader or a writer, and how many of its calls have failed.
pub record Device (T : Type 0) : Type 0 where
  pub inner : T
  pub failures : ℕ
