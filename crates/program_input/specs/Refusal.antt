-- What a program writes if its arguments do not say what to do, or its run fails.
use Rattle.std.specs.Prelude.{◌≡◌, ℕ, List, [], ◌∷◌, ◌++◌, length, Option, codes, take}
use Rattle.std.specs.Io.KnownBytes.{Appends}

-- The line that the program writes if its arguments are refused.
abbrev pub refusal_line : List ℕ
refusal_line = codes "trirast: command line refused\n"

-- What was written is the line, or a beginning of it if the writer failed.
pub record WritesLine (line : List ℕ) (held held_after : Option (List ℕ)) (failed failed_after : ℕ) : Type 0 where
  pub count : ℕ
  pub written : Appends held held_after (take count line)
  pub whole : failed_after ≡ failed → count ≡ length line

-- What was written is a line that ends in a line feed, or a beginning of it if the writer failed.
pub record WritesSomeLine (held held_after : Option (List ℕ)) (failed failed_after : ℕ) : Type 0 where
  pub text : List ℕ
  pub line : WritesLine (text ++ 10 ∷ []) held held_after failed failed_after
