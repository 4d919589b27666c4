-- How many samples a triangle meets.
use Rattle.std.proofs.Common.{refl, ℕ, ◌+◌, add-one}
use Rattle.history.specs.Samples.{IsSum}

pub sum_more : (P : ℕ → ℕ → Type 0) (n rest last : ℕ) → IsSum P n rest → P n last → IsSum P (n + 1) (rest + last)
sum_more P n rest last h is = rw add-one (rest, last, h, is, refl)
