use Rattle.std.specs.Prelude.{◌≡◌, ℕ, ◌+◌, zero, suc}
use Rattle.grid.specs.Samples.{count_of}
use Rattle.grid.specs.declared.sample_count.SampleCount.{SampleCount}
use Rattle.shade.specs.declared.placed.Placed.{Placed}
use Rattle.shade.specs.Placed.{Meets}

-- total is the sum of the numbers that P gives for 0 to before n.
abbrev pub IsSum : (ℕ → ℕ → Type 0) → ℕ → ℕ → Type 0
IsSum P zero total = total ≡ 0
IsSum P (suc n) total = (rest : ℕ) × (last : ℕ) × IsSum P n rest × P n last × (total ≡ rest + last)

-- 1 where P holds, and else 0.
pub record IsOneIf (P : Type 0) (m : ℕ) : Type 0 where
  pub one : P → m ≡ 1
  pub zero : ¬ P → m ≡ 0

-- How many samples of pixel (i, j) the triangle meets.
abbrev pub AreMetInPixel : Placed → SampleCount → ℕ → ℕ → ℕ → Type 0
AreMetInPixel t count i j = IsSum (λ s m. IsOneIf (Meets t count i j s) m) (count_of count)

-- How many samples of row j of a picture of this width the triangle meets.
abbrev pub AreMetInRow : Placed → SampleCount → ℕ → ℕ → ℕ → Type 0
AreMetInRow t count width j = IsSum (λ i m. AreMetInPixel t count i j m) width

-- How many samples of a picture of this width and height have P, which is asked of sample s of pixel (i, j).
abbrev pub AreSamples : (ℕ → ℕ → ℕ → Type 0) → SampleCount → ℕ → ℕ → ℕ → Type 0
AreSamples P count width height =
    IsSum (λ j m. IsSum (λ i n. IsSum (λ s one. IsOneIf (P i j s) one) (count_of count) n) width m) height

-- How many samples of a picture of this width and height the triangle meets.
abbrev pub AreMet : Placed → SampleCount → ℕ → ℕ → ℕ → Type 0
AreMet t count = AreSamples (λ i j s. Meets t count i j s) count
