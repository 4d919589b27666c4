-- The mean of a pixel's samples.
use Rattle.std.specs.Prelude.{ℕ, ◌+◌, ◌/◌, List, slice_index_or}
use Rattle.shade.specs.declared.sample.Sample.{Sample}
use Rattle.shade.specs.Resolve.{total}

-- The mean of what f is from 0 to before n, rounded to nearest with halves up.
abbrev pub mean_of : ℕ → (ℕ → ℕ) → ℕ
mean_of n f = (total n f + n / 2) / n

-- Sample s of a pixel's samples.
abbrev pub sample_of : List Sample → ℕ → Sample
sample_of samples s = slice_index_or samples s (record { r = 0; g = 0; b = 0; z = 0 })
