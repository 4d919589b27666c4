-- Entries in the caller's memory, some for each pixel: what is read or written of the samples of one index.
use Rattle.std.specs.Prelude.{◌≡◌, ◌⊎◌, ℕ, ◌<◌, ◌≤◌}
use Rattle.grid.specs.Samples.{count_of}
use Rattle.canvas.specs.declared.canvas.Canvas.{Canvas}
use Rattle.readout.specs.declared.misfit.Misfit.{Misfit}
use Rattle.readout.specs.declared.misfit.Misfit.TheVariants.{Pixels, Sample}
use Rattle.readout.specs.Pixels.{IsLargeEnough}

-- Entries, of which a pixel has `unit`, fit the tile rows from `first` to before `end`. A pixel has sample s, and `size` entries
-- hold their rows of pixels.
abbrev pub FitEntries : Canvas → ℕ → ℕ → ℕ → ℕ → ℕ → ℕ → Type 0
FitEntries c first end s unit stride size = (s < count_of c.count) × IsLargeEnough c first end unit stride size

-- What does not fit, if one of the two does not.
abbrev pub IsEntriesMisfit : Canvas → ℕ → ℕ → ℕ → ℕ → ℕ → ℕ → Misfit → Type 0
IsEntriesMisfit c first end s unit stride size misfit =
    ((misfit ≡ Sample) × (count_of c.count ≤ s)) ⊎ ((misfit ≡ Pixels) × ¬ IsLargeEnough c first end unit stride size)
