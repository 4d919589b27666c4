-- A picture in the caller's memory as the colours of samples.
use Rattle.std.specs.Prelude.{Bool, if◌then◌else◌, ◌≡◌, ℕ, ◌+◌, ◌<◌, ◌≤◌, List, slice_index}
use Rattle.shade.specs.declared.sample.CanvasSample.{CanvasSample}
use Rattle.lanes.specs.declared.block_samples.BlockSamples.{BlockSamples}
use Rattle.canvas.specs.declared.canvas.Canvas.{Canvas}
use Rattle.readout.specs.declared.format.Format.{Format}
use Rattle.canvas.specs.Layout.{IsStoredIn, HasPixel, stored}
use Rattle.readout.specs.Pixels.{pixel_bytes, colour_in, alpha_in, entry_of}

-- The sample in the colour of these bytes of a pixel, with their alpha if alpha is stored too, and else opaque. The
-- depth is unchanged.
abbrev pub coloured : Format → Bool → (ℕ → ℕ) → CanvasSample → CanvasSample
coloured format too bytes old =
    let colour : ℕ × ℕ × ℕ = colour_in format bytes in
    record { r = colour.0; g = colour.1; b = colour.2; alpha = if too then alpha_in format bytes else 255; z = old.z }

-- The sample index s is one of those from `first` to before `end`.
pub record IsIndexIn (first end : ℕ) (s : ℕ) : Type 0 where
  pub from : first ≤ s
  pub below : s < end

-- The samples of some pixels in these tile rows end as `end_of` makes them, and all other samples are unchanged. `end_of` makes
-- them of what was stored there.
pub record AreChanged (c : Canvas) (first end : ℕ) (IsSome : ℕ → ℕ → ℕ → Type 0) (end_of : ℕ → ℕ → ℕ → CanvasSample → CanvasSample) (old new : List BlockSamples) : Type 0 where
  pub changed : (i j s : ℕ) → IsStoredIn c first end i j s → IsSome i j s → stored c first new i j s ≡ end_of i j s (stored c first old i j s)
  pub kept : (i j s : ℕ) → IsStoredIn c first end i j s → ¬ IsSome i j s → stored c first new i j s ≡ stored c first old i j s

-- All samples of each pixel of the picture in these tile rows have the colour of the pixel's bytes. If alpha is stored too, they have
-- the alpha of the bytes, and else they are opaque. Their depths are unchanged, and so are the samples of pixels outside of the picture.
abbrev pub AreLoaded : Canvas → ℕ → ℕ → List ℕ → Format → ℕ → Bool → List BlockSamples → List BlockSamples → Type 0
AreLoaded c first end bytes format stride too old new =
    AreChanged c first end (λ i j s. HasPixel c first end i j) (λ i j s sample. coloured format too (λ k. slice_index bytes (entry_of first (pixel_bytes format) stride i j + k)) sample) old new

-- Sample s of each pixel of the picture in these tile rows has the colour of the pixel's bytes. All depths and all other samples are
-- unchanged.
abbrev pub AreStored : Canvas → ℕ → ℕ → ℕ → List ℕ → Format → ℕ → Bool → List BlockSamples → List BlockSamples → Type 0
AreStored c first end s bytes format stride too old new =
    AreChanged c first end (λ i j k. HasPixel c first end i j × (k ≡ s)) (λ i j k sample. coloured format too (λ n. slice_index bytes (entry_of first (pixel_bytes format) stride i j + n)) sample) old new
