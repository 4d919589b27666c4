-- The bytes of pixels.
use Rattle.std.proofs.Common.{◌≡◌, ◌∙◌, ℕ, ◌<◌, List}
use Rattle.grid.specs.Samples.{count_of}
use Rattle.shade.specs.declared.sample.CanvasSample.{CanvasSample}
use Rattle.lanes.specs.declared.block_samples.BlockSamples.{BlockSamples}
use Rattle.canvas.specs.declared.canvas.Canvas.{Canvas}
use Rattle.readout.specs.declared.format.Format.{Format}
use Rattle.canvas.specs.Layout.{stored}
use Rattle.readout.specs.Pixels.{pixel_bytes}
use Rattle.readout.specs.Colours.{IsPixelOf, IsPixelWith, IsSampleColour, AreBytesOfColour}
use Rattle.blocks.proofs.BlockMeans.{mean_same}

-- bytes that are the same as these
pub bytes_same : (format : Format) (r g b a : ℕ) (f h : ℕ → ℕ) → ((k : ℕ) → k < pixel_bytes format → h k ≡ f k) → AreBytesOfColour format r g b a f → AreBytesOfColour format r g b a h
bytes_same format r g b a f h same order k l = same k l ∙ order k l

pub pixel_same : (c : Canvas) (first : ℕ) (samples : List BlockSamples) (format : Format) (i j : ℕ) (f h : ℕ → ℕ) → ((k : ℕ) → k < pixel_bytes format → h k ≡ f k)
    → IsPixelOf c first samples format i j f → IsPixelOf c first samples format i j h
pixel_same c first samples format i j f h same p = record { r = p.r; g = p.g; b = p.b; a = p.a; colour = p.colour; alpha = p.alpha; order = bytes_same format p.r p.g p.b p.a f h same p.order }

pub sample_colour_same : (format : Format) (sample : CanvasSample) (f g : ℕ → ℕ) → ((k : ℕ) → k < pixel_bytes format → g k ≡ f k) → IsSampleColour format sample f → IsSampleColour format sample g
sample_colour_same format sample f g same h = λ k small. same k small ∙ h k small

-- a pixel by its samples
pub pixel_with : (c : Canvas) (first : ℕ) (xs : List BlockSamples) (format : Format) (i j : ℕ) (f : ℕ → CanvasSample) (bytes : ℕ → ℕ) → ((s : ℕ) → s < count_of c.count → f s ≡ stored c first xs i j s)
    → IsPixelWith c.count f format bytes → IsPixelOf c first xs format i j bytes
pixel_with c first xs format i j f bytes same p =
    let mean = p.mean in
    let is = mean_same c.count f (λ s. stored c first xs i j s) mean same p.is_mean in
    record { r = mean.r; g = mean.g; b = mean.b; a = mean.alpha; colour = record { red = is.red; green = is.green; blue = is.blue }; alpha = λ has. is.alpha; order = p.order }
