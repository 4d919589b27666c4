-- The colours, depths and ids of pixels.
use Rattle.std.specs.Prelude.{◌≡◌, ℕ, ◌+◌, ◌*◌, ◌/◌, ◌<◌, ◌≤◌, List, slice_index}
use Rattle.grid.specs.declared.sample_count.SampleCount.{SampleCount}
use Rattle.lanes.specs.declared.block_samples.BlockSamples.{BlockSamples}
use Rattle.shade.specs.Resolve.{IsResolved}
use Rattle.shade.specs.declared.sample.CanvasSample.{CanvasSample}
use Rattle.canvas.specs.declared.canvas.Canvas.{Canvas}
use Rattle.readout.specs.declared.format.Format.{Format}
use Rattle.readout.specs.declared.pixel_rows.PixelRows.{PixelRows}
use Rattle.canvas.specs.Layout.{stored}
use Rattle.readout.specs.Pixels.{pixel_bytes, pixel_of, HasAlpha, AreWritten, AreWrittenIn}
use Rattle.blocks.specs.Layout.{id_of}
use Rattle.blocks.specs.Means.{IsMeanOf}

-- The colour of pixel (i, j): each channel resolved from the pixel's samples, in planes from tile row `first` on.
pub record IsColourOfPixel (c : Canvas) (first : ℕ) (samples : List BlockSamples) (i j : ℕ) (r g b : ℕ) : Type 0 where
  pub red : IsResolved c.count (λ s. (stored c first samples i j s).r) r
  pub green : IsResolved c.count (λ s. (stored c first samples i j s).g) g
  pub blue : IsResolved c.count (λ s. (stored c first samples i j s).b) b

-- The bytes have this colour and this alpha in the format.
abbrev pub AreBytesOfColour : Format → ℕ → ℕ → ℕ → ℕ → (ℕ → ℕ) → Type 0
AreBytesOfColour format r g b a bytes = (k : ℕ) → k < pixel_bytes format → bytes k ≡ slice_index (pixel_of format r g b a) k

-- The alpha of pixel (i, j), resolved from the pixel's samples, in planes from tile row `first` on.
abbrev pub IsAlphaOfPixel : Canvas → ℕ → List BlockSamples → ℕ → ℕ → ℕ → Type 0
IsAlphaOfPixel c first samples i j = IsResolved c.count (λ s. (stored c first samples i j s).alpha)

-- The bytes are the colour of the sample in the format.
abbrev pub IsSampleColour : Format → CanvasSample → (ℕ → ℕ) → Type 0
IsSampleColour format sample bytes = AreBytesOfColour format sample.r sample.g sample.b sample.alpha bytes

-- The bytes of pixel (i, j) in the format.
pub record IsPixelOf (c : Canvas) (first : ℕ) (samples : List BlockSamples) (format : Format) (i j : ℕ) (bytes : ℕ → ℕ) : Type 0 where
  pub r : ℕ
  pub g : ℕ
  pub b : ℕ
  pub a : ℕ
  pub colour : IsColourOfPixel c first samples i j r g b
  pub alpha : HasAlpha format → IsAlphaOfPixel c first samples i j a
  pub order : AreBytesOfColour format r g b a bytes

-- The bytes of a pixel with these samples in the format.
pub record IsPixelWith (count : SampleCount) (samples : ℕ → CanvasSample) (format : Format) (bytes : ℕ → ℕ) : Type 0 where
  pub mean : CanvasSample
  pub is_mean : IsMeanOf count samples mean
  pub order : IsSampleColour format mean bytes

-- The bytes of eight pixels in the format, by their red, green, blue and alpha.
abbrev pub AreArranged : Format → List ℕ → List ℕ → List ℕ → List ℕ → List ℕ → Type 0
AreArranged format red green blue alphas bytes =
    (i : ℕ) → i < 8
    → AreBytesOfColour format (slice_index red i) (slice_index green i) (slice_index blue i) (slice_index alphas i) (λ k. slice_index bytes (i * pixel_bytes format + k))

-- The bytes of each pixel of the picture in these tile rows are its colour in the format, and all other bytes are unchanged.
abbrev pub AreResolved : Canvas → ℕ → ℕ → List BlockSamples → Format → ℕ → List ℕ → List ℕ → Type 0
AreResolved c first end samples format stride old new =
    AreWritten c first end (pixel_bytes format) stride (λ i j bytes. IsPixelOf c first samples format i j bytes) old new

-- Pixel (i, j) is in a column and a row of blocks, of which the rows are counted from tile row `first` on.
pub record LiesInBlock (first across down i j : ℕ) : Type 0 where
  pub column : i / 8 ≡ across
  pub row : j / 8 ≡ 8 * first + down

-- Pixel (i, j) is among the left `width` pixels of the upper `height` rows of such a block.
pub record LiesInPart (first across down width height i j : ℕ) : Type 0 where
  pub left : 8 * across ≤ i
  pub right : i < 8 * across + width
  pub top : 64 * first + 8 * down ≤ j
  pub bottom : j < 64 * first + 8 * down + height

-- The bytes of those pixels in these rows that `IsIn` names are as `IsPixel` says. All other bytes are unchanged.
abbrev pub AreWrittenTo : PixelRows → (ℕ → ℕ → Type 0) → (ℕ → ℕ → (ℕ → ℕ) → Type 0) → List ℕ → List ℕ → Type 0
AreWrittenTo rows = AreWrittenIn rows.tile_rows.canvas rows.tile_rows.first rows.tile_rows.end rows.unit rows.stride

-- In these tile rows the entry of each pixel of the picture is what `entry` says of its sample s. All other entries are unchanged.
abbrev pub AreEntries : (CanvasSample → ℕ) → Canvas → ℕ → ℕ → List BlockSamples → ℕ → ℕ → List ℕ → List ℕ → Type 0
AreEntries entry c first end samples s stride old new =
    AreWritten c first end 1 stride (λ i j entries. entries 0 ≡ entry (stored c first samples i j s)) old new

-- In these tile rows the entry of each pixel of the picture is the depth of its sample s. All other entries are unchanged.
abbrev pub AreDepths : Canvas → ℕ → ℕ → List BlockSamples → ℕ → ℕ → List ℕ → List ℕ → Type 0
AreDepths c first end samples s stride old new = AreEntries (λ sample. sample.z) c first end samples s stride old new

-- In these tile rows the entry of each pixel of the picture is the id of its sample s. All other entries are unchanged.
abbrev pub AreIds : Canvas → ℕ → ℕ → List BlockSamples → ℕ → ℕ → List ℕ → List ℕ → Type 0
AreIds c first end samples s stride old new = AreEntries id_of c first end samples s stride old new

-- In these tile rows the bytes of each pixel of the picture are the colour of its sample s in the format. All other bytes are unchanged.
abbrev pub AreColours : Canvas → ℕ → ℕ → List BlockSamples → ℕ → Format → ℕ → List ℕ → List ℕ → Type 0
AreColours c first end samples s format stride old new =
    AreWritten c first end (pixel_bytes format) stride (λ i j bytes. IsSampleColour format (stored c first samples i j s) bytes) old new
