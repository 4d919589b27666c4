-- Pixels in the caller's memory.
use Rattle.std.specs.Prelude.{◌≡◌, ◌≢◌, ℕ, ◌+◌, ◌-◌, ◌*◌, ◌/◌, ◌<◌, ◌≤◌, min, List, [], ◌∷◌, slice_index}
use Rattle.canvas.specs.declared.canvas.Canvas.{Canvas}
use Rattle.readout.specs.declared.format.Format.{Format}
use Rattle.readout.specs.declared.format.Format.TheVariants.{Rgb8, Rgba8, Bgra8, Rgba8Straight, Bgra8Straight}
use Rattle.readout.specs.declared.pixel_rows.PixelRow.{PixelRow}
use Rattle.readout.specs.Straight.{straight_of, multiplied_by}
use Rattle.canvas.specs.Layout.{HasPixel, planes_of_row, planes_of_rows}

-- How many bytes a pixel has in a format.
abbrev pub pixel_bytes : Format → ℕ
pixel_bytes Rgb8 = 3
pixel_bytes Rgba8 = 4
pixel_bytes Bgra8 = 4
pixel_bytes Rgba8Straight = 4
pixel_bytes Bgra8Straight = 4

-- The bytes of a pixel of this red, green, blue and alpha. The last two formats have colours divided by alpha.
abbrev pub pixel_of : Format → ℕ → ℕ → ℕ → ℕ → List ℕ
pixel_of Rgb8 r g b a = r ∷ g ∷ b ∷ []
pixel_of Rgba8 r g b a = r ∷ g ∷ b ∷ a ∷ []
pixel_of Bgra8 r g b a = b ∷ g ∷ r ∷ a ∷ []
pixel_of Rgba8Straight r g b a = straight_of r a ∷ straight_of g a ∷ straight_of b a ∷ a ∷ []
pixel_of Bgra8Straight r g b a = straight_of b a ∷ straight_of g a ∷ straight_of r a ∷ a ∷ []

-- Red, green and blue of these bytes of a pixel, as they are stored.
abbrev pub colour_in : Format → (ℕ → ℕ) → ℕ × ℕ × ℕ
colour_in Rgb8 bytes = (bytes 0, bytes 1, bytes 2)
colour_in Rgba8 bytes = (bytes 0, bytes 1, bytes 2)
colour_in Bgra8 bytes = (bytes 2, bytes 1, bytes 0)
colour_in Rgba8Straight bytes = (multiplied_by (bytes 0) (bytes 3), multiplied_by (bytes 1) (bytes 3), multiplied_by (bytes 2) (bytes 3))
colour_in Bgra8Straight bytes = (multiplied_by (bytes 2) (bytes 3), multiplied_by (bytes 1) (bytes 3), multiplied_by (bytes 0) (bytes 3))

-- Alpha of these bytes. A pixel of a format without alpha is opaque.
abbrev pub alpha_in : Format → (ℕ → ℕ) → ℕ
alpha_in Rgb8 bytes = 255
alpha_in Rgba8 bytes = bytes 3
alpha_in Bgra8 bytes = bytes 3
alpha_in Rgba8Straight bytes = bytes 3
alpha_in Bgra8Straight bytes = bytes 3

-- A pixel has alpha in the format.
abbrev pub HasAlpha : Format → Type 0
HasAlpha Rgb8 = ⊥
HasAlpha Rgba8 = Unit {0}
HasAlpha Bgra8 = Unit {0}
HasAlpha Rgba8Straight = Unit {0}
HasAlpha Bgra8Straight = Unit {0}

-- The channels of a pixel are those that are stored.
abbrev pub IsAsStored : Format → Type 0
IsAsStored Rgb8 = Unit {0}
IsAsStored Rgba8 = Unit {0}
IsAsStored Bgra8 = Unit {0}
IsAsStored Rgba8Straight = ⊥
IsAsStored Bgra8Straight = ⊥

-- How many rows of pixels of the picture stand in the tile rows from `first` to before `end`.
abbrev pub shown_rows : Canvas → ℕ → ℕ → ℕ
shown_rows c first end = min (64 * end) c.height - 64 * first

-- A row of pixels, of `unit` entries each, fits between the starts of two rows, and the last row ends within the slice.
pub record IsLargeEnough (c : Canvas) (first end : ℕ) (unit stride size : ℕ) : Type 0 where
  pub wide : c.width * unit ≤ stride
  pub high : shown_rows c first end * stride + c.width * unit ≤ size + stride

-- The index of the first entry of pixel (i, j), of which there are `unit`. The first pixel of the first tile row has index 0, and
-- rows begin `stride` entries apart.
abbrev pub entry_of : ℕ → ℕ → ℕ → ℕ → ℕ → ℕ
entry_of first unit stride i j = (j - 64 * first) * stride + i * unit

-- The row of this index among the rows of pixels in these tile rows. Its planes are those of its tile row, its entries are those of
-- its pixels, and both end within their slices, of which that of the entries has `size`.
pub record IsPixelRow (c : Canvas) (first end : ℕ) (unit stride size : ℕ) (index : ℕ) (row : PixelRow) : Type 0 where
  pub line : row.j ≡ 64 * first + index
  pub shown : row.j < c.height
  pub below : row.j / 64 < end
  pub first_plane : row.planes.start ≡ (row.j / 64 - first) * planes_of_row c
  pub planes : row.planes.end ≡ row.planes.start + planes_of_row c
  pub planes_fit : row.planes.end ≤ planes_of_rows c first end
  pub first_entry : row.entries.start ≡ entry_of first unit stride 0 row.j
  pub entries : row.entries.end ≡ row.entries.start + c.width * unit
  pub entries_fit : row.entries.end ≤ size

-- The entries of each pixel of the picture in these tile rows are as `IsPixel` says, and all other entries are unchanged.
pub record AreWritten (c : Canvas) (first end : ℕ) (unit stride : ℕ) (IsPixel : ℕ → ℕ → (ℕ → ℕ) → Type 0) (old new : List ℕ) : Type 0 where
  pub pixels : (i j : ℕ) → HasPixel c first end i j → IsPixel i j (λ k. slice_index new (entry_of first unit stride i j + k))
  pub others : (n : ℕ) → ((i j k : ℕ) → HasPixel c first end i j → k < unit → n ≢ entry_of first unit stride i j + k) → slice_index new n ≡ slice_index old n

-- The entries of those pixels in these tile rows that `IsIn` names are as `IsPixel` says. All other entries are unchanged.
pub record AreWrittenIn (c : Canvas) (first end : ℕ) (unit stride : ℕ) (IsIn : ℕ → ℕ → Type 0) (IsPixel : ℕ → ℕ → (ℕ → ℕ) → Type 0) (old new : List ℕ) : Type 0 where
  pub pixels : (i j : ℕ) → HasPixel c first end i j → IsIn i j → IsPixel i j (λ k. slice_index new (entry_of first unit stride i j + k))
  pub others : (n : ℕ) → ((i j k : ℕ) → HasPixel c first end i j → IsIn i j → k < unit → n ≢ entry_of first unit stride i j + k) → slice_index new n ≡ slice_index old n
