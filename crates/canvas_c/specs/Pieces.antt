-- Tile rows of a canvas, as the caller names them, and the checks of the calls.
use Rattle.std.specs.Prelude.{◌≡◌, ◌⊎◌, ℕ, Bool, ◌==◌, ◌+◌, ◌-◌, ◌*◌, ◌/◌, ◌%◌, ◌<◌, ◌≤◌, min, max, if◌then◌else◌}
use Rattle.checks.specs.Checking.{Checks, done, check, followed_by}
use Rattle.grid.specs.Samples.{IsPattern, pattern_of}
use Rattle.canvas.specs.declared.canvas.Canvas.{Canvas}
use Rattle.readout.specs.declared.format.Format.{Format}
-- generated: names
use Rattle.readout.specs.declared.format.Format.TheVariants.{Rgb8, Rgba8, Bgra8, Rgba8Straight, Bgra8Straight}
-- end of names
use Rattle.canvas.specs.declared.tile_rows.TileRows.{TileRows}
use Rattle.canvas.specs.Layout.{IsCanvasSize}
use Rattle.readout.specs.Pixels.{pixel_bytes}
use Rattle.c_abi.specs.Sizes.{IsOwnSize}
use Rattle.c_abi.specs.declared.status.Status.{Status}
use Rattle.c_abi.specs.declared.status.Status.TheVariants.{BufferTooSmall, BadTileRows, BadStructSize, BadCanvas, BadMemory, BadFormat, BadSample, BadStride}
use Rattle.canvas_c.specs.declared.piece.CanvasHead.{CanvasHead}

-- A pixel may have this number of samples, with 0 for one.
abbrev pub IsCount : ℕ → Type 0
IsCount samples = (samples ≡ 0) ⊎ IsPattern samples

-- A sample may have this number of channels: 3, without alpha, with 0 for that, or 4, with alpha.
pub record AreChannels (channels : ℕ) : Type 0 where
  pub known : (channels ≡ 0) ⊎ (channels ≡ 3) ⊎ (channels ≡ 4)

-- There is a canvas of this size with these samples and channels.
pub record IsCanvas (head : CanvasHead) : Type 0 where
  pub size : IsCanvasSize head.width head.height
  pub pattern : IsCount head.samples
  pub channels : AreChannels head.channels

-- Whether the canvas has alpha: it has with four channels.
abbrev pub has_alpha : CanvasHead → Bool
has_alpha head = head.channels == 4

-- There is such a canvas, and the struct has the size that this library knows.
pub record IsWhole (head : CanvasHead) : Type 0 where
  pub struct_size : IsOwnSize head.struct_size 56
  pub canvas : IsCanvas head

-- How many tile rows a canvas of this height has.
abbrev pub tile_rows_of : ℕ → ℕ
tile_rows_of height = (height + 63) / 64

-- A canvas of this height has the tile rows from `first` to before `end`.
pub record HasRows (height first end : ℕ) : Type 0 where
  pub rising : first ≤ end
  pub within : end ≤ tile_rows_of height

-- How many planes these tile rows have. Of each tile one says in which way its blocks keep their samples; the others are those of the
-- samples to which it was cleared, and of its own 64 blocks. 0 samples are one.
abbrev pub planes_listed : ℕ → ℕ → ℕ → ℕ → ℕ
planes_listed width samples first end = (end - first) * ((width + 63) / 64 * (1 + 65 * max 1 samples))

-- The canvas was initialized, and the memory has as many planes as these tile rows.
pub record HasMemory (head : CanvasHead) (planes : ℕ) : Type 0 where
  pub initialized : head.initialized ≡ 1
  pub fits : planes ≡ planes_listed head.width head.samples head.first head.end

-- The tile rows are those that the caller names.
pub record AreRowsOf (head : CanvasHead) (rows : TileRows) : Type 0 where
  pub width : rows.canvas.width ≡ head.width
  pub height : rows.canvas.height ≡ head.height
  pub count : rows.canvas.count ≡ pattern_of head.samples
  pub first : rows.first ≡ head.first
  pub end : rows.end ≡ head.end

-- `Holds` is true of the tile rows that the caller names.
pub record OnRows (head : CanvasHead) (Holds : Canvas → ℕ → ℕ → Type 0) : Type 0 where
  pub rows : TileRows
  pub are : AreRowsOf head rows
  pub holds : Holds rows.canvas rows.first rows.end

-- The bytes from the beginning of a row to that of the next: those of a row if the caller says 0.
abbrev pub stride_of : ℕ → ℕ → ℕ
stride_of row stride = if stride == 0 then row else stride

-- The rows of pixels, of `unit` entries a pixel, fit into `size` entries.
-- A row fits between the starts of two rows, and the last row ends within the caller's memory.
pub record HasRoom (head : CanvasHead) (unit stride size : ℕ) : Type 0 where
  pub wide : head.width * unit ≤ stride
  pub high : (min (64 * head.end) head.height - 64 * head.first) * stride + head.width * unit ≤ size + stride

-- What each call on tile rows checks first.
-- These are the size of the struct, that there is such a canvas, that it has these tile rows, and that it was initialized and the memory
-- has as many planes as they.
abbrev pub piece_checks : CanvasHead → ℕ → Checks Status
piece_checks head planes =
    check (IsOwnSize head.struct_size 56) BadStructSize (
    check (IsCanvas head) BadCanvas (
    check (HasRows head.height head.first head.end) BadTileRows (
    check (HasMemory head planes) BadMemory
    done)))

-- There is a format of this number.
abbrev pub IsFormat : ℕ → Type 0
-- generated: known
IsFormat n = n ≤ 4

-- end of known

-- The formats by their numbers.
abbrev pub format_of : ℕ → Format
-- generated: formats
format_of n =
    if n == 0 then Rgb8
    else (if n == 1 then Rgba8
    else (if n == 2 then Bgra8
    else (if n == 3 then Rgba8Straight
    else Bgra8Straight)))

-- end of formats

-- A picture of `size` bytes is read or written, whose rows begin `stride` bytes behind each other.
abbrev pub image_checks : CanvasHead → ℕ → ℕ → ℕ → ℕ → Checks Status
image_checks head planes format stride size =
    followed_by (piece_checks head planes) (
    check (IsFormat format) BadFormat (
    check (HasRoom head (pixel_bytes (format_of format)) (stride_of (head.width * pixel_bytes (format_of format)) stride) size) BufferTooSmall
    done))

-- The entries from the beginning of a row to that of the next: those of a row for 0, else those of `stride` bytes.
abbrev pub entries_of : ℕ → ℕ → ℕ → ℕ
entries_of row entry_bytes stride = if stride == 0 then row else stride / entry_bytes

-- The samples of one index are read to `size` entries of `entry_bytes` bytes, a row every `stride` bytes.
abbrev pub entries_checks : CanvasHead → ℕ → ℕ → ℕ → ℕ → ℕ → Checks Status
entries_checks head planes sample entry_bytes stride size =
    followed_by (piece_checks head planes) (
    check (sample < max 1 head.samples) BadSample (
    check (stride % entry_bytes ≡ 0) BadStride (
    check (HasRoom head 1 (entries_of head.width entry_bytes stride) size) BufferTooSmall
    done)))
