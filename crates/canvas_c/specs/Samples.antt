-- The checks of calls that read or store the colours of one sample index, and the samples of one tile.
use Rattle.std.specs.Prelude.{◌≡◌, ◌⊎◌, ℕ, ◌+◌, ◌*◌, ◌/◌, ◌<◌, ◌≤◌, ◌==◌, if◌then◌else◌, List, take, slice_index}
use Rattle.checks.specs.Checking.{Checks, done, check, followed_by, Pass}
use Rattle.grid.specs.Samples.{count_of, pattern_of}
use Rattle.shade.specs.declared.sample.Merge.{Merge}
use Rattle.lanes.specs.declared.block_samples.BlockSamples.{BlockSamples}
use Rattle.canvas.specs.declared.canvas.Canvas.{Canvas}
use Rattle.readout.specs.declared.misfit.Misfit.{Misfit}
use Rattle.readout.specs.declared.misfit.Misfit.TheVariants.{Pixels, Sample, Tile}
use Rattle.readout.specs.Pixels.{pixel_bytes}
use Rattle.canvas.specs.Tiles.{IsUniform}
use Rattle.readout.specs.Tiles.{tile_entries, AreTileIds}
use Rattle.batch.specs.declared.draw.BatchDraw.{BatchDraw}
use Rattle.batch.specs.Listed.{state_listed}
use Rattle.batch.specs.States.{state_checks}
use Rattle.tile_blend.specs.Fragments.{AreFragments}
use Rattle.c_abi.specs.declared.status.Status.{Status}
use Rattle.c_abi.specs.declared.status.Status.TheVariants.{BufferTooSmall, BadBatch, BadFormat, BadSample, BadTile}
use Rattle.canvas_c.specs.declared.piece.CanvasHead.{CanvasHead}
use Rattle.canvas_c.specs.Pieces.{HasRoom, IsFormat, format_of, has_alpha, stride_of, piece_checks}

-- The colours of one sample index are read or written in `size` bytes, whose rows begin `stride` bytes behind each other.
abbrev pub colours_checks : CanvasHead → ℕ → ℕ → ℕ → ℕ → ℕ → Checks Status
colours_checks head planes sample format stride size =
    followed_by (piece_checks head planes) (
    check (IsFormat format) BadFormat (
    check (sample < count_of (pattern_of head.samples)) BadSample (
    check (HasRoom head (pixel_bytes (format_of format)) (stride_of (head.width * pixel_bytes (format_of format)) stride) size) BufferTooSmall
    done)))

-- The tile rows that the caller names have a tile in a column and a row of tiles.
pub record NamesTile (head : CanvasHead) (column row : ℕ) : Type 0 where
  pub wide : column < (head.width + 63) / 64
  pub from : head.first ≤ row
  pub below : row < head.end

-- How many entries a tile of the canvas has.
abbrev pub entries_in_tile : CanvasHead → ℕ
entries_in_tile head = 4096 * count_of (pattern_of head.samples)

-- The samples of a tile are read to `size` entries.
abbrev pub tile_ids_checks : CanvasHead → ℕ → ℕ → ℕ → ℕ → Checks Status
tile_ids_checks head planes column row size =
    followed_by (piece_checks head planes) (
    check (NamesTile head column row) BadTile (
    check (entries_in_tile head ≤ size) BufferTooSmall
    done))

-- Colours are stored in a tile: one for each sample, or one for all of them.
abbrev pub tile_store_checks : CanvasHead → ℕ → ℕ → ℕ → ℕ → Checks Status
tile_store_checks head planes column row size =
    followed_by (piece_checks head planes) (
    check (NamesTile head column row) BadTile (
    check ((size ≡ 1) ⊎ (size ≡ entries_in_tile head)) BufferTooSmall
    done))

-- Fragments are merged with the samples of a tile by this state.
abbrev pub tile_blend_checks : CanvasHead → ℕ → ℕ → ℕ → BatchDraw → ℕ → ℕ → ℕ → Checks Status
tile_blend_checks head planes column row state colours depths kept =
    followed_by (piece_checks head planes) (
    check (Pass (state_checks state)) BadBatch (
    check (NamesTile head column row) BadTile (
    check (AreFragments (pattern_of head.samples) colours depths kept) BufferTooSmall
    done)))

-- How a fragment is merged with a sample by this state, on a canvas that has alpha or not.
abbrev pub merge_listed : CanvasHead → BatchDraw → Merge
merge_listed head state = (state_listed (has_alpha head) state).merge

-- How many ids are written of a tile, by what is said of it.
abbrev pub ids_written : Canvas → ℕ → ℕ
ids_written c uniform = if uniform == 1 then 1 else tile_entries c.count

-- The ids of a tile's samples are written, or one if all of its blocks are cleared and have one id, which `uniform` says.
-- All other entries are unchanged.
pub record AreIdsOfTile (c : Canvas) (first end column row : ℕ) (samples : List BlockSamples) (old ids : List ℕ) (uniform : ℕ) : Type 0 where
  pub said : ((uniform ≡ 1) × IsUniform c first column row samples) ⊎ ((uniform ≡ 0) × ¬ IsUniform c first column row samples)
  pub written : AreTileIds c first end column row samples (take (ids_written c uniform) ids)
  pub others : (n : ℕ) → ids_written c uniform ≤ n → slice_index ids n ≡ slice_index old n

-- The status of a call for a tile that does not fit.
abbrev pub status_for : Misfit → Status
status_for Tile = BadTile
status_for Pixels = BufferTooSmall
status_for Sample = BufferTooSmall
