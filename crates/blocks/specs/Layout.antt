-- Where the samples of a tile lie, in its planes.
use Rattle.std.specs.Prelude.{◌≡◌, ◌≢◌, Bool, true, false, ℕ, ◌+◌, ◌-◌, ◌*◌, ◌/◌, ◌%◌, ◌<◌, ◌==◌, if◌then◌else◌, List, [], drop, slice_index, slice_index_or}
use Rattle.std.specs.Int.{bit_at}
use Rattle.grid.specs.Samples.{count_of}
use Rattle.grid.specs.declared.sample_count.SampleCount.{SampleCount}
use Rattle.grid.specs.declared.sample_count.SampleCount.TheVariants.{One, Two, Four, Eight, Sixteen}
use Rattle.shade.specs.declared.sample.CanvasSample.{CanvasSample}
use Rattle.lanes.specs.declared.block_samples.BlockSamples.{BlockSamples}
use Rattle.lanes.specs.Block.{stored_at}
use Rattle.blocks.specs.declared.way.Way.{Way}
use Rattle.blocks.specs.declared.way.Way.TheVariants.{Cleared, Single, Pair, Own, Flat, FlatPair, FlatFour}

-- How many planes a tile has. One says in which way each of its blocks keeps its samples. Each of 65 blocks of 8 by 8 pixels has one
-- for each sample of a pixel. The first of these blocks is that to which the tile was cleared, which uses one of its planes; with four
-- samples or more, some others of them have the samples of flat blocks. The other 64 are the tile's own.
abbrev pub planes_of_tile : SampleCount → ℕ
planes_of_tile count = 1 + 65 * count_of count

-- The number of the block of pixel (i, j) among the 64 of its tile, row by row.
abbrev pub block_in_tile : ℕ → ℕ → ℕ
block_in_tile i j = j % 64 / 8 * 8 + i % 64 / 8

-- The number of pixel (i, j) among the 64 of its block, row by row.
abbrev pub pixel_in_block : ℕ → ℕ → ℕ
pixel_in_block i j = 8 * (j % 8) + i % 8

-- The way in which a block keeps its samples, by a byte.
abbrev pub by_byte : ℕ → Way
by_byte byte =
    if byte == 1 then Cleared
    else (if byte == 2 then Single else (if byte == 3 then Pair else (if byte == 4 then Flat else (if byte == 5 then FlatPair else (if byte == 6 then FlatFour else Own)))))

-- The way in which block k of a tile keeps its samples, by the tile's first plane. Its red byte k says so, unless its first green
-- byte is 0, which stands for 64 own blocks.
abbrev pub way_of : BlockSamples → ℕ → Way
way_of state k =
    if slice_index state.g 0 == 0 then Own
    else by_byte (slice_index state.r k)

-- The index of the plane with a sample of flat block k among those of its tile. Its first sample has the number n = 0, the second one half of
-- the samples of a pixel, the third one a quarter of them, and the fourth one both together. With four samples or more these are planes 2, 3, 4
-- and 5, which have those of all flat blocks of the tile; but with four, plane 5 is an own one, and the fourth is in the first own plane of the
-- block. A tile with fewer has no such planes, and they are own planes of the block.
abbrev pub flat_place : SampleCount → ℕ → ℕ → ℕ
flat_place One k n = 2 + k + n
flat_place Two k n = 3 + 2 * k + n
flat_place Four k n = if n == 3 then 5 + 4 * k else 2 + n / 2 + 2 * (n % 2)
flat_place Eight k n = 2 + n / 4 + 2 * (n / 2 % 2)
flat_place Sixteen k n = 2 + n / 8 + 2 * (n / 4 % 2)

-- The index of own plane n of block k among the planes of its tile, if the block keeps its samples in this way. Plane 1 is that of the
-- block to which the tile was cleared. The own planes of a block lie together: one for each sample of a pixel. Of a flat block it is the
-- plane with one of its samples.
abbrev pub place_by : SampleCount → Way → ℕ → ℕ → ℕ
place_by count Cleared k n = 1
place_by count Single k n = 1 + (k + 1) * count_of count
place_by count Pair k n = 1 + (k + 1) * count_of count + n
place_by count Own k n = 1 + (k + 1) * count_of count + n
place_by count Flat k n = flat_place count k 0
place_by count FlatPair k n = flat_place count k n
place_by count FlatFour k n = flat_place count k n

-- The number in its plane of the sample of pixel p of block k, by the way in which the block keeps its samples. It is that of the pixel, but a
-- flat block has one sample for all of its pixels in a plane, at the block's number.
abbrev pub slot_by : Way → ℕ → ℕ → ℕ
slot_by Cleared k p = p
slot_by Single k p = p
slot_by Pair k p = p
slot_by Own k p = p
slot_by Flat k p = k
slot_by FlatPair k p = k
slot_by FlatFour k p = k

-- Whether a block that is kept in this way has its samples of an index in one plane, each at the number of its pixel.
abbrev pub is_plain : Way → Bool
is_plain Cleared = true
is_plain Single = true
is_plain Pair = false
is_plain Own = true
is_plain Flat = false
is_plain FlatPair = false
is_plain FlatFour = false

-- The mask of sample index s, 64 bits in place of depths: bit p says in which plane of a pair pixel p has the sample.
abbrev pub mask_of : BlockSamples → ℕ → ℕ
mask_of masks s =
    slice_index masks.z (4 * s) + 65536 * slice_index masks.z (4 * s + 1) + 4294967296 * slice_index masks.z (4 * s + 2) + 281474976710656 * slice_index masks.z (4 * s + 3)

-- The number, if the mask has bit p, else 0.
abbrev pub if_bit : ℕ → ℕ → ℕ → ℕ
if_bit mask p n = if bit_at mask p == 1 then n else 0

-- Which of the own planes of a block has sample s of pixel p. A pair has two of them, the first and the middle one, and masks; so has a flat block
-- of two samples, with one in each, and one of one sample has the first. A flat block of up to four samples has four, and further masks: with
-- its bit in both a sample is the fourth, in the first alone the second, and in the further one alone the third.
abbrev pub own_plane : SampleCount → Way → BlockSamples → BlockSamples → ℕ → ℕ → ℕ
own_plane count Cleared masks more p s = s
own_plane count Single masks more p s = s
own_plane count Pair masks more p s = if_bit (mask_of masks s) p (count_of count / 2)
own_plane count Own masks more p s = s
own_plane count Flat masks more p s = 0
own_plane count FlatPair masks more p s = if_bit (mask_of masks s) p (count_of count / 2)
own_plane count FlatFour masks more p s = if_bit (mask_of masks s) p (count_of count / 2) + if_bit (mask_of more s) p (count_of count / 4)

-- The index of the plane with the masks of block k among those of its tile, if it is a pair: the last of its own planes.
abbrev pub masks_place : SampleCount → ℕ → ℕ
masks_place count k = 1 + (k + 1) * count_of count + (count_of count - 1)

-- The masks of block k of a tile with these planes.
abbrev pub masks_in : SampleCount → (ℕ → BlockSamples) → ℕ → BlockSamples
masks_in count planes k = planes (masks_place count k)

-- The masks of a plane from this number on.
abbrev pub masks_from : ℕ → BlockSamples → BlockSamples
masks_from n plane = record { z = drop (4 * n) plane.z; r = plane.r; g = plane.g; b = plane.b; alpha = plane.alpha }

-- Which of a block's own planes has its further masks, if it has up to four samples: the last one, behind its masks. With 16 samples of a
-- pixel that one has no room for both, and they are in the last but one.
abbrev pub further_plane : SampleCount → ℕ
further_plane One = 0
further_plane Two = 1
further_plane Four = 3
further_plane Eight = 7
further_plane Sixteen = 14

-- The number of the first further mask among those of its plane.
abbrev pub first_further : SampleCount → ℕ
first_further One = 1
first_further Two = 2
first_further Four = 4
first_further Eight = 8
first_further Sixteen = 0

-- The index of the plane with the further masks of block k among those of its tile.
abbrev pub more_place : SampleCount → ℕ → ℕ
more_place count k = 1 + (k + 1) * count_of count + further_plane count

-- The further masks of block k of a tile with these planes.
abbrev pub more_in : SampleCount → (ℕ → BlockSamples) → ℕ → BlockSamples
more_in count planes k = masks_from (first_further count) (planes (more_place count k))

-- The index of the plane of sample s of pixel p of block k among those of its tile, if it keeps its samples in this way.
abbrev pub sample_place : SampleCount → Way → (ℕ → BlockSamples) → ℕ → ℕ → ℕ → ℕ
sample_place count way planes k p s = place_by count way k (own_plane count way (masks_in count planes k) (more_in count planes k) p s)

-- The index of the plane of sample s of pixel (i, j) among those of its tile.
abbrev pub place_in_tile : SampleCount → (ℕ → BlockSamples) → ℕ → ℕ → ℕ → ℕ
place_in_tile count planes i j s =
    sample_place count (way_of (planes 0) (block_in_tile i j)) planes (block_in_tile i j) (pixel_in_block i j) s

-- Sample s of pixel (i, j), by the planes of its tile. A plane has one sample of each pixel of the block, row by row; of a flat
-- block it has one at the block's number.
abbrev pub sample_in : SampleCount → (ℕ → BlockSamples) → ℕ → ℕ → ℕ → CanvasSample
sample_in count planes i j s =
    stored_at (planes (place_in_tile count planes i j s)) (slot_by (way_of (planes 0) (block_in_tile i j)) (block_in_tile i j) (pixel_in_block i j))

-- The planes of a tile by their index.
abbrev pub in_list : List BlockSamples → ℕ → BlockSamples
in_list samples k = slice_index_or samples k (record { z = []; r = []; g = []; b = []; alpha = [] })

-- Sample s of the pixel in a column and a row of a tile, as it is stored in the tile's planes.
abbrev pub stored_in_tile : SampleCount → List BlockSamples → ℕ → ℕ → ℕ → CanvasSample
stored_in_tile count samples i j s = sample_in count (in_list samples) i j s

-- The way in which block k of a tile keeps its samples, by the tile's planes.
abbrev pub way_in_tile : List BlockSamples → ℕ → Way
way_in_tile samples k = way_of (in_list samples 0) k

-- Each sample of the tile is unchanged. It may be kept in another way.
abbrev pub IsSameTile : SampleCount → List BlockSamples → List BlockSamples → Type 0
IsSameTile count old new = (i j s : ℕ) → s < count_of count → stored_in_tile count new i j s ≡ stored_in_tile count old i j s

-- Each sample of the tile that is not one of block k is unchanged.
abbrev pub KeepsOtherSamples : SampleCount → ℕ → List BlockSamples → List BlockSamples → Type 0
KeepsOtherSamples count k old new =
    (i j s : ℕ) → s < count_of count → block_in_tile i j ≢ k → stored_in_tile count new i j s ≡ stored_in_tile count old i j s

-- All blocks of the tile but block k keep their samples in the way in which they did.
abbrev pub KeepsOtherWays : ℕ → List BlockSamples → List BlockSamples → Type 0
KeepsOtherWays k old new = (m : ℕ) → m < 64 → m ≢ k → way_in_tile new m ≡ way_in_tile old m

-- Where the mask has a bit, the first sample, else the second.
abbrev pub chosen : ℕ → ℕ → CanvasSample → CanvasSample → CanvasSample
chosen mask p set clear = if bit_at mask p == 1 then set else clear

-- Each sample of block k, which kept them in this way before, is now in its own plane.
abbrev pub AreOwnBy : SampleCount → Way → ℕ → List BlockSamples → List BlockSamples → Type 0
AreOwnBy count way k old new =
    (s p : ℕ) → s < count_of count → p < 64
    → stored_at (in_list new (place_by count Own k s)) p ≡ stored_at (in_list old (sample_place count way (in_list old) k p s)) (slot_by way k p)

-- All planes of the tile but the own ones of block k are unchanged.
abbrev pub KeepsOtherPlanes : SampleCount → ℕ → List BlockSamples → List BlockSamples → Type 0
KeepsOtherPlanes count k old new =
    (n : ℕ) → ((s : ℕ) → s < count_of count → n ≢ place_by count Own k s) → in_list new n ≡ in_list old n

-- The masks of block k of a tile, which is a pair, are these.
abbrev pub HasMasks : SampleCount → ℕ → List ℕ → List BlockSamples → Type 0
HasMasks count k masks samples = (s : ℕ) → s < count_of count → mask_of (masks_in count (in_list samples) k) s ≡ slice_index masks s

-- Of block k sample s of a pixel is that of this plane where mask s has the pixel's bit, else it is unchanged.
abbrev pub AreReplaced : SampleCount → ℕ → List ℕ → BlockSamples → List BlockSamples → List BlockSamples → Type 0
AreReplaced count k masks plane old new =
    (i j s : ℕ) → s < count_of count → block_in_tile i j ≡ k
    → stored_in_tile count new i j s ≡ chosen (slice_index masks s) (pixel_in_block i j) (stored_at plane (pixel_in_block i j)) (stored_in_tile count old i j s)

-- The id that is stored in place of a colour: red is its lowest byte.
abbrev pub id_of : CanvasSample → ℕ
id_of sample = sample.r + 256 * sample.g + 65536 * sample.b

-- All blocks of the tile are kept as the one to which it was cleared, and all of its samples have one id.
pub record IsUniformTile (count : SampleCount) (samples : List BlockSamples) : Type 0 where
  pub cleared : (k : ℕ) → k < 64 → way_in_tile samples k ≡ Cleared
  pub one : (i j s : ℕ) → s < count_of count → id_of (stored_in_tile count samples i j s) ≡ id_of (stored_in_tile count samples 0 0 0)
