-- Each tile has planes of its own.
use Rattle.std.proofs.Common.{◌≡◌, ◌≢◌, ◌⊎◌, ◌∙◌, inl, inr, refl, ap, ℕ, Bool, true, false, ◌+◌, ◌-◌, ◌*◌, ◌/◌, ◌%◌, ◌<◌, ◌≤◌, [], drop, slice_index, arith}
use Rattle.std.specs.Prelude.{◌==◌, if◌then◌else◌}
use Rattle.std.specs.Int.{bit_at}
use Rattle.std.proofs.lemmas.Bool.Decides.{eqb_tells}
use Rattle.std.proofs.lemmas.List.{get_or-drop}
use Rattle.grid.specs.Samples.{count_of}
use Rattle.grid.specs.declared.sample_count.SampleCount.{SampleCount}
use Rattle.grid.specs.declared.sample_count.SampleCount.TheVariants.{One, Two, Four, Eight, Sixteen}
use Rattle.shade.proofs.Resolved.{some_samples}
use Rattle.lanes.specs.declared.block_samples.BlockSamples.{BlockSamples}
use Rattle.lanes.specs.Block.{stored_at}
use Rattle.blocks.specs.declared.way.Way.{Way}
use Rattle.blocks.specs.declared.way.Way.TheVariants.{Cleared, Single, Pair, Own, Flat, FlatPair, FlatFour}
use Rattle.blocks.specs.Layout.{masks_from, further_plane, first_further, more_in, planes_of_tile, block_in_tile, pixel_in_block, way_of, mask_of, own_plane, place_by, flat_place, slot_by, masks_in, sample_place, place_in_tile, sample_in}

abbrev pub none : BlockSamples
none = record { z = []; r = []; g = []; b = []; alpha = [] }

-- ---- places
-- with four samples a pixel
pub four_place : (k n : ℕ) → ((n ≡ 3) × (flat_place Four k n ≡ 5 + 4 * k)) ⊎ ((n ≢ 3) × (flat_place Four k n ≡ 2 + n / 2 + 2 * (n % 2)))
four_place k n =
    elim (eqb_tells n 3) [
      | inl last ↦ inl (last.1, ap (λ b. if b then 5 + 4 * k else 2 + n / 2 + 2 * (n % 2)) last.0)
      | inr other ↦ inr (other.1, ap (λ b. if b then 5 + 4 * k else 2 + n / 2 + 2 * (n % 2)) other.0)
    ]

within_planes : (count : SampleCount) (q s : ℕ) → q ≤ 64 → s < count_of count → 1 + q * count_of count + s < planes_of_tile count
within_planes One q s h k = omega arith
within_planes Two q s h k = omega arith
within_planes Four q s h k = omega arith
within_planes Eight q s h k = omega arith
within_planes Sixteen q s h k = omega arith

within_flat : (count : SampleCount) (k n : ℕ) → k < 64 → n < count_of count → flat_place count k n < planes_of_tile count
within_flat One k n l h = omega (arith, l, h)
within_flat Two k n l h = omega (arith, l, h)
within_flat Four k n l h = elim (four_place k n) [ inl last ↦ omega (arith, l, last.1) | inr other ↦ omega (arith, h, other.0, other.1) ]
within_flat Eight k n l h = omega (arith, h)
within_flat Sixteen k n l h = omega (arith, h)

behind_flat : (count : SampleCount) (k n : ℕ) → flat_place count k n ≢ 0
behind_flat One k n e = omega (arith, e)
behind_flat Two k n e = omega (arith, e)
behind_flat Four k n e = elim (four_place k n) [ inl last ↦ omega (arith, e, last.1) | inr other ↦ omega (arith, e, other.1) ]
behind_flat Eight k n e = omega (arith, e)
behind_flat Sixteen k n e = omega (arith, e)

-- a plane with samples of flat blocks lies before the own blocks, or is an own plane of the block
pub flat_where : (count : SampleCount) (k n : ℕ) → n < count_of count → (flat_place count k n < 1 + count_of count) ⊎ ((m : ℕ) × (m < count_of count) × (flat_place count k n ≡ 1 + (k + 1) * count_of count + m))
flat_where One k n l = inr (n, l, omega arith)
flat_where Two k n l = inr (n, l, omega arith)
flat_where Four k n l = elim (four_place k n) [ inl last ↦ inr (0, omega arith, omega (arith, last.1)) | inr other ↦ inl (omega (arith, l, other.0, other.1)) ]
flat_where Eight k n l = inl (omega (arith, l))
flat_where Sixteen k n l = inl (omega (arith, l))

-- a plane of a block is one of its tile, and not the first
pub within_way : (count : SampleCount) (way : Way) (k s : ℕ) → k < 64 → s < count_of count → place_by count way k s < planes_of_tile count
within_way count Cleared k s l h = omega (arith, h)
within_way count Single k s l h = let below = within_planes count (k + 1) 0 (omega (arith, l)) (omega (arith, h)) in omega (arith, below)
within_way count Pair k s l h = within_planes count (k + 1) s (omega (arith, l)) h
within_way count Own k s l h = within_planes count (k + 1) s (omega (arith, l)) h
within_way count Flat k s l h = within_flat count k 0 l (some_samples count)
within_way count FlatPair k s l h = within_flat count k s l h
within_way count FlatFour k s l h = within_flat count k s l h

-- the masks of a pair too
pub last_sample : (count : SampleCount) → count_of count - 1 < count_of count
last_sample count = omega (arith, some_samples count)

pub middle_sample : (count : SampleCount) → count_of count / 2 < count_of count
middle_sample count = omega (arith, some_samples count)

pub within_masks : (count : SampleCount) (k : ℕ) → k < 64 → 1 + (k + 1) * count_of count + (count_of count - 1) < planes_of_tile count
within_masks count k l = within_way count Own k (count_of count - 1) l (last_sample count)

-- further masks
pub further_below : (count : SampleCount) → further_plane count < count_of count
further_below One = omega arith
further_below Two = omega arith
further_below Four = omega arith
further_below Eight = omega arith
further_below Sixteen = omega arith

pub few_further : (count : SampleCount) → first_further count + count_of count ≤ 16
few_further One = omega arith
few_further Two = omega arith
few_further Four = omega arith
few_further Eight = omega arith
few_further Sixteen = omega arith

-- the further ones are in the plane of the others, behind them, or in another plane
pub further_where : (count : SampleCount) → ((further_plane count ≡ count_of count - 1) × (first_further count ≡ count_of count)) ⊎ ((further_plane count + 1 ≡ count_of count - 1) × (first_further count ≡ 0))
further_where One = inl (refl, refl)
further_where Two = inl (refl, refl)
further_where Four = inl (refl, refl)
further_where Eight = inl (refl, refl)
further_where Sixteen = inr (refl, refl)

pub further_not_first : (count : SampleCount) → 4 ≤ count_of count → further_plane count ≢ 0
further_not_first One some e = omega (arith, some)
further_not_first Two some e = omega (arith, some)
further_not_first Four some e = omega (arith, e)
further_not_first Eight some e = omega (arith, e)
further_not_first Sixteen some e = omega (arith, e)

pub mask_from : (n : ℕ) (plane : BlockSamples) (s : ℕ) → mask_of (masks_from n plane) s ≡ mask_of plane (n + s)
mask_from n plane s = λ i. first i + 65536 * word 1 i + 4294967296 * word 2 i + 281474976710656 * word 3 i
  where
    first : slice_index (drop (4 * n) plane.z) (4 * s) ≡ slice_index plane.z (4 * (n + s))
    first = get_or-drop (4 * n) plane.z (4 * s) 0 ∙ ap (slice_index plane.z) (omega arith)

    word : (j : ℕ) → slice_index (drop (4 * n) plane.z) (4 * s + j) ≡ slice_index plane.z (4 * (n + s) + j)
    word j = get_or-drop (4 * n) plane.z (4 * s + j) 0 ∙ ap (slice_index plane.z) (omega arith)

pub within_more : (count : SampleCount) (k : ℕ) → k < 64 → 1 + (k + 1) * count_of count + further_plane count < planes_of_tile count
within_more count k l = within_way count Own k (further_plane count) l (further_below count)

either_plane : (count : SampleCount) (b : Bool) → (if b then count_of count / 2 else 0) < count_of count
either_plane count true = middle_sample count
either_plane count false = some_samples count

one_of_four : (count : SampleCount) (b c : Bool) → (if b then count_of count / 2 else 0) + (if c then count_of count / 4 else 0) < count_of count
one_of_four count true true = omega (arith, some_samples count)
one_of_four count true false = omega (arith, some_samples count)
one_of_four count false true = omega (arith, some_samples count)
one_of_four count false false = some_samples count

-- one of its own planes has a sample
pub within_block : (count : SampleCount) (way : Way) (masks more : BlockSamples) (p s : ℕ) → s < count_of count → own_plane count way masks more p s < count_of count
within_block count Cleared masks more p s h = h
within_block count Single masks more p s h = h
within_block count Pair masks more p s h = either_plane count (bit_at (mask_of masks s) p == 1)
within_block count Own masks more p s h = h
within_block count Flat masks more p s h = some_samples count
within_block count FlatPair masks more p s h = either_plane count (bit_at (mask_of masks s) p == 1)
within_block count FlatFour masks more p s h = one_of_four count (bit_at (mask_of masks s) p == 1) (bit_at (mask_of more s) p == 1)

pub behind_first : (count : SampleCount) (way : Way) (k s : ℕ) → place_by count way k s ≢ 0
behind_first count Cleared k s e = omega (arith, e)
behind_first count Single k s e = omega (arith, e)
behind_first count Pair k s e = omega (arith, e)
behind_first count Own k s e = omega (arith, e)
behind_first count Flat k s e = behind_flat count k 0 e
behind_first count FlatPair k s e = behind_flat count k s e
behind_first count FlatFour k s e = behind_flat count k s e

-- the number of a sample in its plane
pub slot_below : (way : Way) (k p : ℕ) → k < 64 → p < 64 → slot_by way k p < 64
slot_below Cleared k p l h = h
slot_below Single k p l h = h
slot_below Pair k p l h = h
slot_below Own k p l h = h
slot_below Flat k p l h = l
slot_below FlatPair k p l h = l
slot_below FlatFour k p l h = l

pub within_tile : (count : SampleCount) (f : ℕ → BlockSamples) (i j s : ℕ) → s < count_of count → place_in_tile count f i j s < planes_of_tile count
within_tile count f i j s h =
    let k : ℕ = block_in_tile i j in
    let way = way_of (f 0) k in
    within_way count way k (own_plane count way (masks_in count f k) (more_in count f k) (pixel_in_block i j) s) (omega arith) (within_block count way (masks_in count f k) (more_in count f k) (pixel_in_block i j) s h)

some_planes : (count : SampleCount) → 0 < planes_of_tile count
some_planes count = omega arith

-- a part of a number of equal parts ends before the whole does
pub part_within : (k many n : ℕ) → k < many → k * n + n ≤ many * n
part_within k many n h = grind arith

-- ---- the same planes have the same samples
pub same_in : (count : SampleCount) (f g : ℕ → BlockSamples) (i j s : ℕ) → s < count_of count → ((k : ℕ) → k < planes_of_tile count → f k ≡ g k) → sample_in count f i j s ≡ sample_in count g i j s
same_in count f g i j s h same =
    let k : ℕ = block_in_tile i j in
    let p : ℕ = pixel_in_block i j in
    ap (λ state. stored_at (f (sample_place count (way_of state k) f k p s)) (slot_by (way_of state k) k p)) (same 0 (some_planes count))
    ∙ ap (λ masks. stored_at (f (place_by count (way_of (g 0) k) k (own_plane count (way_of (g 0) k) masks (more_in count f k) p s))) (slot_by (way_of (g 0) k) k p)) (same (1 + (k + 1) * count_of count + (count_of count - 1)) (within_masks count k (omega arith)))
    ∙ ap (λ more. stored_at (f (place_by count (way_of (g 0) k) k (own_plane count (way_of (g 0) k) (masks_in count g k) (masks_from (first_further count) more) p s))) (slot_by (way_of (g 0) k) k p)) (same (1 + (k + 1) * count_of count + further_plane count) (within_more count k (omega arith)))
    ∙ ap (λ plane. stored_at plane (slot_by (way_of (g 0) k) k p)) (same (place_in_tile count g i j s) (within_tile count g i j s h))
