-- The two planes and the masks of a pair.
use Rattle.std.proofs.Common.{inl, inr, ◌≡◌, ◌≢◌, ◌∙◌, refl, ap, sym, ℕ, ◌+◌, ◌-◌, ◌/◌, ◌<◌, ◌≤◌, Bool, true, false, List, length, slice_index, slice_set, arith}
use Rattle.std.specs.Prelude.{◌==◌, if◌then◌else◌}
use Rattle.std.specs.Int.{bit_at}
use Rattle.std.proofs.lemmas.Bool.Decides.{eqb_tells}
use Rattle.std.proofs.lemmas.Nat.Bits.{bit_at-zero}
use Rattle.std.proofs.lemmas.Bool.{false≢true}
use Rattle.std.proofs.lemmas.List.{get_or-set_same, get_or-set_other, length-set}
use Rattle.grid.specs.Samples.{count_of}
use Rattle.grid.specs.declared.sample_count.SampleCount.{SampleCount}
use Rattle.lanes.specs.declared.block_samples.BlockSamples.{BlockSamples}
use Rattle.lanes.specs.Block.{stored_at}
use Rattle.shade.specs.declared.sample.CanvasSample.{CanvasSample}
use Rattle.blocks.specs.declared.way.Way.{Way}
use Rattle.blocks.specs.declared.way.Way.TheVariants.{Cleared, Single, Pair, Own, Flat, FlatPair, FlatFour}
use Rattle.blocks.specs.Layout.{more_in, planes_of_tile, block_in_tile, pixel_in_block, way_of, place_by, slot_by, is_plain, mask_of, masks_in, sample_place, in_list, stored_in_tile, way_in_tile, chosen, HasMasks, KeepsOtherSamples, KeepsOtherWays}
use Rattle.blocks.proofs.Ways.{pair_not_flat, flat_pair_not_flat, pair_not_four, flat_pair_not_four}
use Rattle.blocks.proofs.Places.{none, behind_first, within_way, last_sample}
use Rattle.blocks.proofs.TilePlanes.{cases_eq, KeepsOthers, by_any_way, others_same, way_set, behind_set}

-- ---- one of two samples by a bit of a mask
pub chosen_set : (mask p : ℕ) (x y : CanvasSample) → bit_at mask p ≡ 1 → chosen mask p x y ≡ x
chosen_set mask p x y e = ap (λ b. if b == 1 then x else y) e

pub chosen_clear : (mask p : ℕ) (x y : CanvasSample) → bit_at mask p ≢ 1 → chosen mask p x y ≡ y
chosen_clear mask p x y other =
    elim (eqb_tells (bit_at mask p) 1) [
      | inl same ↦ absurd (other same.1)
      | inr clear ↦ ap (λ b. if b then x else y) clear.0
    ]

pub chosen_same : (mask p : ℕ) (x y : CanvasSample) → y ≡ x → chosen mask p y x ≡ x
chosen_same mask p x y e =
    elim (cases_eq (bit_at mask p) 1) [
      | inl set ↦ chosen_set mask p y x set ∙ e
      | inr clear ↦ chosen_clear mask p y x clear
    ]

pub chosen_none : (mask p : ℕ) (x y : CanvasSample) → mask ≡ 0 → chosen mask p x y ≡ y
chosen_none mask p x y e = chosen_clear mask p x y (λ set. (let zero = ap (λ m. bit_at m p) e ∙ bit_at-zero p in omega (arith, set, zero)))

-- a sample is that of the second plane where the mask has a bit
by_bit : (b : Bool) (g : ℕ → CanvasSample) (n m : ℕ) → (if b then g n else g m) ≡ g (if b then n else m)
by_bit true g n m = refl
by_bit false g n m = refl

-- the first and the second sample of a pair at pixel p, or those of a flat block
abbrev pub sample_of : SampleCount → Way → (ℕ → BlockSamples) → ℕ → ℕ → ℕ → CanvasSample
sample_of count way f k p n = stored_at (f (place_by count way k n)) (slot_by way k p)

pub chosen_by : (count : SampleCount) (way : Way) (f : ℕ → BlockSamples) (k p s : ℕ) → is_plain way ≡ false → way ≢ FlatFour
    → chosen (mask_of (masks_in count f k) s) p (sample_of count way f k p (count_of count / 2)) (sample_of count way f k p 0) ≡ stored_at (f (sample_place count way f k p s)) (slot_by way k p)
chosen_by count Cleared f k p s other few = absurd (false≢true (sym other))
chosen_by count Single f k p s other few = absurd (false≢true (sym other))
chosen_by count Pair f k p s other few = by_bit (bit_at (mask_of (masks_in count f k) s) p == 1) (sample_of count Pair f k p) (count_of count / 2) 0
chosen_by count Own f k p s other few = absurd (false≢true (sym other))
chosen_by count Flat f k p s other few = chosen_same (mask_of (masks_in count f k) s) p (sample_of count Flat f k p 0) (sample_of count Flat f k p (count_of count / 2)) refl
chosen_by count FlatPair f k p s other few = by_bit (bit_at (mask_of (masks_in count f k) s) p == 1) (sample_of count FlatPair f k p) (count_of count / 2) 0
chosen_by count FlatFour f k p s other few = absurd (few refl)

-- by these masks, which are any if the block has one sample
pub chosen_with : (count : SampleCount) (way : Way) (f : ℕ → BlockSamples) (masks : BlockSamples) (k p s : ℕ) → is_plain way ≡ false → way ≢ FlatFour → (way ≢ Flat → masks ≡ masks_in count f k)
    → chosen (mask_of masks s) p (sample_of count way f k p (count_of count / 2)) (sample_of count way f k p 0) ≡ stored_at (f (sample_place count way f k p s)) (slot_by way k p)
chosen_with count Cleared f masks k p s other few same = absurd (false≢true (sym other))
chosen_with count Single f masks k p s other few same = absurd (false≢true (sym other))
chosen_with count Pair f masks k p s other few same = ap (λ m. chosen (mask_of m s) p (sample_of count Pair f k p (count_of count / 2)) (sample_of count Pair f k p 0)) (same pair_not_flat) ∙ chosen_by count Pair f k p s refl pair_not_four
chosen_with count Own f masks k p s other few same = absurd (false≢true (sym other))
chosen_with count Flat f masks k p s other few same = chosen_same (mask_of masks s) p (sample_of count Flat f k p 0) (sample_of count Flat f k p (count_of count / 2)) refl
chosen_with count FlatPair f masks k p s other few same =
    ap (λ m. chosen (mask_of m s) p (sample_of count FlatPair f k p (count_of count / 2)) (sample_of count FlatPair f k p 0)) (same flat_pair_not_flat) ∙ chosen_by count FlatPair f k p s refl flat_pair_not_four
chosen_with count FlatFour f masks k p s other few same = absurd (few refl)

-- one of four samples by two masks: without a bit in both masks the first
pub four_chosen : (b c : Bool) (g : ℕ → CanvasSample) (n m : ℕ)
    → (if c then (if b then g (n + m) else g m) else (if b then g n else g 0)) ≡ g ((if b then n else 0) + (if c then m else 0))
four_chosen true true g n m = refl
four_chosen true false g n m = ap g (omega arith)
four_chosen false true g n m = ap g (omega arith)
four_chosen false false g n m = ap g (omega arith)

pub four_by : (count : SampleCount) (f : ℕ → BlockSamples) (k p s : ℕ)
    → chosen (mask_of (more_in count f k) s) p (chosen (mask_of (masks_in count f k) s) p (sample_of count FlatFour f k p (count_of count / 2 + count_of count / 4)) (sample_of count FlatFour f k p (count_of count / 4)))
    (chosen (mask_of (masks_in count f k) s) p (sample_of count FlatFour f k p (count_of count / 2)) (sample_of count FlatFour f k p 0))
    ≡ stored_at (f (sample_place count FlatFour f k p s)) k
four_by count f k p s =
    four_chosen (bit_at (mask_of (masks_in count f k) s) p == 1) (bit_at (mask_of (more_in count f k) s) p == 1) (sample_of count FlatFour f k p) (count_of count / 2) (count_of count / 4)

pub chosen_place : (count : SampleCount) (f : ℕ → BlockSamples) (k p s : ℕ)
    → chosen (mask_of (masks_in count f k) s) p (stored_at (f (place_by count Pair k (count_of count / 2))) p) (stored_at (f (place_by count Pair k 0)) p)
    ≡ stored_at (f (sample_place count Pair f k p s)) p
chosen_place count f k p s = chosen_by count Pair f k p s refl pair_not_four

-- ---- in place of samples one is stored where a mask has a bit: all of the second one are in that mask
pub in_replaced : (mask old p : ℕ) (x a b : CanvasSample) → (bit_at old p ≡ 1 → bit_at mask p ≡ 1) → chosen mask p x a ≡ chosen mask p x (chosen old p b a)
in_replaced mask old p x a b within =
    elim (cases_eq (bit_at mask p) 1) [
      | inl set ↦ chosen_set mask p x a set ∙ sym (chosen_set mask p x (chosen old p b a) set)
      | inr clear ↦ chosen_clear mask p x a clear ∙ sym (chosen_clear mask p x (chosen old p b a) clear ∙ chosen_clear old p b a (λ set. clear (within set)))
    ]

-- or all of the first one
pub all_replaced : (mask old rest p : ℕ) (x a b : CanvasSample) → (bit_at mask p ≢ 1 → bit_at old p ≡ 1) → (bit_at mask p ≡ 1 → bit_at rest p ≡ 0) → (bit_at mask p ≢ 1 → bit_at rest p ≡ bit_at old p)
    → chosen rest p b x ≡ chosen mask p x (chosen old p b a)
all_replaced mask old rest p x a b all less as_old =
    elim (cases_eq (bit_at mask p) 1) [
      | inl set ↦ chosen_clear rest p b x (λ one. (let zero = less set in omega (arith, one, zero))) ∙ sym (chosen_set mask p x (chosen old p b a) set)
      | inr clear ↦ chosen_set rest p b x (as_old clear ∙ all clear) ∙ sym (chosen_clear mask p x (chosen old p b a) clear ∙ chosen_set old p b a (all clear))
    ]

-- or it is the second one
pub same_replaced : (mask old union p : ℕ) (a b : CanvasSample) → (bit_at mask p ≡ 1 → bit_at union p ≡ 1) → (bit_at mask p ≢ 1 → bit_at union p ≡ bit_at old p) → chosen union p b a ≡ chosen mask p b (chosen old p b a)
same_replaced mask old union p a b more as_old =
    elim (cases_eq (bit_at mask p) 1) [
      | inl set ↦ chosen_set union p b a (more set) ∙ sym (chosen_set mask p b (chosen old p b a) set)
      | inr clear ↦ ap (λ m. if m == 1 then b else a) (as_old clear) ∙ sym (chosen_clear mask p b (chosen old p b a) clear)
    ]

-- a sample of a pair
pub pair_sample : (count : SampleCount) (xs : List BlockSamples) (k i j s : ℕ) → way_in_tile xs k ≡ Pair → block_in_tile i j ≡ k
    → stored_in_tile count xs i j s ≡ chosen (mask_of (masks_in count (in_list xs) k) s) (pixel_in_block i j) (stored_at (in_list xs (place_by count Pair k (count_of count / 2))) (pixel_in_block i j)) (stored_at (in_list xs (place_by count Pair k 0)) (pixel_in_block i j))
pair_sample count xs k i j s pair here =
    by_any_way count xs Pair i j s (ap (way_in_tile xs) here ∙ pair)
    ∙ ap (λ m. stored_at (in_list xs (sample_place count Pair (in_list xs) m (pixel_in_block i j) s)) (pixel_in_block i j)) here
    ∙ sym (chosen_place count (in_list xs) k (pixel_in_block i j) s)

-- ---- a plane that is stored as own plane n of block k, at a
module _ (count : SampleCount) (k n a : ℕ) (plane : BlockSamples) (old : List BlockSamples) (is_a : a ≡ place_by count Pair k n) (own : n < count_of count) where
  abbrev put : List BlockSamples
  put = slice_set old a plane

  first_kept : in_list put 0 ≡ in_list old 0
  first_kept = get_or-set_other old a 0 plane none (λ e. behind_first count Pair k n (sym (e ∙ is_a)))

  pub put_ways : (m : ℕ) → way_in_tile put m ≡ way_in_tile old m
  put_ways m = ap (λ state. way_of state m) first_kept

  pub put_is : k < 64 → length old ≡ planes_of_tile count → in_list put (place_by count Pair k n) ≡ plane
  put_is small long = ap (λ p. in_list put p) (sym is_a) ∙ get_or-set_same old a plane none (omega (arith, is_a, within_way count Pair k n small own, long))

  pub put_others : KeepsOtherSamples count k old put
  put_others i j s h other = others_same count k old put (λ m l apart. put_ways m) (λ p away apart. get_or-set_other old a p plane none (λ e. apart n own (e ∙ is_a))) i j s h other

  pub put_other : (q : ℕ) → q ≢ n → in_list put (place_by count Pair k q) ≡ in_list old (place_by count Pair k q)
  put_other q apart = get_or-set_other old a (place_by count Pair k q) plane none (λ e. apart (omega (arith, e, is_a)))

-- ---- a block that is made a pair of its two planes: its masks are stored, and then its way
module _ (count : SampleCount) (k : ℕ) (masks : List ℕ) (marks state : BlockSamples) (old : List BlockSamples) (m : ℕ) (is_m : m ≡ place_by count Pair k (count_of count - 1))
    (some : 4 ≤ count_of count) (small : k < 64) (long : length old ≡ planes_of_tile count)
    (has : (s : ℕ) → s < count_of count → mask_of marks s ≡ slice_index masks s) where
  abbrev marked : List BlockSamples
  marked = put count k (count_of count - 1) m marks old is_m (last_sample count)

  abbrev new : List BlockSamples
  new = slice_set marked 0 state

  some_planes : 0 < length marked
  some_planes = omega (arith, long, length-set old m marks)

  module _ (pair : way_of state k ≡ Pair) (others : (m : ℕ) → m < 64 → m ≢ k → way_of state m ≡ way_of (in_list marked 0) m) where
    pub is_pair : way_in_tile new k ≡ Pair
    is_pair = way_set marked state k Pair some_planes pair

    pub pair_ways : KeepsOtherWays k old new
    pair_ways p l apart = way_set marked state p (way_in_tile old p) some_planes (others p l apart ∙ put_ways count k (count_of count - 1) m marks old is_m (last_sample count) p)

    behind : (n : ℕ) → in_list new (place_by count Pair k n) ≡ in_list marked (place_by count Pair k n)
    behind n = behind_set marked state (place_by count Pair k n) (behind_first count Pair k n)

    pub has_masks : HasMasks count k masks new
    has_masks s l = ap (λ plane. mask_of plane s) (behind (count_of count - 1) ∙ put_is count k (count_of count - 1) m marks old is_m (last_sample count) small long) ∙ has s l

    -- its two planes are unchanged
    kept : (n : ℕ) → n ≢ count_of count - 1 → in_list new (place_by count Pair k n) ≡ in_list old (place_by count Pair k n)
    kept n apart = behind n ∙ put_other count k (count_of count - 1) m marks old is_m (last_sample count) n apart

    pub pair_made : (i j s : ℕ) → s < count_of count → block_in_tile i j ≡ k
        → stored_in_tile count new i j s ≡ chosen (slice_index masks s) (pixel_in_block i j) (stored_at (in_list old (place_by count Pair k (count_of count / 2))) (pixel_in_block i j)) (stored_at (in_list old (place_by count Pair k 0)) (pixel_in_block i j))
    pair_made i j s l here =
        let p : ℕ = pixel_in_block i j in
        let second = in_list old (place_by count Pair k (count_of count / 2)) in
        by_any_way count new Pair i j s (ap (way_in_tile new) here ∙ is_pair)
        ∙ ap (λ q. stored_at (in_list new (sample_place count Pair (in_list new) q p s)) p) here
        ∙ sym (chosen_place count (in_list new) k p s)
        ∙ ap (λ mask. chosen mask p (stored_at (in_list new (place_by count Pair k (count_of count / 2))) p) (stored_at (in_list new (place_by count Pair k 0)) p)) (has_masks s l)
        ∙ ap (λ plane. chosen (slice_index masks s) p (stored_at plane p) (stored_at (in_list new (place_by count Pair k 0)) p)) (kept (count_of count / 2) (λ e. omega (arith, e, some)))
        ∙ ap (λ plane. chosen (slice_index masks s) p (stored_at second p) (stored_at plane p)) (kept 0 (λ e. omega (arith, e, some)))

    others_kept : KeepsOthers count k old new
    others_kept p away apart = behind_set marked state p away ∙ get_or-set_other old m p marks none (λ e. apart (count_of count - 1) (last_sample count) (e ∙ is_m))

    pub pair_others : KeepsOtherSamples count k old new
    pair_others i j s l apart = others_same count k old new pair_ways others_kept i j s l apart
