-- Blocks that have one sample or two.
use Rattle.std.proofs.Common.{true, ◌≡◌, ◌≢◌, ◌∙◌, inl, inr, refl, ap, sym, ℕ, ◌+◌, ◌-◌, ◌*◌, ◌/◌, ◌%◌, ◌<◌, ◌≤◌, List, length, slice_index, slice_set, arith}
use Rattle.std.specs.Int.{bit_at}
use Rattle.std.proofs.lemmas.List.{get_or-set_same, get_or-set_other, length-set}
use Rattle.grid.specs.Samples.{count_of}
use Rattle.grid.specs.declared.sample_count.SampleCount.{SampleCount}
use Rattle.grid.specs.declared.sample_count.SampleCount.TheVariants.{One, Two, Four, Eight, Sixteen}
use Rattle.shade.specs.declared.sample.CanvasSample.{CanvasSample}
use Rattle.shade.proofs.Resolved.{some_samples, few_samples}
use Rattle.lanes.specs.declared.block_samples.BlockSamples.{BlockSamples}
use Rattle.lanes.specs.Block.{stored_at}
use Rattle.blocks.specs.declared.flat_block.FlatBlock.{FlatBlock}
use Rattle.blocks.specs.declared.way.Way.{Way}
use Rattle.blocks.specs.declared.way.Way.TheVariants.{Cleared, Single, Pair, Own, Flat, FlatPair, FlatFour}
use Rattle.blocks.specs.Layout.{further_plane, planes_of_tile, block_in_tile, pixel_in_block, way_of, place_by, flat_place, slot_by, is_plain, mask_of, masks_in, sample_place, in_list, way_in_tile, chosen, KeepsOtherSamples, KeepsOtherWays}
use Rattle.blocks.specs.FlatBlocks.{flat_sample, HasFlat, HasOne, IsFlatReplaced}
use Rattle.blocks.specs.Palettes.{KeepsOtherPlaces}
use Rattle.blocks.proofs.Places.{none, four_place, behind_first, last_sample, middle_sample, within_way, further_below}
use Rattle.blocks.proofs.Ways.{flat_pair_not_four}
use Rattle.blocks.proofs.Pairs.{chosen_by, chosen_set, chosen_clear, chosen_same, chosen_none}
use Rattle.blocks.proofs.TilePlanes.{cases_eq, by_any_way, by_way, same_by_way, same_mask, same_further, one_place, own_apart, way_set, behind_set}

-- ---- a block that has them
pub alike_block : (count : SampleCount) (k : ℕ) (way : Way) (xs : List BlockSamples) (flat : FlatBlock) (sample : CanvasSample) → way_in_tile xs k ≡ way → is_plain way ≡ true → way ≢ Own
    → ((p : ℕ) → p < 64 → stored_at (in_list xs (place_by count way k 0)) p ≡ sample) → flat.first ≡ sample → flat.second ≡ sample → HasFlat count k flat xs
alike_block count k way xs flat sample was plain not_own alike first second i j s h here =
    let p : ℕ = pixel_in_block i j in
    by_way count xs way i j s plain (ap (way_in_tile xs) here ∙ was)
    ∙ ap (λ m. stored_at (in_list xs (place_by count way m s)) p) here
    ∙ ap (λ n. stored_at (in_list xs n) p) (one_place count way k s plain not_own)
    ∙ alike p (omega arith)
    ∙ sym first
    ∙ sym (chosen_same (slice_index flat.masks s) p flat.first flat.second (second ∙ sym first))

-- a plane that stands for a block which has one sample
pub seen_one : (count : SampleCount) (k : ℕ) (way : Way) (xs : List BlockSamples) (sample : CanvasSample) → way_in_tile xs k ≡ way → is_plain way ≡ true → way ≢ Own → k < 64
    → HasOne count k sample xs → (p : ℕ) → p < 64 → stored_at (in_list xs (place_by count way k 0)) p ≡ sample
seen_one count k way xs sample was plain not_own small one p l =
    let i : ℕ = 8 * (k % 8) + p % 8 in
    let j : ℕ = 8 * (k / 8) + p / 8 in
    let here : block_in_tile i j ≡ k = omega (arith, small, l) in
    let pixel : pixel_in_block i j ≡ p = omega (arith, small, l) in
    sym (by_way count xs way i j 0 plain (ap (way_in_tile xs) here ∙ was)
    ∙ (λ t. stored_at (in_list xs (place_by count way (here t) 0)) (pixel t)))
    ∙ one i j 0 (some_samples count) here

pub flat_block : (count : SampleCount) (k : ℕ) (xs : List BlockSamples) (flat : FlatBlock) → way_in_tile xs k ≡ Flat → flat.first ≡ stored_at (in_list xs (place_by count Flat k 0)) k
    → ((s p : ℕ) → s < count_of count → flat_sample flat s p ≡ flat.first) → HasFlat count k flat xs
flat_block count k xs flat was first one i j s h here =
    by_any_way count xs Flat i j s (ap (way_in_tile xs) here ∙ was)
    ∙ ap (λ m. stored_at (in_list xs (place_by count Flat m 0)) m) here
    ∙ sym first
    ∙ sym (one s (pixel_in_block i j) h)

pub pair_block : (count : SampleCount) (k : ℕ) (xs : List BlockSamples) (flat : FlatBlock) → way_in_tile xs k ≡ FlatPair → flat.first ≡ stored_at (in_list xs (place_by count FlatPair k 0)) k
    → flat.second ≡ stored_at (in_list xs (place_by count FlatPair k (count_of count / 2))) k → ((s : ℕ) → s < count_of count → slice_index flat.masks s ≡ mask_of (masks_in count (in_list xs) k) s)
    → HasFlat count k flat xs
pair_block count k xs flat was first second masks i j s h here =
    let p : ℕ = pixel_in_block i j in
    by_any_way count xs FlatPair i j s (ap (way_in_tile xs) here ∙ was)
    ∙ ap (λ m. stored_at (in_list xs (sample_place count FlatPair (in_list xs) m p s)) m) here
    ∙ sym (chosen_by count FlatPair (in_list xs) k p s refl flat_pair_not_four)
    ∙ (λ t. chosen (sym (masks s h) t) p (sym second t) (sym first t))

-- ---- the samples of all blocks but block k are unchanged
pub others_kept : (count : SampleCount) (k : ℕ) (old new : List BlockSamples) → KeepsOtherWays k old new → KeepsOtherPlaces count k old new → KeepsOtherSamples count k old new
others_kept count k old new ways keeps i j s h other =
    let m : ℕ = block_in_tile i j in
    let depths : (n : ℕ) → n < count_of count → (p : ℕ) → p < 64 → slice_index (in_list new (place_by count Own m n)).z p ≡ slice_index (in_list old (place_by count Own m n)).z p =
    λ n small p l. ap (λ (x : CanvasSample). x.z) (keeps Own m n p other (omega arith) small l) in
    same_by_way count old new i j s h (ways m (omega arith) other) (
      (λ _. same_mask (in_list new (place_by count Own m (count_of count - 1))) (in_list old (place_by count Own m (count_of count - 1))) s (omega (arith, h, few_samples count)) (depths (count_of count - 1) (last_sample count))),
      (λ _. same_further count (in_list new (place_by count Own m (further_plane count))) (in_list old (place_by count Own m (further_plane count))) s h (depths (further_plane count) (further_below count))),
    )
    (λ n small. keeps (way_in_tile old m) m n (pixel_in_block i j) other (omega arith) small (omega arith))

-- a plane with samples of flat blocks is no other block's
pub flat_elsewhere : (count : SampleCount) (k n m q : ℕ) → 4 ≤ count_of count → n < count_of count → q < count_of count → (m ≡ k → q ≢ 0) → flat_place count k n ≢ 1 + (m + 1) * count_of count + q
flat_elsewhere One k n m q some l r behind e = omega (arith, some)
flat_elsewhere Two k n m q some l r behind e = omega (arith, some)
flat_elsewhere Four k n m q some l r behind e = elim (four_place k n) [ inl last ↦ behind (omega (arith, r, e, last.1)) (omega (arith, r, e, last.1)) | inr other ↦ omega (arith, l, e, other.0, other.1) ]
flat_elsewhere Eight k n m q some l r behind e = omega (arith, l, e)
flat_elsewhere Sixteen k n m q some l r behind e = omega (arith, l, e)

flat_not_cleared : (count : SampleCount) (k n : ℕ) → flat_place count k n ≢ 1
flat_not_cleared One k n e = omega (arith, e)
flat_not_cleared Two k n e = omega (arith, e)
flat_not_cleared Four k n e = elim (four_place k n) [ inl last ↦ omega (arith, e, last.1) | inr other ↦ omega (arith, e, other.1) ]
flat_not_cleared Eight k n e = omega (arith, e)
flat_not_cleared Sixteen k n e = omega (arith, e)

two_apart : (count : SampleCount) (k : ℕ) → 4 ≤ count_of count → flat_place count k 0 ≢ flat_place count k (count_of count / 2)
two_apart One k some e = omega (arith, some)
two_apart Two k some e = omega (arith, some)
two_apart Four k some e = omega (arith, e)
two_apart Eight k some e = omega (arith, e)
two_apart Sixteen k some e = omega (arith, e)

-- ---- one of its samples is stored
module _ (count : SampleCount) (k n a : ℕ) (plane : BlockSamples) (old : List BlockSamples) (is_a : a ≡ flat_place count k n) (own : n < count_of count) (some : 4 ≤ count_of count) (room : a < length old)
    (kept : (q : ℕ) → q < 64 → q ≢ k → stored_at plane q ≡ stored_at (in_list old a) q) where
  abbrev put : List BlockSamples
  put = slice_set old a plane

  pub elsewhere : (q : ℕ) → q ≢ flat_place count k n → in_list put q ≡ in_list old q
  elsewhere q apart = get_or-set_other old a q plane none (λ e. apart (e ∙ is_a))

  shared : (way : Way) (m q : ℕ) → m ≢ k → m < 64 → stored_at (in_list put q) m ≡ stored_at (in_list old q) m
  shared way m q other small =
      elim (cases_eq q a) [
        | inr apart ↦ ap (λ p. stored_at p m) (get_or-set_other old a q plane none apart)
        | inl here ↦ ap (λ r. stored_at (in_list put r) m) here ∙ ap (λ p. stored_at p m) (get_or-set_same old a plane none room) ∙ kept m small other ∙ ap (λ r. stored_at (in_list old r) m) (sym here)
      ]

  pub sample_kept : KeepsOtherPlaces count k old put
  sample_kept Cleared m q p other small l below = ap (λ x. stored_at x p) (elsewhere 1 (λ e. flat_not_cleared count k n (sym e)))
  sample_kept Single m q p other small l below = ap (λ x. stored_at x p) (elsewhere (place_by count Single m q) (λ e. flat_elsewhere count k n m 0 some own (some_samples count) (λ same. absurd (other same)) (omega (arith, e))))
  sample_kept Pair m q p other small l below = ap (λ x. stored_at x p) (elsewhere (place_by count Pair m q) (λ e. flat_elsewhere count k n m q some own l (λ same. absurd (other same)) (sym e)))
  sample_kept Own m q p other small l below = ap (λ x. stored_at x p) (elsewhere (place_by count Own m q) (λ e. flat_elsewhere count k n m q some own l (λ same. absurd (other same)) (sym e)))
  sample_kept Flat m q p other small l below = shared Flat m (place_by count Flat m q) other small
  sample_kept FlatPair m q p other small l below = shared FlatPair m (place_by count FlatPair m q) other small
  sample_kept FlatFour m q p other small l below = shared FlatFour m (place_by count FlatFour m q) other small

  pub put_first : in_list put 0 ≡ in_list old 0
  put_first = elsewhere 0 (λ e. behind_first count FlatPair k n (sym e))

  pub put_here : in_list put (flat_place count k n) ≡ plane
  put_here = ap (in_list put) (sym is_a) ∙ get_or-set_same old a plane none room

-- its masks are stored
module _ (count : SampleCount) (k q a : ℕ) (plane : BlockSamples) (old : List BlockSamples) (is_a : a ≡ place_by count Own k q) (own : q < count_of count) where
  pub masks_kept : KeepsOtherPlaces count k old (slice_set old a plane)
  masks_kept way m n p other small l below =
      ap (λ x. stored_at x (slot_by way m p)) (get_or-set_other old a (place_by count way m n) plane none (λ e. own_apart count way m k n q other l own (e ∙ is_a)))

-- and its way
pub state_kept : (count : SampleCount) (k : ℕ) (state : BlockSamples) (old : List BlockSamples) → KeepsOtherPlaces count k old (slice_set old 0 state)
state_kept count k state old way m n p other small l below = ap (λ x. stored_at x (slot_by way m p)) (behind_set old state (place_by count way m n) (behind_first count way m n))

-- ---- a block that is made flat
module _ (count : SampleCount) (k : ℕ) (flat : FlatBlock) (first state : BlockSamples) (old : List BlockSamples) (a : ℕ) (is_a : a ≡ place_by count Flat k 0) (some : 4 ≤ count_of count) (small : k < 64) (long : length old ≡ planes_of_tile count)
    (stored : stored_at first k ≡ flat.first) (kept : (q : ℕ) → q < 64 → q ≢ k → stored_at first q ≡ stored_at (in_list old a) q) where
  pub room : a < length old
  room = omega (arith, is_a, long, within_way count Flat k 0 small (some_samples count))

  abbrev with_first : List BlockSamples
  with_first = put count k 0 a first old is_a (some_samples count) some room kept

  first_there : stored_at (in_list with_first (flat_place count k 0)) k ≡ flat.first
  first_there = ap (λ x. stored_at x k) (put_here count k 0 a first old is_a (some_samples count) some room kept) ∙ stored

  same_state : in_list with_first 0 ≡ in_list old 0
  same_state = put_first count k 0 a first old is_a (some_samples count) some room kept

  first_others : KeepsOtherPlaces count k old with_first
  first_others = sample_kept count k 0 a first old is_a (some_samples count) some room kept

  length_first : length with_first ≡ length old
  length_first = length-set old a first

  -- one sample
  module _ (clear : (s : ℕ) → s < count_of count → slice_index flat.masks s ≡ 0) (is_flat : way_of state k ≡ Flat) (others : (m : ℕ) → m < 64 → m ≢ k → way_of state m ≡ way_of (in_list with_first 0) m) where
    abbrev one : List BlockSamples
    one = slice_set with_first 0 state

    some_planes : 0 < length with_first
    some_planes = omega (arith, length_first, long)

    pub one_made : HasFlat count k flat one
    one_made =
        flat_block count k one flat (way_set with_first state k Flat some_planes is_flat)
        (sym (ap (λ x. stored_at x k) (behind_set with_first state (flat_place count k 0) (behind_first count Flat k 0)) ∙ first_there))
        (λ s p h. chosen_none (slice_index flat.masks s) p flat.second flat.first (clear s h))

    pub one_ways : KeepsOtherWays k old one
    one_ways m l apart = way_set with_first state m (way_in_tile old m) some_planes (others m l apart ∙ ap (λ x. way_of x m) same_state)

    pub one_others : KeepsOtherSamples count k old one
    one_others =
        others_kept count k old one one_ways
        (λ way m n p other l h below. state_kept count k state with_first way m n p other l h below ∙ first_others way m n p other l h below)

  -- two of them
  module _ (second marks : BlockSamples) (b c : ℕ) (is_b : b ≡ place_by count FlatPair k (count_of count / 2)) (is_c : c ≡ place_by count Own k (count_of count - 1))
      (stored_second : stored_at second k ≡ flat.second) (kept_second : (q : ℕ) → q < 64 → q ≢ k → stored_at second q ≡ stored_at (in_list with_first b) q)
      (has : (s : ℕ) → s < count_of count → mask_of marks s ≡ slice_index flat.masks s) where
    pub room_b : b < length with_first
    room_b = omega (arith, is_b, long, length_first, within_way count FlatPair k (count_of count / 2) small (middle_sample count))

    abbrev with_second : List BlockSamples
    with_second = put count k (count_of count / 2) b second with_first is_b (middle_sample count) some room_b kept_second

    abbrev marked : List BlockSamples
    marked = slice_set with_second c marks

    length_marked : length marked ≡ length old
    length_marked = length-set with_second c marks ∙ length-set with_first b second ∙ length_first

    marked_state : in_list marked 0 ≡ in_list old 0
    marked_state =
        get_or-set_other with_second c 0 marks none (λ e. behind_first count Own k (count_of count - 1) (sym (e ∙ is_c)))
        ∙ put_first count k (count_of count / 2) b second with_first is_b (middle_sample count) some room_b kept_second
        ∙ same_state

    -- the planes with its samples are not that of its masks
    unmarked : (n : ℕ) → n < count_of count → in_list marked (flat_place count k n) ≡ in_list with_second (flat_place count k n)
    unmarked n l = get_or-set_other with_second c (flat_place count k n) marks none (λ e. flat_elsewhere count k n k (count_of count - 1) some l (last_sample count) (λ _ none. omega (arith, some, none)) (e ∙ is_c))

    module _ (is_pair : way_of state k ≡ FlatPair) (others : (m : ℕ) → m < 64 → m ≢ k → way_of state m ≡ way_of (in_list marked 0) m) where
      abbrev two : List BlockSamples
      two = slice_set marked 0 state

      some_of_two : 0 < length marked
      some_of_two = omega (arith, length_marked, long)

      in_two : (n : ℕ) → n < count_of count → in_list two (flat_place count k n) ≡ in_list with_second (flat_place count k n)
      in_two n l = behind_set marked state (flat_place count k n) (behind_first count FlatPair k n) ∙ unmarked n l

      masks_there : in_list two (place_by count Own k (count_of count - 1)) ≡ marks
      masks_there =
          behind_set marked state (place_by count Own k (count_of count - 1)) (behind_first count Own k (count_of count - 1))
          ∙ ap (in_list marked) (sym is_c)
          ∙ get_or-set_same with_second c marks none (omega (arith, is_c, long, length-set with_first b second, length_first, within_way count Own k (count_of count - 1) small (last_sample count)))

      pub two_made : HasFlat count k flat two
      two_made =
          pair_block count k two flat (way_set marked state k FlatPair some_of_two is_pair)
          (sym (ap (λ x. stored_at x k) (in_two 0 (some_samples count))
          ∙ ap (λ x. stored_at x k) (elsewhere count k (count_of count / 2) b second with_first is_b (middle_sample count) some room_b kept_second (flat_place count k 0) (two_apart count k some))
          ∙ first_there))
          (sym (ap (λ x. stored_at x k) (in_two (count_of count / 2) (middle_sample count))
          ∙ ap (λ x. stored_at x k) (put_here count k (count_of count / 2) b second with_first is_b (middle_sample count) some room_b kept_second)
          ∙ stored_second))
          (λ s h. sym (ap (λ x. mask_of x s) masks_there ∙ has s h))

      pub two_ways : KeepsOtherWays k old two
      two_ways m l apart = way_set marked state m (way_in_tile old m) some_of_two (others m l apart ∙ ap (λ x. way_of x m) marked_state)

      pub two_others : KeepsOtherSamples count k old two
      two_others =
          others_kept count k old two two_ways
          (λ way m n p other l h below.
          state_kept count k state marked way m n p other l h below
          ∙ masks_kept count k (count_of count - 1) c marks with_second is_c (last_sample count) way m n p other l h below
          ∙ sample_kept count k (count_of count / 2) b second with_first is_b (middle_sample count) some room_b kept_second way m n p other l h below
          ∙ first_others way m n p other l h below)

-- ---- samples that are replaced
module _ (count : SampleCount) (old : FlatBlock) (masks : List ℕ) (first second : CanvasSample) (new : FlatBlock) where
  abbrev made : ℕ → ℕ → CanvasSample
  made s p = chosen (slice_index old.masks s) p second first

  -- all of them
  pub all_replaced : ((s p : ℕ) → s < count_of count → p < 64 → bit_at (slice_index masks s) p ≡ 1) → ((s p : ℕ) → s < count_of count → p < 64 → flat_sample new s p ≡ made s p) → IsFlatReplaced count old masks first second new
  all_replaced full is s p h l = is s p h l ∙ sym (chosen_set (slice_index masks s) p (made s p) (flat_sample old s p) (full s p h l))

  -- where the masks have a bit by one sample, and elsewhere as before
  pub some_replaced : second ≡ first → ((s p : ℕ) → s < count_of count → p < 64 → bit_at (slice_index masks s) p ≡ 1 → flat_sample new s p ≡ first)
      → ((s p : ℕ) → s < count_of count → p < 64 → bit_at (slice_index masks s) p ≢ 1 → flat_sample new s p ≡ flat_sample old s p) → IsFlatReplaced count old masks first second new
  some_replaced same inside outside s p h l =
      elim (cases_eq (bit_at (slice_index masks s) p) 1) [
        | inl set ↦ inside s p h l set ∙ sym (chosen_same (slice_index old.masks s) p first second same) ∙ sym (chosen_set (slice_index masks s) p (made s p) (flat_sample old s p) set)
        | inr clear ↦ outside s p h l clear ∙ sym (chosen_clear (slice_index masks s) p (made s p) (flat_sample old s p) clear)
      ]
