-- The planes of one tile.
use Rattle.std.proofs.Common.{Bool, true, false, ◌≡◌, ◌≢◌, ◌⊎◌, ◌∙◌, inl, inr, refl, ap, sym, ℕ, ◌+◌, ◌-◌, ◌*◌, ◌<◌, List, length, slice_set, arith, ◌/◌, slice_index}
use Rattle.std.specs.Prelude.{slice_index_or}
use Rattle.std.proofs.lemmas.Bool.{cases_lt, false≢true}
use Rattle.std.proofs.lemmas.List.{get_or-set_same, get_or-set_other}
use Rattle.std.proofs.Math.Nat.{add-mul}
use Rattle.std.proofs.lemmas.Nat.{same_from_place}
use Rattle.grid.specs.Samples.{count_of}
use Rattle.grid.specs.declared.sample_count.SampleCount.{SampleCount}
use Rattle.grid.specs.declared.sample_count.SampleCount.TheVariants.{One, Two, Four, Eight, Sixteen}
use Rattle.shade.proofs.Resolved.{some_samples}
use Rattle.shade.specs.declared.sample.CanvasSample.{CanvasSample}
use Rattle.lanes.specs.declared.block_samples.BlockSamples.{BlockSamples}
use Rattle.lanes.specs.Block.{stored_at}
use Rattle.blocks.specs.declared.way.Way.{Way}
use Rattle.blocks.specs.declared.way.Way.TheVariants.{Cleared, Single, Pair, Own, Flat, FlatPair, FlatFour}
use Rattle.blocks.specs.Layout.{masks_from, further_plane, first_further, if_bit, more_in, planes_of_tile, block_in_tile, pixel_in_block, way_of, place_by, flat_place, slot_by, is_plain, mask_of, own_plane, masks_in, sample_place, in_list, stored_in_tile, way_in_tile, IsSameTile, KeepsOtherWays, AreOwnBy, KeepsOtherPlanes, place_in_tile}
use Rattle.blocks.proofs.Places.{none, four_place, behind_first, within_block, last_sample, further_below, few_further, mask_from}

pub cases_eq : (a b : ℕ) → (a ≡ b) ⊎ (a ≢ b)
cases_eq a b =
    elim (cases_lt a b) [
      | inl less ↦ inr (λ e. omega (arith, e, less))
      | inr from ↦ elim (cases_lt b a) [ inl more ↦ inr (λ e. omega (arith, e, more)) | inr to ↦ inl (omega (arith, from, to)) ]
    ]

-- a block with no plane that is put together of two
pub by_none : (b : Bool) → (b ≡ false → false ≡ true) → b ≡ true
by_none true none = refl
by_none false none = none refl

-- ---- one of its samples, by the way in which its block keeps them
pub by_any_way : (count : SampleCount) (xs : List BlockSamples) (way : Way) (i j s : ℕ) → way_in_tile xs (block_in_tile i j) ≡ way
    → stored_in_tile count xs i j s
    ≡ stored_at (in_list xs (sample_place count way (in_list xs) (block_in_tile i j) (pixel_in_block i j) s)) (slot_by way (block_in_tile i j) (pixel_in_block i j))
by_any_way count xs way i j s e = ap (λ w. stored_at (in_list xs (sample_place count w (in_list xs) (block_in_tile i j) (pixel_in_block i j) s)) (slot_by w (block_in_tile i j) (pixel_in_block i j))) e

-- the own plane of a sample, in a block that is neither a pair nor flat
pub plane_is : (count : SampleCount) (way : Way) (masks more : BlockSamples) (p s : ℕ) → is_plain way ≡ true → own_plane count way masks more p s ≡ s
plane_is count Cleared masks more p s plain = refl
plane_is count Single masks more p s plain = refl
plane_is count Pair masks more p s plain = absurd (false≢true plain)
plane_is count Own masks more p s plain = refl
plane_is count Flat masks more p s plain = absurd (false≢true plain)
plane_is count FlatPair masks more p s plain = absurd (false≢true plain)
plane_is count FlatFour masks more p s plain = absurd (false≢true plain)

-- and its number there
pub slot_is : (way : Way) (k p : ℕ) → is_plain way ≡ true → slot_by way k p ≡ p
slot_is Cleared k p plain = refl
slot_is Single k p plain = refl
slot_is Pair k p plain = absurd (false≢true plain)
slot_is Own k p plain = refl
slot_is Flat k p plain = absurd (false≢true plain)
slot_is FlatPair k p plain = absurd (false≢true plain)
slot_is FlatFour k p plain = absurd (false≢true plain)

pub by_way : (count : SampleCount) (xs : List BlockSamples) (way : Way) (i j s : ℕ) → is_plain way ≡ true → way_in_tile xs (block_in_tile i j) ≡ way
    → stored_in_tile count xs i j s ≡ stored_at (slice_index_or xs (place_by count way (block_in_tile i j) s) none) (pixel_in_block i j)
by_way count xs way i j s plain e =
    by_any_way count xs way i j s e
    ∙ ap (λ n. stored_at (slice_index_or xs (place_by count way (block_in_tile i j) n) none) (slot_by way (block_in_tile i j) (pixel_in_block i j))) (plane_is count way (masks_in count (in_list xs) (block_in_tile i j)) (more_in count (in_list xs) (block_in_tile i j)) (pixel_in_block i j) s plain)
    ∙ ap (λ p. stored_at (slice_index_or xs (place_by count way (block_in_tile i j) s) none) p) (slot_is way (block_in_tile i j) (pixel_in_block i j) plain)

-- the same masks
abbrev SameMasks : Way → ℕ → ℕ → ℕ → ℕ → Type 0
SameMasks way new_masks new_more old_masks old_more = (is_plain way ≡ false → new_masks ≡ old_masks) × (way ≡ FlatFour → new_more ≡ old_more)

pub same_own_plane : (count : SampleCount) (way : Way) (a b c d : BlockSamples) (p s : ℕ) → SameMasks way (mask_of a s) (mask_of c s) (mask_of b s) (mask_of d s) → own_plane count way a c p s ≡ own_plane count way b d p s
same_own_plane count Cleared a b c d p s same = refl
same_own_plane count Single a b c d p s same = refl
same_own_plane count Pair a b c d p s same = ap (λ mask. if_bit mask p (count_of count / 2)) (same.0 refl)
same_own_plane count Own a b c d p s same = refl
same_own_plane count Flat a b c d p s same = refl
same_own_plane count FlatPair a b c d p s same = ap (λ mask. if_bit mask p (count_of count / 2)) (same.0 refl)
same_own_plane count FlatFour a b c d p s same = (λ i. if_bit (same.0 refl i) p (count_of count / 2) + if_bit (same.1 refl i) p (count_of count / 4))

pub same_mask : (a b : BlockSamples) (s : ℕ) → s < 16 → ((k : ℕ) → k < 64 → slice_index a.z k ≡ slice_index b.z k) → mask_of a s ≡ mask_of b s
same_mask a b s l same =
    omega (arith, same (4 * s) (omega (arith, l)), same (4 * s + 1) (omega (arith, l)), same (4 * s + 2) (omega (arith, l)), same (4 * s + 3) (omega (arith, l)))

pub same_further : (count : SampleCount) (a b : BlockSamples) (s : ℕ) → s < count_of count → ((k : ℕ) → k < 64 → slice_index a.z k ≡ slice_index b.z k) → mask_of (masks_from (first_further count) a) s ≡ mask_of (masks_from (first_further count) b) s
same_further count a b s l same =
    mask_from (first_further count) a s ∙ same_mask a b (first_further count + s) (let few = few_further count in omega (arith, few, l)) same ∙ sym (mask_from (first_further count) b s)

-- in a block that is neither a pair nor flat all pixels have their sample of an index in one plane
pub in_block : (count : SampleCount) (xs : List BlockSamples) (a b i j s : ℕ) → block_in_tile i j ≡ block_in_tile a b → is_plain (way_in_tile xs (block_in_tile a b)) ≡ true
    → stored_at (in_list xs (place_in_tile count (in_list xs) a b s)) (pixel_in_block i j) ≡ stored_in_tile count xs i j s
in_block count xs a b i j s same plain =
    let block : ℕ = block_in_tile a b in
    let way = way_in_tile xs block in
    ap (λ n. stored_at (in_list xs (place_by count way block n)) (pixel_in_block i j)) (plane_is count way (masks_in count (in_list xs) block) (more_in count (in_list xs) block) (pixel_in_block a b) s plain)
    ∙ ap (λ m. stored_at (in_list xs (place_by count way m s)) (pixel_in_block i j)) (sym same)
    ∙ sym (by_way count xs way i j s plain (ap (way_in_tile xs) same))

-- the same place, if the masks of a block are the same
abbrev pub HasSameMasks : SampleCount → Way → List BlockSamples → List BlockSamples → ℕ → ℕ → Type 0
HasSameMasks count way old new k s =
    SameMasks way (mask_of (masks_in count (in_list new) k) s) (mask_of (more_in count (in_list new) k) s) (mask_of (masks_in count (in_list old) k) s) (mask_of (more_in count (in_list old) k) s)

pub same_place_by : (count : SampleCount) (way : Way) (old new : List BlockSamples) (k p s : ℕ) → HasSameMasks count way old new k s
    → sample_place count way (in_list new) k p s ≡ sample_place count way (in_list old) k p s
same_place_by count way old new k p s same =
    ap (place_by count way k) (same_own_plane count way (masks_in count (in_list new) k) (masks_in count (in_list old) k) (more_in count (in_list new) k) (more_in count (in_list old) k) p s same)

-- the same way, the same masks and the same samples in its planes: the same sample
pub same_by_way : (count : SampleCount) (old new : List BlockSamples) (i j s : ℕ) → s < count_of count → way_in_tile new (block_in_tile i j) ≡ way_in_tile old (block_in_tile i j)
    → HasSameMasks count (way_in_tile old (block_in_tile i j)) old new (block_in_tile i j) s
    → ((t : ℕ) → t < count_of count
    → stored_at (in_list new (place_by count (way_in_tile old (block_in_tile i j)) (block_in_tile i j) t)) (slot_by (way_in_tile old (block_in_tile i j)) (block_in_tile i j) (pixel_in_block i j))
    ≡ stored_at (in_list old (place_by count (way_in_tile old (block_in_tile i j)) (block_in_tile i j) t)) (slot_by (way_in_tile old (block_in_tile i j)) (block_in_tile i j) (pixel_in_block i j)))
    → stored_in_tile count new i j s ≡ stored_in_tile count old i j s
same_by_way count old new i j s h way masks planes =
    let k : ℕ = block_in_tile i j in
    let p : ℕ = pixel_in_block i j in
    let w = way_in_tile old k in
    by_any_way count new w i j s way
    ∙ ap (λ n. stored_at (in_list new n) (slot_by w k p)) (same_place_by count w old new k p s masks)
    ∙ planes (own_plane count w (masks_in count (in_list old) k) (more_in count (in_list old) k) p s) (within_block count w (masks_in count (in_list old) k) (more_in count (in_list old) k) p s h)

-- ---- the own planes of a block
-- no other block has them
flat_apart : (count : SampleCount) (m k n t : ℕ) → m ≢ k → n < count_of count → t < count_of count → flat_place count m n ≢ 1 + (k + 1) * count_of count + t
flat_apart One m k n t other h l e = other (omega (arith, h, l, e))
flat_apart Two m k n t other h l e = other (omega (arith, h, l, e))
flat_apart Four m k n t other h l e = elim (four_place m n) [ inl last ↦ other (omega (arith, l, e, last.1)) | inr less ↦ omega (arith, h, e, less.0, less.1) ]
flat_apart Eight m k n t other h l e = omega (arith, h, e)
flat_apart Sixteen m k n t other h l e = omega (arith, h, e)

pub own_apart : (count : SampleCount) (way : Way) (m k s t : ℕ) → m ≢ k → s < count_of count → t < count_of count → place_by count way m s ≢ 1 + (k + 1) * count_of count + t
own_apart count Cleared m k s t other h l e = omega (arith, e, add-mul k 1 (count_of count), h)
own_apart count Single m k s t other h l e = other (omega (arith, (same_from_place (m + 1) 0 (k + 1) t (count_of count) (omega (arith, h)) l (omega (arith, e))).0))
own_apart count Pair m k s t other h l e = other (omega (arith, (same_from_place (m + 1) s (k + 1) t (count_of count) h l (omega (arith, e))).0))
own_apart count Own m k s t other h l e = other (omega (arith, (same_from_place (m + 1) s (k + 1) t (count_of count) h l (omega (arith, e))).0))
own_apart count Flat m k s t other h l e = flat_apart count m k 0 t other (some_samples count) l e
own_apart count FlatPair m k s t other h l e = flat_apart count m k s t other h l e
own_apart count FlatFour m k s t other h l e = flat_apart count m k s t other h l e

-- no other block changes where those of a block that is kept in such a way are
abbrev pub has_own : Way → Bool
has_own Cleared = false
has_own Single = true
has_own Pair = true
has_own Own = true
has_own Flat = false
has_own FlatPair = false
has_own FlatFour = false

pub apart : (count : SampleCount) (way way' : Way) (m k s t : ℕ) → m ≢ k → s < count_of count → t < count_of count → has_own way' ≡ true → place_by count way m s ≢ place_by count way' k t
apart count way Cleared m k s t other h l own = absurd (false≢true own)
apart count way Single m k s t other h l own = λ e. own_apart count way m k s 0 other h (some_samples count) (omega (arith, e))
apart count way Pair m k s t other h l own = own_apart count way m k s t other h l
apart count way Own m k s t other h l own = own_apart count way m k s t other h l
apart count way Flat m k s t other h l own = absurd (false≢true own)
apart count way FlatPair m k s t other h l own = absurd (false≢true own)
apart count way FlatFour m k s t other h l own = absurd (false≢true own)

-- the planes behind the first are unchanged but those of block k
abbrev pub KeepsOthers : SampleCount → ℕ → List BlockSamples → List BlockSamples → Type 0
KeepsOthers count k old new = (p : ℕ) → p ≢ 0 → ((t : ℕ) → t < count_of count → p ≢ place_by count Own k t) → slice_index_or new p none ≡ slice_index_or old p none

pub others_same : (count : SampleCount) (k : ℕ) (old new : List BlockSamples) → KeepsOtherWays k old new → KeepsOthers count k old new
    → (i j s : ℕ) → s < count_of count → block_in_tile i j ≢ k → stored_in_tile count new i j s ≡ stored_in_tile count old i j s
others_same count k old new ways planes i j s h other =
    let m : ℕ = block_in_tile i j in
    let way = way_in_tile old m in
    let behind : (w : Way) (n : ℕ) → n < count_of count → in_list new (place_by count w m n) ≡ in_list old (place_by count w m n) =
    λ w n small. planes (place_by count w m n) (behind_first count w m n) (λ t l. own_apart count w m k n t other small l) in
    same_by_way count old new i j s h (ways m (omega arith) other) ((λ _. ap (λ plane. mask_of plane s) (behind Own (count_of count - 1) (last_sample count))), (λ _. ap (λ plane. mask_of (masks_from (first_further count) plane) s) (behind Own (further_plane count) (further_below count))))
    (λ n small. ap (λ plane. stored_at plane (slot_by way m (pixel_in_block i j))) (behind way n small))

-- the first plane, changed
pub way_set : (xs : List BlockSamples) (state : BlockSamples) (m : ℕ) (way : Way) → 0 < length xs → way_of state m ≡ way → way_in_tile (slice_set xs 0 state) m ≡ way
way_set xs state m way some e = ap (λ first. way_of first m) (get_or-set_same xs 0 state none some) ∙ e

pub behind_set : (xs : List BlockSamples) (state : BlockSamples) (p : ℕ) → p ≢ 0 → slice_index_or (slice_set xs 0 state) p none ≡ slice_index_or xs p none
behind_set xs state p behind = get_or-set_other xs 0 p state none behind

-- the first t own planes of block k have the samples that f says, and all planes but its own are unchanged
pub record AreFilled (count : SampleCount) (k t : ℕ) (f : ℕ → ℕ → CanvasSample) (old new : List BlockSamples) : Type 0 where
  pub filled : (s p : ℕ) → s < t → p < 64 → stored_at (in_list new (place_by count Own k s)) p ≡ f s p
  pub kept : KeepsOtherPlanes count k old new

pub none_filled : (count : SampleCount) (k : ℕ) (f : ℕ → ℕ → CanvasSample) (xs : List BlockSamples) → AreFilled count k 0 f xs xs
none_filled count k f xs = record { filled = λ s p l small. absurd (omega (arith, l)); kept = λ n other. refl }

pub one_filled : (count : SampleCount) (k t at : ℕ) (f : ℕ → ℕ → CanvasSample) (plane : BlockSamples) (old xs : List BlockSamples) → at ≡ place_by count Own k t → at < length xs → t < count_of count
    → ((p : ℕ) → p < 64 → stored_at plane p ≡ f t p) → AreFilled count k t f old xs → AreFilled count k (t + 1) f old (slice_set xs at plane)
one_filled count k t at f plane old xs is room h has before = record {
  filled = λ s p l small.
      elim (cases_lt s t) [
        | inl less ↦ ap (λ x. stored_at x p) (get_or-set_other xs at (place_by count Own k s) plane none (λ e. omega (arith, e, is, less))) ∙ before.filled s p less small
        | inr more ↦
            let same : s ≡ t = omega (arith, l, more) in
            let here : place_by count Own k s ≡ at = omega (arith, same, is) in
            ap (λ q. stored_at (slice_index_or (slice_set xs at plane) q none) p) here ∙ ap (λ x. stored_at x p) (get_or-set_same xs at plane none room) ∙ has p small ∙ ap (λ m. f m p) (sym same)
      ];
  kept = λ n other. get_or-set_other xs at n plane none (λ e. other t h (e ∙ is)) ∙ before.kept n other;
}

-- the place in a block that one plane stands for
pub one_place : (count : SampleCount) (way : Way) (k n : ℕ) → is_plain way ≡ true → way ≢ Own → place_by count way k n ≡ place_by count way k 0
one_place count Cleared k n plain own = refl
one_place count Single k n plain own = refl
one_place count Pair k n plain own = absurd (false≢true plain)
one_place count Own k n plain own = absurd (own refl)
one_place count Flat k n plain own = absurd (false≢true plain)
one_place count FlatPair k n plain own = absurd (false≢true plain)
one_place count FlatFour k n plain own = absurd (false≢true plain)

-- the plane that stands for all samples
pub alike_place : (count : SampleCount) (way : Way) (k p s : ℕ) (f : ℕ → BlockSamples) → is_plain way ≡ true → way ≢ Own → sample_place count way f k p s ≡ place_by count way k 0
alike_place count way k p s f plain own = one_place count way k (own_plane count way (masks_in count f k) (more_in count f k) p s) plain own

-- block k has its own planes, and its samples are unchanged
module _ (count : SampleCount) (k : ℕ) (way : Way) (old filled : List BlockSamples) (state : BlockSamples) (some : 0 < length filled) (was : way_in_tile old k ≡ way)
    (own : way_of state k ≡ Own) (others : (m : ℕ) → m < 64 → m ≢ k → way_of state m ≡ way_of (slice_index_or filled 0 none) m)
    (planes : AreOwnBy count way k old filled) (kept : KeepsOtherPlanes count k old filled) where
  abbrev new : List BlockSamples
  new = slice_set filled 0 state

  pub block_own : way_in_tile new k ≡ Own
  block_own = way_set filled state k Own some own

  first_kept : slice_index_or filled 0 none ≡ slice_index_or old 0 none
  first_kept = kept 0 (λ s h e. behind_first count Own k s (sym e))

  pub block_ways : KeepsOtherWays k old new
  block_ways m small apart = way_set filled state m (way_in_tile old m) some (others m small apart ∙ ap (λ first. way_of first m) first_kept)

  others_kept : KeepsOthers count k old new
  others_kept p behind apart = behind_set filled state p behind ∙ kept p apart

  pub block_same : IsSameTile count old new
  block_same i j s h =
      elim (cases_eq (block_in_tile i j) k) [
        | inr apart ↦ others_same count k old new block_ways others_kept i j s h apart
        | inl here ↦
            by_way count new Own i j s refl (ap (way_in_tile new) here ∙ block_own)
            ∙ ap (λ m. stored_at (slice_index_or new (place_by count Own m s) none) (pixel_in_block i j)) here
            ∙ ap (λ plane. stored_at plane (pixel_in_block i j)) (behind_set filled state (place_by count Own k s) (behind_first count Own k s))
            ∙ planes s (pixel_in_block i j) h (omega arith)
            ∙ ap (λ m. stored_at (in_list old (sample_place count way (in_list old) m (pixel_in_block i j) s)) (slot_by way m (pixel_in_block i j))) (sym here)
            ∙ sym (by_any_way count old way i j s (ap (way_in_tile old) here ∙ was))
      ]

-- ---- the own blocks of a tile, behind its first planes
pub own_place : (count : SampleCount) (q s : ℕ) → 1 + count_of count + (q * count_of count + s) ≡ 1 + (q + 1) * count_of count + s
own_place One q s = omega arith
own_place Two q s = omega arith
own_place Four q s = omega arith
own_place Eight q s = omega arith
own_place Sixteen q s = omega arith

pub within_own : (count : SampleCount) (q s n a : ℕ) → q < 64 → s < count_of count → a + n ≡ planes_of_tile count → a ≡ 1 + count_of count → q * count_of count + s < n
within_own One q s n a h k many at = omega (arith, h, k, many, at)
within_own Two q s n a h k many at = omega (arith, h, k, many, at)
within_own Four q s n a h k many at = omega (arith, h, k, many, at)
within_own Eight q s n a h k many at = omega (arith, h, k, many, at)
within_own Sixteen q s n a h k many at = omega (arith, h, k, many, at)
