-- Blocks that have up to four samples.
use Rattle.std.proofs.Common.{◌≡◌, ◌≢◌, ◌↔◌, ◌∙◌, inl, inr, refl, ap, sym, ℕ, zero, suc, ◌+◌, ◌-◌, ◌*◌, ◌/◌, ◌%◌, ◌<◌, ◌≤◌, ◌^◌, List, [], ◌∷◌, length, slice_index, slice_set, bit_and, arith}
use Rattle.std.specs.Prelude.{◌==◌, if◌then◌else◌}
use Rattle.std.specs.Int.{bit_at}
use Rattle.std.proofs.lemmas.List.{get_or-set_same, get_or-set_other, length-set}
use Rattle.std.proofs.lemmas.Nat.Bits.{bit_at-lt, bit_at-zero}
use Rattle.grid.specs.Samples.{count_of}
use Rattle.grid.specs.declared.sample_count.SampleCount.{SampleCount}
use Rattle.grid.specs.declared.sample_count.SampleCount.TheVariants.{One, Two, Four, Eight, Sixteen}
use Rattle.shade.specs.declared.sample.CanvasSample.{CanvasSample}
use Rattle.blocks.specs.declared.palette.Palette.{Palette}
use Rattle.lanes.specs.declared.block_samples.BlockSamples.{BlockSamples}
use Rattle.lanes.specs.Block.{stored_at}
use Rattle.blocks.specs.declared.flat_block.FlatBlock.{FlatBlock}
use Rattle.blocks.specs.declared.way.Way.TheVariants.{Own, FlatFour}
use Rattle.blocks.specs.Layout.{masks_from, further_plane, first_further, planes_of_tile, pixel_in_block, way_of, place_by, flat_place, if_bit, own_plane, mask_of, masks_in, more_in, sample_place, in_list, way_in_tile, chosen, KeepsOtherSamples, KeepsOtherWays}
use Rattle.blocks.specs.FlatBlocks.{flat_sample, HasFlat}
use Rattle.blocks.specs.Palettes.{palette_number, sample_numbered, palette_sample, place_of_number, HasPalette, IsGathered, HasNumbers, IsSampleStored, AreSamplesStored, KeepsOtherPlaces}
use Rattle.blocks.proofs.MaskBits.{full, bit_shared, bit_of_rest}
use Rattle.blocks.proofs.Pairs.{chosen_set, chosen_clear, four_by}
use Rattle.blocks.proofs.Places.{none, four_place, behind_first, within_way, last_sample, further_below, further_where, further_not_first}
use Rattle.blocks.proofs.TilePlanes.{cases_eq, by_any_way, way_set, behind_set}
use Rattle.blocks.proofs.FlatBlocks.{elsewhere, sample_kept, put_here, put_first, flat_elsewhere, masks_kept, state_kept, others_kept}

-- ---- numbers of two bits
pub by_two : (f : ℕ → CanvasSample) (a b : ℕ) → a < 2 → b < 2 → (if b == 1 then (if a == 1 then f 3 else f 2) else (if a == 1 then f 1 else f 0)) ≡ f (a + 2 * b)
by_two f zero zero l h = refl
by_two f (suc zero) zero l h = refl
by_two f zero (suc zero) l h = refl
by_two f (suc zero) (suc zero) l h = refl
by_two f (suc (suc a)) b l h = absurd (omega (arith, l))
by_two f zero (suc (suc b)) l h = absurd (omega (arith, h))
by_two f (suc zero) (suc (suc b)) l h = absurd (omega (arith, h))

pub sample_chosen : (low high p : ℕ) (xs : List CanvasSample)
    → chosen high p (chosen low p (sample_numbered xs 3) (sample_numbered xs 2)) (chosen low p (sample_numbered xs 1) (sample_numbered xs 0)) ≡ sample_numbered xs (bit_at low p + 2 * bit_at high p)
sample_chosen low high p xs = by_two (sample_numbered xs) (bit_at low p) (bit_at high p) (bit_at-lt low p) (bit_at-lt high p)

pub below_four : (palette : Palette) (s p : ℕ) → palette_number palette s p < 4
below_four palette s p = (let low = bit_at-lt (slice_index palette.low s) p in let high = bit_at-lt (slice_index palette.high s) p in omega (arith, low, high))

-- the pixels that have a number
pub rest_of : (mask bit p : ℕ) → mask < 2 ^ 64 → p < 64 → bit < 2 → bit ≢ 1 → (bit_at (full - mask) p ≡ 1) ↔ (bit_at mask p ≡ bit)
rest_of mask bit p fits l small other =
    let rest = bit_of_rest mask p fits l in
    let low = bit_at-lt mask p in
    (λ set. omega (arith, rest, set, small, other, low), λ same. omega (arith, rest, same, small, other))

pub have_number : (palette : Palette) (number s p low high : ℕ) → number < 4 → (bit_at low p ≡ 1) ↔ (bit_at (slice_index palette.low s) p ≡ number % 2) → (bit_at high p ≡ 1) ↔ (bit_at (slice_index palette.high s) p ≡ number / 2)
    → HasNumbers palette number s p (bit_and low high)
have_number palette number s p low high few is_low is_high =
    let both = bit_shared low high p in
    let a = bit_at-lt (slice_index palette.low s) p in
    let b = bit_at-lt (slice_index palette.high s) p in
    (λ set. (let parts = both.0 set in omega (arith, is_low.0 parts.0, is_high.0 parts.1)), λ same. both.1 (is_low.1 (omega (arith, same, a, b, few)), is_high.1 (omega (arith, same, a, b, few))))

-- ---- one sample or two
by_one : (f : ℕ → CanvasSample) (a : ℕ) → a < 2 → f a ≡ (if a == 1 then f 1 else f 0)
by_one f zero l = refl
by_one f (suc zero) l = refl
by_one f (suc (suc a)) l = absurd (omega (arith, l))

pub two_samples : (xs : List CanvasSample) (low p high : ℕ) → high ≡ 0 → sample_numbered xs (bit_at low p + 2 * bit_at high p) ≡ chosen low p (sample_numbered xs 1) (sample_numbered xs 0)
two_samples xs low p high none =
    let clear : bit_at high p ≡ 0 = ap (λ m. bit_at m p) none ∙ bit_at-zero p in
    ap (sample_numbered xs) (omega (arith, clear)) ∙ by_one (sample_numbered xs) (bit_at low p) (bit_at-lt low p)

-- ---- samples that are replaced, those of one number after another
module _ (count : SampleCount) where
  -- one is added
  pub record IsAdded (before : Palette) (used : ℕ) (after : Palette) (more : ℕ) (bits : List ℕ) (sample : CanvasSample) : Type 0 where
    pub added : (s p : ℕ) → s < count_of count → p < 64 → bit_at (slice_index bits s) p ≡ 1 → IsGathered after more s p sample
    pub others : (s p : ℕ) → s < count_of count → p < 64 → bit_at (slice_index bits s) p ≢ 1 → palette_number after s p ≡ palette_number before s p
    pub kept : (n : ℕ) → n < used → sample_numbered after.samples n ≡ sample_numbered before.samples n
    pub rising : used ≤ more

  still_gathered : (before after : Palette) (used more : ℕ) (bits : List ℕ) (sample x : CanvasSample) (s p : ℕ) → s < count_of count → p < 64 → IsAdded before used after more bits sample → bit_at (slice_index bits s) p ≢ 1
      → IsGathered before used s p x → IsGathered after more s p x
  still_gathered before after used more bits sample x s p h l is clear old =
      let same = is.others s p h l clear in
      (omega (arith, same, old.0, is.rising), ap (sample_numbered after.samples) same ∙ is.kept (palette_number before s p) old.0 ∙ old.1)

  module _ (old : Palette) (masks : List ℕ) (drawn : List CanvasSample) where
    abbrev replacement : ℕ → ℕ → CanvasSample
    replacement s p = chosen (slice_index masks s) p (sample_numbered drawn (palette_number old s p)) (palette_sample old s p)

    -- those of the numbers below one are there
    pub record AreBelow (number : ℕ) (made : Palette) (used : ℕ) : Type 0 where
      pub done : (s p : ℕ) → s < count_of count → p < 64 → palette_number old s p < number → IsGathered made used s p (replacement s p)
      pub rest : (s p : ℕ) → s < count_of count → p < 64 → number ≤ palette_number old s p → palette_number made s p ≡ 0

    -- those of this number too: the ones that are kept, and the ones that are changed
    module _ (number : ℕ) (pixels kept : List ℕ) (has : (s p : ℕ) → s < count_of count → p < 64 → HasNumbers old number s p (slice_index pixels s))
        (less : (s p : ℕ) → s < count_of count → p < 64 → bit_at (slice_index masks s) p ≡ 1 → bit_at (slice_index kept s) p ≡ 0)
        (beside : (s p : ℕ) → s < count_of count → p < 64 → bit_at (slice_index masks s) p ≢ 1 → bit_at (slice_index kept s) p ≡ bit_at (slice_index pixels s) p) where
      pub is_kept : (s p : ℕ) → s < count_of count → p < 64 → bit_at (slice_index kept s) p ≡ 1 → palette_number old s p ≡ number
      is_kept s p h l set =
          elim (cases_eq (bit_at (slice_index masks s) p) 1) [
            | inl inside ↦ absurd (let none = less s p h l inside in omega (arith, none, set))
            | inr outside ↦ (has s p h l).0 (sym (beside s p h l outside) ∙ set)
          ]

      module _ (made : Palette) (used : ℕ) (before : AreBelow number made used) where
        pub kept_is_new : (s p : ℕ) → s < count_of count → p < 64 → bit_at (slice_index kept s) p ≡ 1 → palette_number made s p ≡ 0
        kept_is_new s p h l set = before.rest s p h l (omega (arith, is_kept s p h l set))

        module _ (changed : List ℕ) (both : (s p : ℕ) → s < count_of count → p < 64 → (bit_at (slice_index changed s) p ≡ 1) ↔ ((bit_at (slice_index pixels s) p ≡ 1) × (bit_at (slice_index masks s) p ≡ 1))) where
          is_changed : (s p : ℕ) → s < count_of count → p < 64 → bit_at (slice_index changed s) p ≡ 1 → palette_number old s p ≡ number
          is_changed s p h l set = (has s p h l).0 ((both s p h l).0 set).0

          module _ (middle : Palette) (now : ℕ) (first : IsAdded made used middle now kept (sample_numbered old.samples number)) where
            pub changed_is_new : (s p : ℕ) → s < count_of count → p < 64 → bit_at (slice_index changed s) p ≡ 1 → palette_number middle s p ≡ 0
            changed_is_new s p h l set =
                let none = less s p h l ((both s p h l).0 set).1 in
                first.others s p h l (λ one. omega (arith, none, one)) ∙ before.rest s p h l (omega (arith, is_changed s p h l set))

            module _ (new : Palette) (later : ℕ) (second : IsAdded middle now new later changed (sample_numbered drawn number)) where
              beside_both : (s p : ℕ) → s < count_of count → p < 64 → palette_number old s p ≢ number → (bit_at (slice_index kept s) p ≢ 1) × (bit_at (slice_index changed s) p ≢ 1)
              beside_both s p h l other = (λ set. other (is_kept s p h l set), λ set. other (is_changed s p h l set))

              here : (s p : ℕ) → s < count_of count → p < 64 → palette_number old s p ≡ number → IsGathered new later s p (replacement s p)
              here s p h l is =
                  let own = sample_numbered drawn (palette_number old s p) in
                  elim (cases_eq (bit_at (slice_index masks s) p) 1) [
                    | inl inside ↦
                        let found = second.added s p h l ((both s p h l).1 ((has s p h l).1 is, inside)) in
                        (found.0, found.1 ∙ ap (sample_numbered drawn) (sym is) ∙ sym (chosen_set (slice_index masks s) p own (palette_sample old s p) inside))
                    | inr outside ↦
                        let found = first.added s p h l (beside s p h l outside ∙ (has s p h l).1 is) in
                        let after = still_gathered middle new now later changed (sample_numbered drawn number) (sample_numbered old.samples number) s p h l second (λ set. outside ((both s p h l).0 set).1) found in
                        (after.0, after.1 ∙ ap (sample_numbered old.samples) (sym is) ∙ sym (chosen_clear (slice_index masks s) p own (palette_sample old s p) outside))
                  ]

              pub next_below : AreBelow (number + 1) new later
              next_below = record {
                done = λ s p h l below.
                    elim (cases_eq (palette_number old s p) number) [
                      | inl is ↦ here s p h l is
                      | inr other ↦
                          let clear = beside_both s p h l other in
                          still_gathered middle new now later changed (sample_numbered drawn number) (replacement s p) s p h l second clear.1
                          (still_gathered made middle used now kept (sample_numbered old.samples number) (replacement s p) s p h l first clear.0 (before.done s p h l (omega (arith, below, other))))
                    ];
                rest = λ s p h l from.
                    let clear = beside_both s p h l (λ is. omega (arith, is, from)) in
                    second.others s p h l clear.1 ∙ first.others s p h l clear.0 ∙ before.rest s p h l (omega (arith, from));
              }

    pub all_below : (made : Palette) (used number : ℕ) → 4 ≤ number → AreBelow number made used → (s p : ℕ) → s < count_of count → p < 64 → palette_sample made s p ≡ replacement s p
    all_below made used number enough is s p h l = (is.done s p h l (omega (arith, below_four old s p, enough))).1

-- ---- a block that is kept in up to four samples
fourth_same : (low high p : ℕ) (a b c d e : CanvasSample) → (bit_at low p ≡ 1 → bit_at high p ≡ 1 → d ≡ e) → chosen high p (chosen low p d c) (chosen low p b a) ≡ chosen high p (chosen low p e c) (chosen low p b a)
fourth_same low high p a b c d e same =
    elim (cases_eq (bit_at high p) 1) [
      | inr clear ↦ chosen_clear high p (chosen low p d c) (chosen low p b a) clear ∙ sym (chosen_clear high p (chosen low p e c) (chosen low p b a) clear)
      | inl set ↦
          elim (cases_eq (bit_at low p) 1) [
            | inl both ↦ ap (λ x. chosen high p (chosen low p x c) (chosen low p b a)) (same both set)
            | inr alone ↦ ap (λ x. chosen high p x (chosen low p b a)) (chosen_clear low p d c alone ∙ sym (chosen_clear low p e c alone))
          ]
    ]

pub stored_palette : (count : SampleCount) (f : ℕ → BlockSamples) (k s p low high : ℕ) (a b c d : CanvasSample) → low ≡ mask_of (masks_in count f k) s → high ≡ mask_of (more_in count f k) s
    → a ≡ stored_at (f (flat_place count k 0)) k → b ≡ stored_at (f (flat_place count k (count_of count / 2))) k → c ≡ stored_at (f (flat_place count k (count_of count / 4))) k
    → (bit_at low p ≡ 1 → bit_at high p ≡ 1 → d ≡ stored_at (f (flat_place count k (count_of count / 2 + count_of count / 4))) k)
    → sample_numbered (a ∷ b ∷ c ∷ d ∷ []) (bit_at low p + 2 * bit_at high p) ≡ stored_at (f (sample_place count FlatFour f k p s)) k
stored_palette count f k s p low high a b c d is_low is_high is_a is_b is_c is_d =
    let last = stored_at (f (flat_place count k (count_of count / 2 + count_of count / 4))) k in
    sym (sample_chosen low high p (a ∷ b ∷ c ∷ d ∷ []))
    ∙ fourth_same low high p a b c d last is_d
    ∙ (λ i. chosen (is_high i) p (chosen (is_low i) p last (is_c i)) (chosen (is_low i) p (is_b i) (is_a i)))
    ∙ four_by count f k p s

-- the samples of a tile
pub has_palette : (count : SampleCount) (k : ℕ) (xs : List BlockSamples) (palette : Palette) → way_in_tile xs k ≡ FlatFour
    → ((s p : ℕ) → s < count_of count → p < 64 → palette_sample palette s p ≡ stored_at (in_list xs (sample_place count FlatFour (in_list xs) k p s)) k) → HasPalette count k palette xs
has_palette count k xs palette was is i j s h here =
    by_any_way count xs FlatFour i j s (ap (way_in_tile xs) here ∙ was)
    ∙ ap (λ m. stored_at (in_list xs (sample_place count FlatFour (in_list xs) m (pixel_in_block i j) s)) m) here
    ∙ sym (is s (pixel_in_block i j) h (omega arith))

-- one sample or two
pub has_flat : (count : SampleCount) (k : ℕ) (xs : List BlockSamples) (palette : Palette) (flat : FlatBlock) → ((s p : ℕ) → s < count_of count → p < 64 → palette_sample palette s p ≡ flat_sample flat s p) → HasFlat count k flat xs → HasPalette count k palette xs
has_flat count k xs palette flat same has i j s h here = has i j s h here ∙ sym (same s (pixel_in_block i j) h (omega arith))

-- ---- a block that is made one of up to four samples
places_apart : (count : SampleCount) (k m n : ℕ) → 4 ≤ count_of count → m < 4 → n < 4 → m ≢ n → flat_place count k (place_of_number count m) ≢ flat_place count k (place_of_number count n)
places_apart One k m n some l h other e = omega (arith, some)
places_apart Two k m n some l h other e = omega (arith, some)
places_apart Four k m n some l h other e =
    let a = four_place k (place_of_number Four m) in
    let b = four_place k (place_of_number Four n) in
    elim a [
      | inl last ↦ elim b [ inl also ↦ other (omega (arith, l, h, last.0, also.0)) | inr before ↦ omega (arith, l, h, e, last.1, before.0, before.1) ]
      | inr first ↦ elim b [ inl last ↦ omega (arith, l, h, e, first.0, first.1, last.1) | inr before ↦ other (omega (arith, l, h, e, first.0, first.1, before.0, before.1)) ]
    ]
places_apart Eight k m n some l h other e = other (omega (arith, l, h, e))
places_apart Sixteen k m n some l h other e = other (omega (arith, l, h, e))

pub place_below : (count : SampleCount) (number : ℕ) → number < 4 → place_of_number count number < count_of count
place_below One number l = omega (arith, l)
place_below Two number l = omega (arith, l)
place_below Four number l = omega (arith, l)
place_below Eight number l = omega (arith, l)
place_below Sixteen number l = omega (arith, l)

pub sample_stored : (count : SampleCount) (k number a : ℕ) (samples : List CanvasSample) (plane : BlockSamples) (old : List BlockSamples) → a ≡ flat_place count k (place_of_number count number) → 4 ≤ count_of count → number < 4 → a < length old
    → stored_at plane k ≡ sample_numbered samples number → ((q : ℕ) → q < 64 → q ≢ k → stored_at plane q ≡ stored_at (in_list old a) q) → IsSampleStored count k samples number old (slice_set old a plane)
sample_stored count k number a samples plane old is_a some small room has kept =
    let n : ℕ = place_of_number count number in
    let own : n < count_of count = place_below count number small in
    record {
      stored = ap (λ x. stored_at x k) (put_here count k n a plane old is_a own some room kept) ∙ has;
      numbers = λ m l other. ap (λ x. stored_at x k) (elsewhere count k n a plane old is_a own some room kept (flat_place count k (place_of_number count m)) (places_apart count k m number some l small other));
      others = sample_kept count k n a plane old is_a own some room kept;
      first = put_first count k n a plane old is_a own some room kept;
    }

-- the samples of the numbers below n are there
pub record AreStoredBelow (count : SampleCount) (k n : ℕ) (samples : List CanvasSample) (old new : List BlockSamples) : Type 0 where
  pub stored : (m : ℕ) → m < n → stored_at (in_list new (flat_place count k (place_of_number count m))) k ≡ sample_numbered samples m
  pub others : KeepsOtherPlaces count k old new
  pub first : in_list new 0 ≡ in_list old 0

pub none_stored : (count : SampleCount) (k : ℕ) (samples : List CanvasSample) (xs : List BlockSamples) → AreStoredBelow count k 0 samples xs xs
none_stored count k samples xs = record { stored = λ m l. absurd (omega (arith, l)); others = λ way m n p other small l below. refl; first = refl }

pub one_stored : (count : SampleCount) (k n : ℕ) (samples : List CanvasSample) (old middle new : List BlockSamples) → n < 4 → AreStoredBelow count k n samples old middle → IsSampleStored count k samples n middle new
    → AreStoredBelow count k (n + 1) samples old new
one_stored count k n samples old middle new small before is = record {
  stored = λ m l.
      elim (cases_eq m n) [
        | inl same ↦ ap (λ q. stored_at (in_list new (flat_place count k (place_of_number count q))) k) same ∙ is.stored ∙ ap (sample_numbered samples) (sym same)
        | inr other ↦ is.numbers m (omega (arith, l, small)) other ∙ before.stored m (omega (arith, l, other))
      ];
  others = λ way m q p other here l below. is.others way m q p other here l below ∙ before.others way m q p other here l below;
  first = is.first ∙ before.first;
}

-- no sample is the fourth
pub no_fourth : (count : SampleCount) (palette : Palette) (both : List ℕ) → ((s p : ℕ) → s < count_of count → p < 64 → (bit_at (slice_index both s) p ≡ 1) ↔ ((bit_at (slice_index palette.low s) p ≡ 1) × (bit_at (slice_index palette.high s) p ≡ 1)))
    → ((s : ℕ) → s < count_of count → slice_index both s ≡ 0) → (s p : ℕ) → s < count_of count → p < 64 → palette_number palette s p < 3
no_fourth count palette both is none s p h l =
    let clear : bit_at (slice_index both s) p ≡ 0 = ap (λ m. bit_at m p) (none s h) ∙ bit_at-zero p in
    let low = bit_at-lt (slice_index palette.low s) p in
    let high = bit_at-lt (slice_index palette.high s) p in
    elim (cases_eq (bit_at (slice_index palette.low s) p) 1) [
      | inr even ↦ omega (arith, low, high, even)
      | inl odd ↦
          elim (cases_eq (bit_at (slice_index palette.high s) p) 1) [
            | inr first ↦ omega (arith, low, high, first)
            | inl second ↦ absurd (let set = (is s p h l).1 (odd, second) in omega (arith, set, clear))
          ]
    ]

by_bits : (a b x y : ℕ) → a < 2 → b < 2 → (if a == 1 then x else 0) + (if b == 1 then y else 0) ≡ (a + 2 * b) % 2 * x + (a + 2 * b) / 2 * y
by_bits zero zero x y l h = omega arith
by_bits (suc zero) zero x y l h = omega arith
by_bits zero (suc zero) x y l h = omega arith
by_bits (suc zero) (suc zero) x y l h = omega arith
by_bits (suc (suc a)) b x y l h = absurd (omega (arith, l))
by_bits zero (suc (suc b)) x y l h = absurd (omega (arith, h))
by_bits (suc zero) (suc (suc b)) x y l h = absurd (omega (arith, h))

module _ (count : SampleCount) (k : ℕ) (palette : Palette) (marks more state : BlockSamples) (old middle : List BlockSamples) (c d : ℕ) (is_c : c ≡ place_by count Own k (count_of count - 1)) (is_d : d ≡ place_by count Own k (further_plane count))
    (some : 4 ≤ count_of count) (small : k < 64) (long : length middle ≡ planes_of_tile count)
    (stored : AreSamplesStored count k palette middle) (kept : KeepsOtherPlaces count k old middle) (same_state : in_list middle 0 ≡ in_list old 0)
    (low : (s : ℕ) → s < count_of count → mask_of marks s ≡ slice_index palette.low s) (high : (s : ℕ) → s < count_of count → mask_of (masks_from (first_further count) more) s ≡ slice_index palette.high s)
    (before : (s : ℕ) → s < first_further count → mask_of more s ≡ mask_of (in_list (slice_set middle c marks) d) s) where
  abbrev marked : List BlockSamples
  marked = slice_set middle c marks

  abbrev twice : List BlockSamples
  twice = slice_set marked d more

  first_marked : in_list twice 0 ≡ in_list old 0
  first_marked =
      get_or-set_other marked d 0 more none (λ e. behind_first count Own k (further_plane count) (sym (e ∙ is_d)))
      ∙ get_or-set_other middle c 0 marks none (λ e. behind_first count Own k (count_of count - 1) (sym (e ∙ is_c)))
      ∙ same_state

  long_twice : length twice ≡ planes_of_tile count
  long_twice = length-set marked d more ∙ length-set middle c marks ∙ long

  module _ (is_four : way_of state k ≡ FlatFour) (ways : (m : ℕ) → m < 64 → m ≢ k → way_of state m ≡ way_of (in_list twice 0) m) where
    abbrev new : List BlockSamples
    new = slice_set twice 0 state

    is_way : way_in_tile new k ≡ FlatFour
    is_way = way_set twice state k FlatFour (omega (arith, long_twice)) is_four

    more_there : in_list new (place_by count Own k (further_plane count)) ≡ more
    more_there =
        behind_set twice state (place_by count Own k (further_plane count)) (behind_first count Own k (further_plane count))
        ∙ ap (in_list twice) (sym is_d)
        ∙ get_or-set_same marked d more none (omega (arith, is_d, long, length-set middle c marks, within_way count Own k (further_plane count) small (further_below count)))

    marks_there : in_list marked c ≡ marks
    marks_there = get_or-set_same middle c marks none (omega (arith, is_c, long, within_way count Own k (count_of count - 1) small (last_sample count)))

    -- the masks are in a plane of their own, or before the further ones
    masks_there : (s : ℕ) → s < count_of count → mask_of (in_list new (place_by count Own k (count_of count - 1))) s ≡ slice_index palette.low s
    masks_there s h = elim (further_where count) [
      | inl same ↦
          let at : place_by count Own k (count_of count - 1) ≡ place_by count Own k (further_plane count) = ap (place_by count Own k) (sym same.0) in
          let first : s < first_further count = omega (arith, h, same.1) in
          ap (λ q. mask_of (in_list new q) s) at ∙ ap (λ plane. mask_of plane s) more_there ∙ before s first
          ∙ ap (λ q. mask_of (in_list marked q) s) (is_d ∙ sym at ∙ sym is_c) ∙ ap (λ plane. mask_of plane s) marks_there ∙ low s h
      | inr apart ↦
          ap (λ plane. mask_of plane s)
          (behind_set twice state (place_by count Own k (count_of count - 1)) (behind_first count Own k (count_of count - 1))
          ∙ get_or-set_other marked d (place_by count Own k (count_of count - 1)) more none (λ e. omega (arith, e, is_d, apart.0))
          ∙ ap (in_list marked) (sym is_c) ∙ marks_there)
          ∙ low s h
    ]

    sample_there : (n : ℕ) → n < count_of count → in_list new (flat_place count k n) ≡ in_list middle (flat_place count k n)
    sample_there n l =
        behind_set twice state (flat_place count k n) (behind_first count FlatFour k n)
        ∙ get_or-set_other marked d (flat_place count k n) more none (λ e. flat_elsewhere count k n k (further_plane count) some l (further_below count) (λ _ zero. further_not_first count some zero) (e ∙ is_d))
        ∙ get_or-set_other middle c (flat_place count k n) marks none (λ e. flat_elsewhere count k n k (count_of count - 1) some l (last_sample count) (λ _ zero. omega (arith, some, zero)) (e ∙ is_c))

    pub four_made : HasPalette count k palette new
    four_made =
        has_palette count k new palette is_way
        (λ s p h l.
        let number : ℕ = palette_number palette s p in
        let place : own_plane count FlatFour (masks_in count (in_list new) k) (more_in count (in_list new) k) p s ≡ place_of_number count number =
        (λ i. if_bit (masks_there s h i) p (count_of count / 2) + if_bit (mask_of (masks_from (first_further count) (more_there i)) s) p (count_of count / 4))
        ∙ (λ i. if_bit (slice_index palette.low s) p (count_of count / 2) + if_bit (high s h i) p (count_of count / 4))
        ∙ by_bits (bit_at (slice_index palette.low s) p) (bit_at (slice_index palette.high s) p) (count_of count / 2) (count_of count / 4) (bit_at-lt (slice_index palette.low s) p) (bit_at-lt (slice_index palette.high s) p) in
        sym (stored s p h l)
        ∙ ap (λ x. stored_at x k) (sym (sample_there (place_of_number count number) (place_below count number (below_four palette s p))))
        ∙ ap (λ n. stored_at (in_list new (flat_place count k n)) k) (sym place))

    pub four_ways : KeepsOtherWays k old new
    four_ways m l apart = way_set twice state m (way_in_tile old m) (omega (arith, long_twice)) (ways m l apart ∙ ap (λ x. way_of x m) first_marked)

    pub four_others : KeepsOtherSamples count k old new
    four_others =
        others_kept count k old new four_ways
        (λ way m n p other l h below.
        state_kept count k state twice way m n p other l h below
        ∙ masks_kept count k (further_plane count) d more marked is_d (further_below count) way m n p other l h below
        ∙ masks_kept count k (count_of count - 1) c marks middle is_c (last_sample count) way m n p other l h below
        ∙ kept way m n p other l h below)
