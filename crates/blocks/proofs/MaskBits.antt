-- The bits of masks of 64 pixels.
use Rattle.std.proofs.Common.{replicate, ◌↔◌, ◌≡◌, ◌≢◌, ◌∙◌, inl, inr, sym, ap, subst, ℕ, ◌+◌, ◌-◌, ◌%◌, ◌<◌, ◌^◌, min, max, List, length, slice_index, slice_set, bit_and, bit_or, w64, arith, ◌≤◌}
use Rattle.std.specs.Int.{bit_at}
use Rattle.std.proofs.lemmas.Bool.{cases_lt, cases_eq}
use Rattle.std.proofs.lemmas.List.{get_or-set_same, get_or-set_other}
use Rattle.shade.specs.Resolve.{total}
use Rattle.std.specs.Simd.Lanes.{zip2}
use Rattle.blocks.proofs.MaskLanes.{AreLanes, zipped, splat, itself, total_next}
use Rattle.std.proofs.lemmas.Nat.Bits.{bit_at-zero, bit_at-lt, bit_at_and, bit_at_or, bit_at_not, bit_at_ones, bit_at_ones_above, bit_at_above, same_from_bits, same_from_bits_below}

abbrev pub full : ℕ
full = 18446744073709551615

pub bit_of_full : (mask p : ℕ) → mask ≡ full → p < 64 → bit_at mask p ≡ 1
bit_of_full mask p e l = ap (λ m. bit_at m p) e ∙ bit_at_ones 64 p l

-- a mask all of whose bits are set
pub full_of_bits : (mask : ℕ) → mask < 2 ^ 64 → ((p : ℕ) → p < 64 → bit_at mask p ≡ 1) → mask ≡ full
full_of_bits mask fits all = same_from_bits_below 64 mask full fits (omega arith) (λ p l. all p l ∙ sym (bit_at_ones 64 p l))

-- a mask none of whose bits is set
pub none_of_bits : (mask : ℕ) → mask < 2 ^ 64 → ((p : ℕ) → p < 64 → bit_at mask p ≢ 1) → mask ≡ 0
none_of_bits mask fits clear =
    same_from_bits_below 64 mask 0 fits (omega arith) (λ p l. (let low = bit_at-lt mask p in let zero = bit_at-zero p in let unset = clear p l in omega (arith, low, zero, unset)))

pub bit_of_rest : (mask p : ℕ) → mask < 2 ^ 64 → p < 64 → bit_at (full - mask) p ≡ 1 - bit_at mask p
bit_of_rest mask p fits l = bit_at_not w64 mask p fits l

-- all bits of one mask are in another
pub bit_in : (a b p : ℕ) → b < 2 ^ 64 → p < 64 → bit_and a (full - b) ≡ 0 → bit_at a p ≡ 1 → bit_at b p ≡ 1
bit_in a b p fits l none set =
    let both : min (bit_at a p) (bit_at (full - b) p) ≡ 0 = sym (bit_at_and a (full - b) p) ∙ ap (λ m. bit_at m p) none ∙ bit_at-zero p in
    let rest = bit_of_rest b p fits l in
    let low = bit_at-lt b p in
    omega (arith, both, set, rest, low)

pub none_beside : (a b : ℕ) → a < 2 ^ 64 → b < 2 ^ 64 → ((p : ℕ) → p < 64 → bit_at a p ≡ 1 → bit_at b p ≡ 1) → bit_and a (full - b) ≡ 0
none_beside a b small fits all = same_from_bits (bit_and a (full - b)) 0 (λ p. bit_at_and a (full - b) p ∙ none p ∙ sym (bit_at-zero p))
  where
    none : (p : ℕ) → min (bit_at a p) (bit_at (full - b) p) ≡ 0
    none p =
        let low = bit_at-lt a p in
        elim (cases_lt p 64) [
          | inl l ↦
              let rest = bit_of_rest b p fits l in
              elim (cases_eq (bit_at a p) 1) [
                | inl set ↦ omega (arith, all p l set, rest)
                | inr clear ↦ omega (arith, low, clear)
              ]
          | inr above ↦ omega (arith, bit_at_above a 64 p small above)
        ]

-- each bit is in one of two masks
pub bit_of_either : (a b p : ℕ) → p < 64 → bit_or a b ≡ full → bit_at b p ≢ 1 → bit_at a p ≡ 1
bit_of_either a b p l all clear =
    let either : max (bit_at a p) (bit_at b p) ≡ 1 = sym (bit_at_or a b p) ∙ bit_of_full (bit_or a b) p all l in
    let low = bit_at-lt b p in
    omega (arith, either, clear, low)

pub full_of_either : (a b : ℕ) → a < 2 ^ 64 → b < 2 ^ 64 → ((p : ℕ) → p < 64 → bit_at b p ≢ 1 → bit_at a p ≡ 1) → bit_or a b ≡ full
full_of_either a b small fits all = same_from_bits (bit_or a b) full (λ p. bit_at_or a b p ∙ either p)
  where
    either : (p : ℕ) → max (bit_at a p) (bit_at b p) ≡ bit_at full p
    either p =
        let low = bit_at-lt a p in
        let other = bit_at-lt b p in
        elim (cases_lt p 64) [
          | inl l ↦
              let one = bit_at_ones 64 p l in
              elim (cases_eq (bit_at b p) 1) [
                | inl set ↦ omega (arith, set, low, one)
                | inr clear ↦ omega (arith, all p l clear, other, one)
              ]
          | inr above ↦ omega (arith, bit_at_above a 64 p small above, bit_at_above b 64 p fits above, bit_at_ones_above 64 p above)
        ]

-- the bits of one mask that are not in another
pub bit_without_set : (a b p : ℕ) → b < 2 ^ 64 → p < 64 → bit_at b p ≡ 1 → bit_at (bit_and a (full - b)) p ≡ 0
bit_without_set a b p fits l set =
    let both = bit_at_and a (full - b) p in
    let rest = bit_of_rest b p fits l in
    omega (arith, both, rest, set)

pub bit_without_clear : (a b p : ℕ) → b < 2 ^ 64 → p < 64 → bit_at b p ≢ 1 → bit_at (bit_and a (full - b)) p ≡ bit_at a p
bit_without_clear a b p fits l clear =
    let both = bit_at_and a (full - b) p in
    let rest = bit_of_rest b p fits l in
    let low = bit_at-lt b p in
    let one = bit_at-lt a p in
    omega (arith, both, rest, clear, low, one)

-- the bits of both
pub bit_shared : (a b p : ℕ) → (bit_at (bit_and a b) p ≡ 1) ↔ ((bit_at a p ≡ 1) × (bit_at b p ≡ 1))
bit_shared a b p =
    let both = bit_at_and a b p in
    let one = bit_at-lt a p in
    let other = bit_at-lt b p in
    (λ set. (omega (arith, both, set, one, other), omega (arith, both, set, one, other)), λ sets. omega (arith, both, sets.0, sets.1))

-- the bits of either mask
pub bit_united_set : (a b p : ℕ) → bit_at b p ≡ 1 → bit_at (bit_or a b) p ≡ 1
bit_united_set a b p set =
    let either = bit_at_or a b p in
    let low = bit_at-lt a p in
    omega (arith, either, set, low)

pub bit_united_clear : (a b p : ℕ) → bit_at b p ≢ 1 → bit_at (bit_or a b) p ≡ bit_at a p
bit_united_clear a b p clear =
    let either = bit_at_or a b p in
    let low = bit_at-lt b p in
    omega (arith, either, clear, low)

-- ---- what holds of the masks before s and of mask s
pub one_more : (P : ℕ → Type 0) (s : ℕ) → ((t : ℕ) → t < s → P t) → P s → (t : ℕ) → t < s + 1 → P t
one_more P s before here t l =
    elim (cases_lt t s) [
      | inl less ↦ before t less
      | inr more ↦ (let same : s ≡ t = omega (arith, l, more) in subst P same here)
    ]

-- a mask more in a list
pub one_mask_more : (P : ℕ → ℕ → Type 0) (xs : List ℕ) (s mask : ℕ) → s < length xs → ((t : ℕ) → t < s → P t (slice_index xs t)) → P s mask → (t : ℕ) → t < s + 1 → P t (slice_index (slice_set xs s mask) t)
one_mask_more P xs s mask room before here =
    one_more (λ t. P t (slice_index (slice_set xs s mask) t)) s
    (λ t l. subst (P t) (sym (get_or-set_other xs s t mask 0 (λ e. omega (arith, e, l)))) (before t l))
    (subst (P s) (sym (get_or-set_same xs s mask 0 room)) here)

-- ---- sums of the bits of masks
-- each lane is the sum of the bits of n masks
pub record AreBitSums (n : ℕ) (mask : ℕ → ℕ) (sums : List ℕ) : Type 0 where
  pub long : length sums ≡ 64
  pub each : (p : ℕ) → p < 64 → slice_index sums p ≡ total n (λ s. bit_at (mask s) p)
  pub most : (p : ℕ) → p < 64 → slice_index sums p ≤ n

pub no_mask_added : (mask : ℕ → ℕ) → AreBitSums 0 mask (replicate 64 0)
no_mask_added mask = record { long = (splat 0).long; each = (splat 0).each; most = λ p l. omega (arith, (splat 0).each p l) }

pub one_mask_added : (n : ℕ) (mask : ℕ → ℕ) (sums bits : List ℕ) → n < 16 → length bits ≡ 64 → ((p : ℕ) → p < 64 → slice_index bits p ≡ bit_at (mask n) p) → AreBitSums n mask sums
    → AreBitSums (n + 1) mask (zip2 (λ x y. (x + y) % 256) sums bits)
one_mask_added n mask sums bits few long is before =
    let all = zipped (λ x y. (x + y) % 256) sums bits _ _ (itself sums before.long) (itself bits long) in
    let sum : (p : ℕ) → p < 64 → slice_index (zip2 (λ x y. (x + y) % 256) sums bits) p ≡ slice_index sums p + bit_at (mask n) p =
    λ p l. all.each p l ∙ ap (λ b. (slice_index sums p + b) % 256) (is p l) ∙ (let low = bit_at-lt (mask n) p in let small = before.most p l in omega (arith, low, small, few)) in
    record {
      long = all.long;
      each = λ p l. sum p l ∙ ap (λ x. x + bit_at (mask n) p) (before.each p l) ∙ total_next n (λ s. bit_at (mask s) p);
      most = λ p l. (let low = bit_at-lt (mask n) p in let small = before.most p l in omega (arith, sum p l, low, small));
    }

-- of four masks more
pub four_masks_added : (n : ℕ) (mask : ℕ → ℕ) (sums a b d e : List ℕ) → n ≤ 12 → AreLanes a (λ p. bit_at (mask n) p) → AreLanes b (λ p. bit_at (mask (n + 1)) p) → AreLanes d (λ p. bit_at (mask (n + 2)) p)
    → AreLanes e (λ p. bit_at (mask (n + 3)) p) → AreBitSums n mask sums
    → AreBitSums (n + 4) mask (zip2 (λ x y. (x + y) % 256) (zip2 (λ x y. (x + y) % 256) (zip2 (λ x y. (x + y) % 256) (zip2 (λ x y. (x + y) % 256) sums a) b) d) e)
four_masks_added n mask sums a b d e few is_a is_b is_d is_e before =
    let one = one_mask_added n mask sums a (omega (arith, few)) is_a.long is_a.each before in
    let two = one_mask_added (n + 1) mask _ b (omega (arith, few)) is_b.long is_b.each one in
    let second : n + 1 + 1 ≡ n + 2 = omega arith in
    let three = one_mask_added (n + 2) mask _ d (omega (arith, few)) is_d.long is_d.each (subst (λ m. AreBitSums m mask (zip2 (λ x y. (x + y) % 256) (zip2 (λ x y. (x + y) % 256) sums a) b)) second two) in
    let third : n + 2 + 1 ≡ n + 3 = omega arith in
    let four = one_mask_added (n + 3) mask _ e (omega (arith, few)) is_e.long is_e.each
    (subst (λ m. AreBitSums m mask (zip2 (λ x y. (x + y) % 256) (zip2 (λ x y. (x + y) % 256) (zip2 (λ x y. (x + y) % 256) sums a) b) d)) third three) in
    let fourth : n + 3 + 1 ≡ n + 4 = omega arith in
    subst (λ m. AreBitSums m mask (zip2 (λ x y. (x + y) % 256) (zip2 (λ x y. (x + y) % 256) (zip2 (λ x y. (x + y) % 256) (zip2 (λ x y. (x + y) % 256) sums a) b) d) e)) fourth four
