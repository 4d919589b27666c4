-- Words of bits, of which each says how two bytes compare.
use Rattle.std.proofs.Common.{◌≡◌, sym, ap, ◌∙◌, ℕ, ◌+◌, ◌-◌, ◌/◌, ◌%◌, ◌^◌, ◌<◌, ◌≤◌, List, map, length, get_or, Bool, true, false, cond, w8, w64, IsBitSet, arith}
use Rattle.std.specs.Int.{bit_at, trailing_zeros}
use Rattle.std.specs.Simd.Lanes.{zip2, mask_l}
use Rattle.std.proofs.lemmas.Simd.{tops_compared, mask_l-mod, bit_mask_l, length-zip2, get_or-zip2}
use Rattle.std.proofs.lemmas.Nat.{shr-shr, shr_le}
use Rattle.std.proofs.lemmas.Nat.Bits.{bit_at-zero, bit_at-trailing_zeros}
use lib.Lanes.{top}
use mir.Val.{bits, hbits}
use Rattle.reach.proofs.Bits.{is_one, is_set}

module _ (t : ℕ → ℕ → Bool) (xs ys : List ℕ) (long : length xs ≡ 16) (as_long : length ys ≡ 16) where
  abbrev pub word : ℕ
  word = mask_l (map (top (hbits w8)) (zip2 (λ a b. cond (t a b) (2 ^ bits w8 - 1) 0) xs ys)) % 2 ^ 64

  pub bit_compared : (i : ℕ) → i < 16 → t (get_or xs i 0) (get_or ys i 0) ≡ true → IsBitSet word i
  bit_compared i l holds =
      let compared : word ≡ mask_l (zip2 t xs ys) = ap (λ l. mask_l l % 2 ^ 64) (tops_compared w8 t xs ys) ∙ mask_l-mod (zip2 t xs ys) 64 (omega (arith, length-zip2 t xs ys (long ∙ sym as_long), long)) in
      let lane : get_or (zip2 t xs ys) i false ≡ true = get_or-zip2 t xs ys i 0 0 false (omega (arith, l, long)) (omega (arith, l, as_long)) ∙ holds in
      is_set word i (ap (λ n. bit_at n i) compared ∙ bit_mask_l (zip2 t xs ys) i ∙ ap (λ b. cond b 1 0) lane)

-- ---- the next bit
module _ (word from bit : ℕ) (at_least : from ≤ bit) where
  further : bit_at (word / 2 ^ from) (bit - from) ≡ bit_at word bit
  further =
      let sum : from + (bit - from) ≡ bit = omega (arith, at_least) in
      ap (λ x. x % 2) (shr-shr word from (bit - from)) ∙ ap (bit_at word) sum

  unset : bit_at (word / 2 ^ from) (bit - from) ≡ 0 → ¬ IsBitSet word bit
  unset none set = omega (arith, none, further, is_one word bit set)

  pub none_from : word / 2 ^ from ≡ 0 → ¬ IsBitSet word bit
  none_from none = unset (ap (λ n. bit_at n (bit - from)) none ∙ bit_at-zero (bit - from))

  pub none_before : word < 2 ^ 64 → ¬ (word / 2 ^ from ≡ 0) → bit < from + trailing_zeros w64 (word / 2 ^ from) → ¬ IsBitSet word bit
  none_before small some l =
      let below : word / 2 ^ from < 2 ^ 64 = omega (arith, shr_le word from, small) in
      let positive : 0 < word / 2 ^ from = omega (arith, some) in
      unset ((bit_at-trailing_zeros w64 (word / 2 ^ from) positive below).2 (bit - from) (omega (arith, at_least, l)))
