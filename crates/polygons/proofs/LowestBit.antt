-- The lowest bit of four.
use Rattle.std.proofs.Common.{◌≡◌, ◌∙◌, refl, ap, arith, ℕ, zero, suc, ◌+◌, ◌-◌, ◌/◌, ◌^◌, ◌<◌, lit<, bit_and, w64}
use Rattle.std.specs.Int.{bit_at, trailing_zeros}
use Rattle.std.proofs.lemmas.Nat.{and_mask}
use Rattle.polygons.proofs.MaskLanes.{bit_of_part}

-- n without its lowest bit, s
pub record IsLowest (n s rest : ℕ) : Type 0 where
  pub few : s < 4
  pub one : bit_at n s ≡ 1
  pub cleared : bit_at rest s ≡ 0
  pub small : rest < 16
  pub others : (j : ℕ) → j < 4 → (j ≡ s → ⊥) → bit_at rest j ≡ bit_at n j

four : (P : ℕ → Type 0) → P 0 → P 1 → P 2 → P 3 → (j : ℕ) → j < 4 → P j
four P p0 p1 p2 p3 zero l = p0
four P p0 p1 p2 p3 (suc zero) l = p1
four P p0 p1 p2 p3 (suc (suc zero)) l = p2
four P p0 p1 p2 p3 (suc (suc (suc zero))) l = p3
four P p0 p1 p2 p3 (suc (suc (suc (suc j)))) l = absurd (omega (arith, l))

pub lowest : (n : ℕ) → (n ≡ 0 → ⊥) → n < 16 → IsLowest n (trailing_zeros w64 n) (bit_and n (n - 1))
unfolding lib.Count.count_trailing_zeros
lowest zero some h = absurd (some refl)
lowest (suc zero) some h = record { few = lit< tt; one = refl; cleared = refl; small = lit< tt; others = four (λ j. (j ≡ 0 → ⊥) → bit_at 0 j ≡ bit_at 1 j) (λ x. absurd (x refl)) (λ _. refl) (λ _. refl) (λ _. refl) }
lowest (suc (suc zero)) some h = record { few = lit< tt; one = refl; cleared = refl; small = lit< tt; others = four (λ j. (j ≡ 1 → ⊥) → bit_at 0 j ≡ bit_at 2 j) (λ _. refl) (λ x. absurd (x refl)) (λ _. refl) (λ _. refl) }
lowest (suc (suc (suc zero))) some h = record { few = lit< tt; one = refl; cleared = refl; small = lit< tt; others = four (λ j. (j ≡ 0 → ⊥) → bit_at 2 j ≡ bit_at 3 j) (λ x. absurd (x refl)) (λ _. refl) (λ _. refl) (λ _. refl) }
lowest (suc (suc (suc (suc zero)))) some h = record { few = lit< tt; one = refl; cleared = refl; small = lit< tt; others = four (λ j. (j ≡ 2 → ⊥) → bit_at 0 j ≡ bit_at 4 j) (λ _. refl) (λ _. refl) (λ x. absurd (x refl)) (λ _. refl) }
lowest (suc (suc (suc (suc (suc zero))))) some h = record { few = lit< tt; one = refl; cleared = refl; small = lit< tt; others = four (λ j. (j ≡ 0 → ⊥) → bit_at 4 j ≡ bit_at 5 j) (λ x. absurd (x refl)) (λ _. refl) (λ _. refl) (λ _. refl) }
lowest (suc (suc (suc (suc (suc (suc zero)))))) some h = record { few = lit< tt; one = refl; cleared = refl; small = lit< tt; others = four (λ j. (j ≡ 1 → ⊥) → bit_at 4 j ≡ bit_at 6 j) (λ _. refl) (λ x. absurd (x refl)) (λ _. refl) (λ _. refl) }
lowest (suc (suc (suc (suc (suc (suc (suc zero))))))) some h = record { few = lit< tt; one = refl; cleared = refl; small = lit< tt; others = four (λ j. (j ≡ 0 → ⊥) → bit_at 6 j ≡ bit_at 7 j) (λ x. absurd (x refl)) (λ _. refl) (λ _. refl) (λ _. refl) }
lowest (suc (suc (suc (suc (suc (suc (suc (suc zero)))))))) some h = record { few = lit< tt; one = refl; cleared = refl; small = lit< tt; others = four (λ j. (j ≡ 3 → ⊥) → bit_at 0 j ≡ bit_at 8 j) (λ _. refl) (λ _. refl) (λ _. refl) (λ x. absurd (x refl)) }
lowest (suc (suc (suc (suc (suc (suc (suc (suc (suc zero))))))))) some h = record { few = lit< tt; one = refl; cleared = refl; small = lit< tt; others = four (λ j. (j ≡ 0 → ⊥) → bit_at 8 j ≡ bit_at 9 j) (λ x. absurd (x refl)) (λ _. refl) (λ _. refl) (λ _. refl) }
lowest (suc (suc (suc (suc (suc (suc (suc (suc (suc (suc zero)))))))))) some h = record { few = lit< tt; one = refl; cleared = refl; small = lit< tt; others = four (λ j. (j ≡ 1 → ⊥) → bit_at 8 j ≡ bit_at 10 j) (λ _. refl) (λ x. absurd (x refl)) (λ _. refl) (λ _. refl) }
lowest (suc (suc (suc (suc (suc (suc (suc (suc (suc (suc (suc zero))))))))))) some h = record { few = lit< tt; one = refl; cleared = refl; small = lit< tt; others = four (λ j. (j ≡ 0 → ⊥) → bit_at 10 j ≡ bit_at 11 j) (λ x. absurd (x refl)) (λ _. refl) (λ _. refl) (λ _. refl) }
lowest (suc (suc (suc (suc (suc (suc (suc (suc (suc (suc (suc (suc zero)))))))))))) some h = record { few = lit< tt; one = refl; cleared = refl; small = lit< tt; others = four (λ j. (j ≡ 2 → ⊥) → bit_at 8 j ≡ bit_at 12 j) (λ _. refl) (λ _. refl) (λ x. absurd (x refl)) (λ _. refl) }
lowest (suc (suc (suc (suc (suc (suc (suc (suc (suc (suc (suc (suc (suc zero))))))))))))) some h = record { few = lit< tt; one = refl; cleared = refl; small = lit< tt; others = four (λ j. (j ≡ 0 → ⊥) → bit_at 12 j ≡ bit_at 13 j) (λ x. absurd (x refl)) (λ _. refl) (λ _. refl) (λ _. refl) }
lowest (suc (suc (suc (suc (suc (suc (suc (suc (suc (suc (suc (suc (suc (suc zero)))))))))))))) some h = record { few = lit< tt; one = refl; cleared = refl; small = lit< tt; others = four (λ j. (j ≡ 1 → ⊥) → bit_at 12 j ≡ bit_at 14 j) (λ _. refl) (λ x. absurd (x refl)) (λ _. refl) (λ _. refl) }
lowest (suc (suc (suc (suc (suc (suc (suc (suc (suc (suc (suc (suc (suc (suc (suc zero))))))))))))))) some h = record { few = lit< tt; one = refl; cleared = refl; small = lit< tt; others = four (λ j. (j ≡ 0 → ⊥) → bit_at 14 j ≡ bit_at 15 j) (λ x. absurd (x refl)) (λ _. refl) (λ _. refl) (λ _. refl) }
lowest (suc (suc (suc (suc (suc (suc (suc (suc (suc (suc (suc (suc (suc (suc (suc (suc n)))))))))))))))) some h = absurd (omega (arith, h))

-- four bits of a word
pub bits_of_part : (n j k : ℕ) → k < 4 → bit_at (bit_and (n / 2 ^ j) 15) k ≡ bit_at n (j + k)
bits_of_part n j k l = ap (λ z. bit_at z k) (and_mask (n / 2 ^ j) 4) ∙ bit_of_part n j 4 k l

pub part_few : (n j : ℕ) → bit_and (n / 2 ^ j) 15 < 16
part_few n j = let is = and_mask (n / 2 ^ j) 4 in omega arith
