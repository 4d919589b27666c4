-- Words whose eight rows of eight bits are spread at once.
use Rattle.std.proofs.Common.{◌≡◌, inl, inr, refl, ap, ◌∙◌, arith, ℕ, zero, suc, ◌+◌, ◌-◌, ◌*◌, ◌/◌, ◌%◌, ◌^◌, ◌<◌, Bool, true, false, ◌&&◌, cond, ltb, eqb, bit_and, add-one}
use Rattle.std.proofs.lemmas.Bool.{cases_lt, lt-ltb, le-ltb, eqb-true}
use Rattle.std.proofs.lemmas.Nat.{shr-shr}
use Rattle.std.proofs.lemmas.Nat.Bits.{bit_at-lt, bit_at_and, bit_at_xor}
use Rattle.std.specs.Int.{bit_at}
use Rattle.std.specs.Int.RustNames.{bit_xor}
use Rattle.polygons.specs.Rows.{parity}
use Rattle.polygons.specs.Spreading.{IsCarry}
use Rattle.polygons.proofs.Parity.{parity-lt, parity-add, bit_of_shifted}

-- ---- numbers whose bits are looked at one by one
abbrev all_to : (ℕ → Bool) → ℕ → Bool
all_to f zero = true
all_to f (suc n) = f n && all_to f n

pub both : (a b : Bool) → (a && b) ≡ true → (a ≡ true) × (b ≡ true)
both true true h = (refl, refl)
both true false h = absurd (let e : false ≡ true = h in no e)
  where
    no : false ≡ true → ⊥
    no e = cc
both false b h = absurd (let e : false ≡ true = h in no e)
  where
    no : false ≡ true → ⊥
    no e = cc

all_to_is : (f : ℕ → Bool) (n i : ℕ) → all_to f n ≡ true → i < n → f i ≡ true
all_to_is f zero i h l = absurd (omega arith)
all_to_is f (suc n) i h l =
    let b = both (f n) (all_to f n) h in
    elim (cases_lt i n) [ inl m ↦ all_to_is f n i b.1 m | inr m ↦ let e : i ≡ n = omega arith in ap f e ∙ b.0 ]

-- a number whose rows have their bits from column n on
abbrev pub HasHighColumns : ℕ → ℕ → Type 0
HasHighColumns n mask = (i : ℕ) → i < 64 → bit_at mask i ≡ cond (ltb (i % 8) n) 0 1

pub from_one : HasHighColumns 1 0xfefefefefefefefe
from_one i h = eqb-true _ _ (all_to_is (λ i. eqb (bit_at 0xfefefefefefefefe i) (cond (ltb (i % 8) 1) 0 1)) 64 i refl h)

pub from_two : HasHighColumns 2 0xfcfcfcfcfcfcfcfc
from_two i h = eqb-true _ _ (all_to_is (λ i. eqb (bit_at 0xfcfcfcfcfcfcfcfc i) (cond (ltb (i % 8) 2) 0 1)) 64 i refl h)

pub from_four : HasHighColumns 4 0xf0f0f0f0f0f0f0f0
from_four i h = eqb-true _ _ (all_to_is (λ i. eqb (bit_at 0xf0f0f0f0f0f0f0f0 i) (cond (ltb (i % 8) 4) 0 1)) 64 i refl h)

first_alone : (i : ℕ) → i < 64 → bit_at 0x0101010101010101 i ≡ cond (ltb (i % 8) 1) 1 0
first_alone i h = eqb-true _ _ (all_to_is (λ i. eqb (bit_at 0x0101010101010101 i) (cond (ltb (i % 8) 1) 1 0)) 64 i refl h)

-- ---- one step
place : (r j : ℕ) → j < 8 → (8 * r + j) % 8 ≡ j
place r j h = omega arith

-- each bit of a row added to the bit n columns on
abbrev pub IsRowDoubled : ℕ → ℕ → ℕ → Type 0
IsRowDoubled n word result = (r j : ℕ) → r < 8 → j < 8 → bit_at result (8 * r + j) ≡ (bit_at word (8 * r + j) + cond (ltb j n) 0 (bit_at word ((8 * r + j) - n))) % 2

pub row_doubled : (n word mask : ℕ) → HasHighColumns n mask → IsRowDoubled n word (bit_xor word (bit_and (word * 2 ^ n % 2 ^ 64) mask))
row_doubled n word mask h r j lr lj =
    let i : ℕ = 8 * r + j in
    let small : i < 64 = omega arith in
    let x = bit_at_xor word (bit_and (word * 2 ^ n % 2 ^ 64) mask) i in
    let a = bit_at_and (word * 2 ^ n % 2 ^ 64) mask i in
    let s = bit_of_shifted word n i small in
    let m : bit_at mask i ≡ cond (ltb j n) 0 1 = h i small ∙ ap (λ k. cond (ltb k n) 0 1) (place r j lj) in
    elim (cases_lt j n) [
      | inl l ↦
          let c : ltb j n ≡ true = lt-ltb j n l in
          let z : bit_at mask i ≡ 0 = rw c at m in
          rw c (x ∙ (omega arith))
      | inr l ↦
          let c : ltb j n ≡ false = le-ltb j n l in
          let one : bit_at mask i ≡ 1 = rw c at m in
          let far : ltb i n ≡ false = le-ltb i n (omega arith) in
          let t : bit_at (word * 2 ^ n % 2 ^ 64) i ≡ bit_at word (i - n) = rw far at s in
          let b = bit_at-lt word (i - n) in
          rw c (x ∙ (omega arith))
    ]

-- ---- three steps
-- each bit is the parity of the n flags of its row up to it
abbrev pub IsRowWindow : (ℕ → ℕ → ℕ) → ℕ → ℕ → Type 0
IsRowWindow f n word = (r j : ℕ) → r < 8 → j < 8 → bit_at word (8 * r + j) ≡ (parity (f r) (j + 1) + parity (f r) ((j + 1) - n)) % 2

row_window_one : (word : ℕ) → IsRowWindow (λ r k. bit_at word (8 * r + k)) 1 word
row_window_one word r j lr lj =
    let f = λ (k : ℕ). bit_at word (8 * r + k) in
    let l = bit_at-lt word (8 * r + j) in
    let b = parity-lt f j in
    let s : parity f (j + 1) ≡ (parity f j + bit_at word (8 * r + j)) % 2 = rw add-one refl in
    let t : (j + 1) - 1 ≡ j = omega arith in
    rw t (omega arith)

row_window_doubled : (f : ℕ → ℕ → ℕ) (n m word result : ℕ) → n + n ≡ m → IsRowWindow f n word → IsRowDoubled n word result → IsRowWindow f m result
row_window_doubled f n m word result e w d r j lr lj =
    let x = w r j lr lj in
    let y = d r j lr lj in
    let b = parity-lt (f r) (j + 1) in
    let b' = parity-lt (f r) ((j + 1) - n) in
    let b'' = parity-lt (f r) ((j + 1) - m) in
    elim (cases_lt j n) [
      | inl l ↦
          let c : ltb j n ≡ true = lt-ltb j n l in
          let z : bit_at result (8 * r + j) ≡ (bit_at word (8 * r + j) + 0) % 2 = rw c at y in
          let u : (j + 1) - n ≡ 0 = omega arith in
          let v : (j + 1) - m ≡ 0 = omega arith in
          let x' : bit_at word (8 * r + j) ≡ (parity (f r) (j + 1) + 0) % 2 = rw u at x in
          rw v (omega arith)
      | inr l ↦
          let c : ltb j n ≡ false = le-ltb j n l in
          let z : bit_at result (8 * r + j) ≡ (bit_at word (8 * r + j) + bit_at word ((8 * r + j) - n)) % 2 = rw c at y in
          let o = w r (j - n) lr (omega arith) in
          let p : 8 * r + (j - n) ≡ (8 * r + j) - n = omega arith in
          let u : (j - n) + 1 ≡ (j + 1) - n = omega arith in
          let v : ((j + 1) - n) - n ≡ (j + 1) - m = omega arith in
          let o' = rw (p, u, v) at o in
          omega arith
    ]

pub rows_spread : (word a b c : ℕ) → IsRowDoubled 1 word a → IsRowDoubled 2 a b → IsRowDoubled 4 b c → (r j : ℕ) → r < 8 → j < 8 → bit_at c (8 * r + j) ≡ parity (λ k. bit_at word (8 * r + k)) (j + 1)
rows_spread word a b c ha hb hc r j lr lj =
    let f = λ (r k : ℕ). bit_at word (8 * r + k) in
    let x = row_window_doubled f 4 8 b c refl (row_window_doubled f 2 4 a b refl (row_window_doubled f 1 2 word a refl (row_window_one word) ha) hb) hc r j lr lj in
    let s = parity-lt (f r) (j + 1) in
    let u : (j + 1) - 8 ≡ 0 = omega arith in
    let x' : bit_at c (8 * r + j) ≡ (parity (f r) (j + 1) + 0) % 2 = rw u at x in
    omega arith

-- ---- carries
seven_on : (word i : ℕ) → bit_at (word / 2 ^ 7) i ≡ bit_at word (7 + i)
seven_on word i = ap (λ n. n % 2) (shr-shr word 7 i)

pub last_first : (word r : ℕ) → r < 8 → bit_at (bit_and (word / 2 ^ 7) 0x0101010101010101) (8 * r) ≡ bit_at word (8 * r + 7)
last_first word r h =
    let a = bit_at_and (word / 2 ^ 7) 0x0101010101010101 (8 * r) in
    let z : (8 * r) % 8 ≡ 0 = omega arith in
    let one : bit_at 0x0101010101010101 (8 * r) ≡ 1 = first_alone (8 * r) (omega arith) ∙ ap (λ k. cond (ltb k 1) 1 0) z in
    let s = seven_on word (8 * r) in
    let e : 7 + 8 * r ≡ 8 * r + 7 = omega arith in
    let s' = rw e at s in
    let b = bit_at-lt word (8 * r + 7) in
    a ∙ (omega arith)

pub last_carry : (word : ℕ) → IsCarry (bit_and (word / 2 ^ 7) 0x0101010101010101)
last_carry word r j h lo hi =
    let a = bit_at_and (word / 2 ^ 7) 0x0101010101010101 (8 * r + j) in
    let c : ltb j 1 ≡ false = le-ltb j 1 (omega arith) in
    let zero_bit : bit_at 0x0101010101010101 (8 * r + j) ≡ cond (ltb j 1) 1 0 = first_alone (8 * r + j) (omega arith) ∙ ap (λ k. cond (ltb k 1) 1 0) (place r j hi) in
    let z : bit_at 0x0101010101010101 (8 * r + j) ≡ 0 = rw c at zero_bit in
    a ∙ (omega arith)

-- flags of which only the first can be set
parity-first : (f : ℕ → ℕ) (n : ℕ) → f 0 < 2 → ((k : ℕ) → 0 < k → k < suc n → f k ≡ 0) → parity f (suc n) ≡ f 0
parity-first f zero l h = omega arith
parity-first f (suc n) l h = let i = parity-first f n l (λ k a b. h k a (omega arith)) in let z = h (suc n) (omega arith) (omega arith) in omega arith

pub with_carry : (word carry r j : ℕ) → IsCarry carry → r < 8 → j < 8 → parity (λ k. bit_at (bit_xor word carry) (8 * r + k)) (j + 1) ≡ (bit_at carry (8 * r) + parity (λ k. bit_at word (8 * r + k)) (j + 1)) % 2
with_carry word carry r j h lr lj =
    let f = λ (k : ℕ). bit_at word (8 * r + k) in
    let g = λ (k : ℕ). bit_at carry (8 * r + k) in
    let a = parity-add f (λ k. bit_at (bit_xor word carry) (8 * r + k)) g (j + 1) (λ k l. bit_at_xor word carry (8 * r + k)) in
    let e : j + 1 ≡ suc j = omega arith in
    let z : 8 * r + 0 ≡ 8 * r = omega arith in
    let p : parity g (j + 1) ≡ bit_at carry (8 * r) = ap (parity g) e ∙ parity-first g j (bit_at-lt carry (8 * r + 0)) (λ k lo hi. h r k lr lo (omega arith)) ∙ ap (bit_at carry) z in
    a ∙ (omega arith)
