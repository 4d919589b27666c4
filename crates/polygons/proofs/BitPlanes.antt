-- Bits of planes.
use Rattle.std.proofs.Common.{◌≡◌, ◌≢◌, inl, inr, sym, ap, ◌∙◌, arith, ℕ, zero, suc, ◌+◌, ◌-◌, ◌*◌, ◌/◌, ◌%◌, ◌^◌, ◌<◌, ◌≤◌, min, max, Bool, cond, ltb, bit_and, bit_or}
use Rattle.std.specs.Int.{bit_at}
use Rattle.std.specs.Int.RustNames.{bit_xor}
use Rattle.std.proofs.lemmas.Bool.{cases_eq, ne_eqb}
use Rattle.std.proofs.lemmas.Nat.Bits.{bit_at-lt, bit_at_and, bit_at_or, bit_at_xor}
use Rattle.polygons.specs.Summing.{run, nonzero_bit}
use Rattle.polygons.proofs.MaskLanes.{bit_of_part}
use Rattle.polygons.proofs.Parity.{bit_of_shifted}
use Rattle.polygons.proofs.ByteSums.{IsModulus, run_near}

-- ---- a sum of two bits and a carry
pub sum_of_bits : (x y c i : ℕ) → bit_at (bit_xor (bit_xor x y) c) i + 2 * bit_at (bit_or (bit_and x y) (bit_and (bit_xor x y) c)) i ≡ bit_at x i + bit_at y i + bit_at c i
sum_of_bits x y c i =
    by_values _ _ _ _ _ _ _ _ (bit_at-lt x i) (bit_at-lt y i) (bit_at-lt c i) (bit_at_xor x y i) (bit_at_xor (bit_xor x y) c i) (bit_at_and x y i) (bit_at_and (bit_xor x y) c i)
    (bit_at_or (bit_and x y) (bit_and (bit_xor x y) c) i)
  where
    by_values : (x y c half sum both next carry : ℕ) → x < 2 → y < 2 → c < 2 → half ≡ (x + y) % 2 → sum ≡ (half + c) % 2 → both ≡ min x y → next ≡ min half c → carry ≡ max both next → sum + 2 * carry ≡ x + y + c
    by_values x y c half sum both next carry a b d e f g h i = omega arith

-- the sum of five bits each, with the carries between them
pub sum_of_planes : (x1 x2 x4 x8 x16 y1 y2 y4 y8 y16 s1 s2 s4 s8 s16 c c1 c2 c4 c8 c16 : ℕ) → c ≡ 0 → s1 < 2 → s2 < 2 → s4 < 2 → s8 < 2 → s16 < 2
    → s1 + 2 * c1 ≡ x1 + y1 + c → s2 + 2 * c2 ≡ x2 + y2 + c1 → s4 + 2 * c4 ≡ x4 + y4 + c2 → s8 + 2 * c8 ≡ x8 + y8 + c4 → s16 + 2 * c16 ≡ x16 + y16 + c8
    → s1 + 2 * s2 + 4 * s4 + 8 * s8 + 16 * s16 ≡ (x1 + 2 * x2 + 4 * x4 + 8 * x8 + 16 * x16 + (y1 + 2 * y2 + 4 * y4 + 8 * y8 + 16 * y16)) % 32
sum_of_planes x1 x2 x4 x8 x16 y1 y2 y4 y8 y16 s1 s2 s4 s8 s16 c c1 c2 c4 c8 c16 z a1 a2 a4 a8 a16 e1 e2 e4 e8 e16 = omega arith

-- ---- bits of a byte that is shifted
low : (m j : ℕ) → j < 8 → bit_at (m % 2 ^ 8) j ≡ bit_at (m % 2 ^ 64) j
low m j h =
    let e : m / 2 ^ 0 ≡ m = omega arith in
    sym (ap (λ n. bit_at (n % 2 ^ 8) j) e) ∙ bit_of_part m 0 8 j h ∙ sym (bit_of_part m 0 64 j (omega arith)) ∙ ap (λ n. bit_at (n % 2 ^ 64) j) e

pub bit_in_byte : (byte by j : ℕ) → j < 8 → bit_at (byte * 2 ^ by % 2 ^ 8) j ≡ cond (ltb j by) 0 (bit_at byte (j - by))
bit_in_byte byte by j h = low (byte * 2 ^ by) j h ∙ bit_of_shifted byte by j (omega arith)

-- ---- numbers modulo 32
pub of_planes : IsModulus 32
of_planes = record {
  below = λ a. omega arith;
  kept = λ a s h e. omega arith;
  wraps = λ a b. omega arith;
  joined = λ a b p q s e f. omega arith;
}

-- what a sum is modulo 32, by the numbers modulo 32, of which the first has the sum before
pub run_in_planes : (f g : ℕ → ℕ) (from start n : ℕ) → g 0 ≡ (f (from + 0) + start) % 32 → ((k : ℕ) → 0 < k → k < n + 1 → g k ≡ f (from + k) % 32) → run g 0 0 (n + 1) % 32 ≡ run f from start (n + 1) % 32
run_in_planes f g from start n first others = let e : n + 1 ≡ suc n = omega arith in ap (λ k. run g 0 0 k % 32) e ∙ from_one n (λ k a b. others k a (omega arith)) ∙ sym (ap (λ k. run f from start k % 32) e)
  where
    from_one : (n : ℕ) → ((k : ℕ) → 0 < k → k < suc n → g k ≡ f (from + k) % 32) → run g 0 0 (suc n) % 32 ≡ run f from start (suc n) % 32
    from_one zero h = omega arith
    from_one (suc n) h =
        let i = from_one n (λ k a b. h k a (omega arith)) in
        let e = h (suc n) (omega arith) (omega arith) in
        let p : 0 + suc n ≡ suc n = omega arith in
        let q = ap g p in
        omega arith

-- how far the number of a cell is from 0, and a sum of up to eight of these
pub near_number : (d u : ℕ) → d < 2 → u < 2 → (d + 4294967295 * u + 1) % 2 ^ 32 ≤ 2
near_number d u h l = omega arith

pub near_zero : (f : ℕ → ℕ) (from start n : ℕ) → n ≤ 8 → (start + 8) % 2 ^ 32 < 16 → ((k : ℕ) → k < n → (f (from + k) + 1) % 2 ^ 32 ≤ 2) → (run f from start n + 16) % 2 ^ 32 < 32
near_zero f from start n few small near =
    let i = run_near f from start 1 (λ k. 8 + k) n (λ k. omega arith) small near in
    omega arith

pub nonzero_of : (sum : ℕ) → sum < 2 ^ 32 → (sum + 16) % 2 ^ 32 < 32 → nonzero_bit (sum % 32) ≡ nonzero_bit sum
nonzero_of sum small near = elim (cases_eq sum 0) [
  | inl e ↦ let z : sum % 32 ≡ sum = omega arith in ap nonzero_bit z
  | inr e ↦ let some : sum % 32 ≢ 0 = λ z. e (omega arith) in ap (λ b. cond {A = ℕ} b 0 1) (ne_eqb (sum % 32) 0 some) ∙ sym (ap (λ b. cond {A = ℕ} b 0 1) (ne_eqb sum 0 e))
]

pub end_of_sum : (sum : ℕ) → sum < 2 ^ 32 → (sum + 16) % 2 ^ 32 < 32 → ((sum % 32 + 16) % 32 + 4294967280) % 2 ^ 32 ≡ sum
end_of_sum sum small near = omega arith

-- ---- bits that are joined
pub any_set : (a b c d e : ℕ) → a < 2 → b < 2 → c < 2 → d < 2 → e < 2 → max (max (max (max a b) c) d) e ≡ nonzero_bit (a + 2 * b + 4 * c + 8 * d + 16 * e)
any_set a b c d e ha hb hc hd he = elim (cases_eq (a + 2 * b + 4 * c + 8 * d + 16 * e) 0) [
  | inl z ↦ let none : max (max (max (max a b) c) d) e ≡ 0 = omega arith in none ∙ sym (ap nonzero_bit z)
  | inr s ↦ some (not_zero s) ∙ sym (ap (λ (t : Bool). cond {A = ℕ} t 0 1) (ne_eqb _ 0 s))
]
  where
    not_zero : (a + 2 * b + 4 * c + 8 * d + 16 * e ≡ 0 → ⊥) → 0 < a + 2 * b + 4 * c + 8 * d + 16 * e
    not_zero s = grind arith

    some : 0 < a + 2 * b + 4 * c + 8 * d + 16 * e → max (max (max (max a b) c) d) e ≡ 1
    some l = omega arith
