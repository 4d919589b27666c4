-- Parities of flags, and the bits of a word that is shifted.
use Rattle.std.proofs.Common.{◌≡◌, inl, inr, refl, sym, ap, ◌∙◌, arith, ℕ, zero, suc, ◌+◌, ◌-◌, ◌*◌, ◌/◌, ◌%◌, ◌^◌, ◌<◌, true, false, cond, ltb}
use Rattle.std.proofs.lemmas.Bool.{cases_lt, lt-ltb, le-ltb}
use Rattle.std.proofs.lemmas.Nat.{pow_pos}
use Rattle.std.proofs.lemmas.Nat.Bits.{bit_at_cat_low, bit_at_cat_high, bit_at-zero}
use Rattle.std.specs.Int.{bit_at}
use Rattle.polygons.specs.Rows.{parity}

pub parity-lt : (f : ℕ → ℕ) (n : ℕ) → parity f n < 2
parity-lt f zero = omega arith
parity-lt f (suc n) = omega arith

-- the parity of the same flags
pub parity-same : (f g : ℕ → ℕ) (n : ℕ) → ((k : ℕ) → k < n → f k ≡ g k) → parity f n ≡ parity g n
parity-same f g zero h = refl
parity-same f g (suc n) h = let e = parity-same f g n (λ k l. h k (omega arith)) in let d = h n (omega arith) in omega arith

pub parity-none : (f : ℕ → ℕ) (n : ℕ) → ((k : ℕ) → k < n → f k ≡ 0) → parity f n ≡ 0
parity-none f zero h = refl
parity-none f (suc n) h = let e = parity-none f n (λ k l. h k (omega arith)) in let d = h n (omega arith) in omega arith

-- parities add
pub parity-add : (f g h : ℕ → ℕ) (n : ℕ) → ((k : ℕ) → k < n → g k ≡ (f k + h k) % 2) → parity g n ≡ (parity f n + parity h n) % 2
parity-add f g h zero e = refl
parity-add f g h (suc n) e =
    let p = parity-add f g h n (λ k l. e k (omega arith)) in
    let q = e n (omega arith) in
    omega arith

-- ---- flags after others
pub parity-append : (f : ℕ → ℕ) (m n : ℕ) → parity f (m + n) ≡ (parity f m + parity (λ k. f (m + k)) n) % 2
parity-append f m zero = let b = parity-lt f m in let e : m + 0 ≡ m = omega arith in rw e (omega arith)
parity-append f m (suc n) =
    let p = parity-append f m n in
    let e : m + suc n ≡ suc (m + n) = omega arith in
    rw e (omega arith)

-- ---- what `word ^ (word << n)` does
low_bits : (n i : ℕ) → i < 64 → bit_at (n % 2 ^ 64) i ≡ bit_at n i
low_bits n i h =
    let e : (n / 2 ^ 64) * 2 ^ 64 + n % 2 ^ 64 ≡ n = omega arith in
    sym (bit_at_cat_low (n / 2 ^ 64) 64 (n % 2 ^ 64) i h) ∙ ap (λ m. bit_at m i) e

pub bit_of_shifted : (word n i : ℕ) → i < 64 → bit_at (word * 2 ^ n % 2 ^ 64) i ≡ cond (ltb i n) 0 (bit_at word (i - n))
bit_of_shifted word n i h =
    let z : word * 2 ^ n + 0 ≡ word * 2 ^ n = omega arith in
    elim (cases_lt i n) [
      | inl l ↦
          let c : ltb i n ≡ true = lt-ltb i n l in
          rw c (low_bits (word * 2 ^ n) i h ∙ ap (λ m. bit_at m i) (sym z) ∙ bit_at_cat_low word n 0 i l ∙ bit_at-zero i)
      | inr l ↦
          let c : ltb i n ≡ false = le-ltb i n l in
          rw c (low_bits (word * 2 ^ n) i h ∙ ap (λ m. bit_at m i) (sym z) ∙ bit_at_cat_high word n 0 i (pow_pos n) l)
    ]
