use Rattle.std.proofs.Common.{◌≡◌, inl, inr, refl, sym, subst, ap, ◌∙◌, arith, ℕ, ◌+◌, ◌*◌, ◌/◌, ◌%◌, ◌^◌, ◌<◌, ◌≤◌, true, false, ltb, cond, List, length, set, length-set, replicate, slice_index, w64}
use Rattle.std.proofs.lemmas.Bool.{false≢true, cases_lt, cases_eq, lt-ltb, le-ltb}
use Rattle.std.proofs.lemmas.Nat.{shr-shr}
use Rattle.std.proofs.lemmas.Simd.{get_or-replicate}
use Rattle.std.specs.Int.{bit_at, trailing_zeros}
use Rattle.polygons.specs.Cells.{in_use}
use Rattle.polygons.specs.Summing.{AreInBytes}
use Rattle.polygons.proofs.ByteSums.{same_bytes}
use Rattle.polygons.proofs.RunningSums.{set_same, set_apart}
use Rattle.polygons.proofs.SetBits.{next_bit, no_bits}
use Rattle.polygons.proofs.byte_sums.counter_bytes.Goals as goal

-- ---- the numbers of the first n cells, and zeros
abbrev first : (ℕ → ℕ) → ℕ → ℕ → ℕ
first f n i = cond (ltb i n) (f i) 0

first_is : (f : ℕ → ℕ) (n i : ℕ) → i < n → first f n i ≡ f i
first_is f n i h = let c : ltb i n ≡ true = lt-ltb i n h in rw c refl

first_none : (f : ℕ → ℕ) (n i : ℕ) → n ≤ i → first f n i ≡ 0
first_none f n i h = let c : ltb i n ≡ false = le-ltb i n h in rw c refl

no_cells : (f : ℕ → ℕ) → AreInBytes 7 (first f 0) (replicate 64 0)
no_cells f = record {
  whole = refl;
  small = λ i h. (let e = first_none f 0 i (omega arith) in omega arith);
  each = λ i h. get_or-replicate 64 i 0 0 h ∙ (let e = first_none f 0 i (omega arith) in omega arith);
}

-- zeros further on
skipped : (f : ℕ → ℕ) (n m : ℕ) → n ≤ m → ((i : ℕ) → n ≤ i → i < m → f i ≡ 0) → (i : ℕ) → first f n i ≡ first f m i
skipped f n m more none i = elim (cases_lt i n) [
  | inl l ↦ first_is f n i l ∙ sym (first_is f m i (omega arith))
  | inr l ↦ first_none f n i l ∙ elim (cases_lt i m) [
    | inl k ↦ sym (first_is f m i k ∙ none i l k)
    | inr k ↦ sym (first_none f m i k)
  ]
]

-- one cell more
one_more : (f : ℕ → ℕ) (n x : ℕ) (v : List ℕ) → n < 64 → (f n + 7) % 2 ^ 32 ≤ 14 → x ≡ f n % 256 → AreInBytes 7 (first f n) v → AreInBytes 7 (first f (n + 1)) (set v n x)
one_more f n x v h near is b =
    let inside : n < length v = (let w = b.whole in omega arith) in
    record {
      whole = length-set v n x ∙ b.whole;
      small = λ i l. elim (cases_eq i n) [
        | inl e ↦ let o = first_is f (n + 1) n (omega arith) in let d = ap (first f (n + 1)) e in omega arith
        | inr e ↦ let o = same i e in let s = b.small i l in omega arith
      ];
      each = λ i l. elim (cases_eq i n) [
        | inl e ↦ set_same v n x i inside e ∙ is ∙ sym (ap (λ k. first f (n + 1) k % 256) e ∙ ap (λ k. k % 256) (first_is f (n + 1) n (omega arith)))
        | inr e ↦ set_apart v n x i e ∙ b.each i l ∙ ap (λ k. k % 256) (same i e)
      ];
    }
  where
    same : (i : ℕ) → (i ≡ n → ⊥) → first f n i ≡ first f (n + 1) i
    same i e = elim (cases_lt i n) [
      | inl l ↦ first_is f n i l ∙ sym (first_is f (n + 1) i (omega arith))
      | inr l ↦ elim (cases_lt n i) [ inl k ↦ first_none f n i l ∙ sym (first_none f (n + 1) i (omega arith)) | inr k ↦ absurd (e (omega arith)) ]
    ]

-- ---- counters in use
unused : (more i counter : ℕ) → bit_at more i ≡ 0 → in_use (bit_at more i) counter ≡ 0
unused more i counter none = ap (λ b. in_use b counter) none

used : (more i counter : ℕ) → bit_at more i ≡ 1 → in_use (bit_at more i) counter ≡ counter
used more i counter set = ap (λ b. in_use b counter) set

pub loop-left-init : goal.loop-left-init
loop-left-init c = record { few = omega arith; left = omega arith; bytes = no_cells _ }

pub counter_byte-requires-clause-bit : goal.counter_byte-requires-clause-bit
counter_byte-requires-clause-bit c = (next_bit _ c.loop-left.left c.loop-left.done c.loop-left.invariant.left c.ranges.more.fits c.loop-left.auto.left-fits.fits c.loop-left-test.true).inside

pub bounds-bytes-i : goal.bounds-bytes-i
bounds-bytes-i c = (next_bit _ c.loop-left.left c.loop-left.done c.loop-left.invariant.left c.ranges.more.fits c.loop-left.auto.left-fits.fits c.loop-left-test.true).inside

pub loop-left-preserved : goal.loop-left-preserved
loop-left-preserved c =
    let v = c.loop-left.invariant in
    let more = c.args.more in
    let t = trailing_zeros w64 c.loop-left.left in
    let n = c.loop-left.done + t in
    let next = next_bit more c.loop-left.left c.loop-left.done v.left c.ranges.more.fits c.loop-left.auto.left-fits.fits c.loop-left-test.true in
    let counter = λ (i : ℕ). slice_index c.args.counters.now (64 * c.args.word + i) in
    let f = λ (i : ℕ). in_use (bit_at more i) (counter i) in
    let here : f n ≡ counter n = used more n (counter n) next.set in
    let inside = next.inside in
    let byte = c.in_ok-bytes.ensures in
    record {
      few = omega arith;
      left = ap (λ x. x / 2 ^ t / 2) v.left ∙ ap (λ x. x / 2) (shr-shr more c.loop-left.done t) ∙ shr-shr more n 1;
      bytes = one_more f n _ c.loop-left.bytes inside (subst (λ x. (x + 7) % 2 ^ 32 ≤ 14) (sym here) (byte.some.0 refl)) (byte.value ∙ ap (λ x. x % 256) (sym here))
          (same_bytes 7 _ _ c.loop-left.bytes (λ i h. skipped f c.loop-left.done n (omega arith) (λ i l m. unused more i (counter i) (next.none i l m)) i) v.bytes);
    }

-- a counter in use that is not small
pub returns-in_err-bytes-clause-some : goal.returns-in_err-bytes-clause-some
returns-in_err-bytes-clause-some c =
    let more = c.args.more in
    let next = next_bit more c.loop-left.left c.loop-left.done c.loop-left.invariant.left c.ranges.more.fits c.loop-left.auto.left-fits.fits c.loop-left-test.true in
    let n = c.loop-left.done + trailing_zeros w64 c.loop-left.left in (
      λ some. absurd (false≢true (rw c.from_residual.ensures at some)),
      λ all. absurd (false≢true (c.in_err-bytes.ensures.some.1 (subst (λ x. (x + 7) % 2 ^ 32 ≤ 14) (used more n (slice_index c.args.counters.now (64 * c.args.word + n)) next.set) (all n next.inside)))),
    )

-- no counter is left
in_bytes : (c : goal.After-loop-left) → AreInBytes 7 (λ i. in_use (bit_at c.args.more i) (slice_index c.args.counters.now (64 * c.args.word + i))) c.loop-left.bytes
in_bytes c =
    let more = c.args.more in
    let counter = λ (i : ℕ). slice_index c.args.counters.now (64 * c.args.word + i) in
    let f = λ (i : ℕ). in_use (bit_at more i) (counter i) in
    same_bytes 7 _ _ c.loop-left.bytes (λ i h. elim (cases_lt i c.loop-left.done) [
      | inl l ↦ first_is f c.loop-left.done i l
      | inr l ↦ first_none f c.loop-left.done i l ∙ sym (unused more i (counter i) (no_bits more c.loop-left.left c.loop-left.done c.loop-left.invariant.left c.loop-left-test.false i l))
    ]) c.loop-left.invariant.bytes

pub returns-clause-some : goal.returns-clause-some
returns-clause-some c = (λ t. (in_bytes c).small, λ all. refl)

pub returns-clause-value : goal.returns-clause-value
returns-clause-value c = in_bytes c
