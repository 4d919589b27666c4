use Rattle.std.proofs.Common.{◌≡◌, inl, inr, ap, ◌∙◌, arith, ℕ, ◌+◌, ◌-◌, ◌*◌, ◌/◌, ◌%◌, ◌^◌, ◌<◌, ◌≤◌, true, false, ltb, w64, bit_or, List, slice_index}
use Rattle.std.proofs.lemmas.Bool.{cases_lt, lt-ltb, le-ltb}
use Rattle.std.proofs.lemmas.Nat.{shr-shr}
use Rattle.std.proofs.lemmas.Nat.Bits.{bit_at-zero, bit_at_or, bit_at_above}
use Rattle.std.specs.Int.{bit_at, trailing_zeros}
use Rattle.polygons.specs.declared.marks.Marks.{Marks}
use Rattle.polygons.specs.Summing.{run, number_in, HasFirstMarked}
use Rattle.polygons.proofs.Parity.{bit_of_shifted}
use Rattle.polygons.proofs.SetBits.{next_bit, no_bits}
use Rattle.polygons.proofs.Changes.{AreChanged, columns, no_number, none_changed, skipped, one_changed}
use Rattle.polygons.proofs.sum.changes.Goals as goal

-- ---- a word with one flag more
flag_here : (bits b n : ℕ) → b < 2 → n < 64 → bit_at bits n ≡ 0 → bit_at (bit_or bits (b * 2 ^ n % 2 ^ 64)) n ≡ b
flag_here bits b n small h none =
    let o = bit_at_or bits (b * 2 ^ n % 2 ^ 64) n in
    let c : ltb n n ≡ false = le-ltb n n (omega arith) in
    let s = bit_of_shifted b n n h in
    let d : n - n ≡ 0 = omega arith in
    let v : bit_at (b * 2 ^ n % 2 ^ 64) n ≡ bit_at b 0 = (rw c at s) ∙ ap (bit_at b) d in
    omega arith

flag_apart : (bits b n i : ℕ) → b < 2 → i < 64 → (i ≡ n → ⊥) → bit_at (bit_or bits (b * 2 ^ n % 2 ^ 64)) i ≡ bit_at bits i
flag_apart bits b n i small h apart =
    let o = bit_at_or bits (b * 2 ^ n % 2 ^ 64) i in
    let v : bit_at (b * 2 ^ n % 2 ^ 64) i ≡ 0 = none in
    omega arith
  where
    none : bit_at (b * 2 ^ n % 2 ^ 64) i ≡ 0
    none = elim (cases_lt i n) [
      | inl l ↦ let c : ltb i n ≡ true = lt-ltb i n l in let s = bit_of_shifted b n i h in rw c at s
      | inr l ↦
          let c : ltb i n ≡ false = le-ltb i n l in
          let s = bit_of_shifted b n i h in
          (rw c at s) ∙ bit_at_above b 1 (i - n) small (beyond l)
    ]
      where
        beyond : n ≤ i → 1 ≤ i - n
        beyond l = elim (cases_lt n i) [ inl m ↦ omega arith | inr m ↦ absurd (apart (omega arith)) ]

marks_fit : (marks result : ℕ) → result ≡ marks → result < 2 ^ 64 → marks < 2 ^ 64
marks_fit marks result e h = omega arith

pub add_number-requires-clause-bit : goal.add_number-requires-clause-bit
add_number-requires-clause-bit c = (next_bit _ c.loop-left.left c.loop-left.done c.loop-left.invariant.left (marks_fit _ _ c.firsts-left.ensures c.firsts-left.type_inv) c.loop-left.auto.left-fits.fits c.loop-left-test.true).inside

pub overflow_shl-changes : goal.overflow_shl-changes
overflow_shl-changes c = (next_bit _ c.loop-left.left c.loop-left.done c.loop-left.invariant.left (marks_fit _ _ c.firsts-left.ensures c.firsts-left.type_inv) c.loop-left.auto.left-fits.fits c.loop-left-test.true).inside

pub loop-left-init : goal.loop-left-init
loop-left-init c = record {
  left = omega arith;
  changed = none_changed _ c.args.word c.args.sums.now 0 bit_at-zero;
}

pub loop-left-preserved : goal.loop-left-preserved
loop-left-preserved c =
    let v = c.loop-left.invariant in
    let marks = bit_or c.args.marks.downs c.args.marks.ups in
    let numbers = number_in c.args.marks c.args.counters.now c.args.word in
    let t = trailing_zeros w64 c.loop-left.left in
    let n = c.loop-left.done + t in
    let f = next_bit marks c.loop-left.left c.loop-left.done v.left (marks_fit _ _ c.firsts-left.ensures c.firsts-left.type_inv) c.loop-left.auto.left-fits.fits c.loop-left-test.true in
    let a = c.add_number.ensures in
    let bit : c.add_number.result < 2 = let e = a.change in omega arith in
    let at = skipped numbers c.args.word c.args.sums.now c.fits-sums c.loop-left.done n c.loop-left.changes c.loop-left.sums (omega arith) (let i = f.inside in omega arith)
    (λ i h l. no_number c.args.marks c.args.counters.now c.args.word i c.requires.marked (let m = f.inside in omega arith) (f.none i h l)) v.changed in
    record {
      left = ap (λ x. x / 2 ^ t / 2) v.left ∙ ap (λ x. x / 2) (shr-shr marks c.loop-left.done t) ∙ shr-shr marks n 1;
      changed = one_changed numbers c.args.word c.args.sums.now c.fits-sums n c.loop-left.changes _ c.loop-left.sums _ f.inside
          (flag_here c.loop-left.changes c.add_number.result n bit f.inside (at.bits_rest n (omega arith) f.inside) ∙ a.change)
          (λ i h e. flag_apart c.loop-left.changes c.add_number.result n i bit h e) a.sum a.other_sums at;
    }

-- what holds at the end, for all cells
all_of : (marks : Marks) (counters : List ℕ) (word : ℕ) (sums : List ℕ) (left n bits : ℕ) (sums' : List ℕ) → ((q : ℕ) → slice_index sums q < 2 ^ 32) → HasFirstMarked marks
    → left ≡ bit_or marks.downs marks.ups / 2 ^ n → left ≡ 0 → AreChanged (number_in marks counters word) word sums n bits sums' → AreChanged (number_in marks counters word) word sums 64 bits sums'
all_of marks counters word sums left n bits sums' small marked is none v =
    skipped (number_in marks counters word) word sums small n 64 bits sums' v.few (omega arith) (λ i h l. no_number marks counters word i marked l (no_bits (bit_or marks.downs marks.ups) left n is none i h)) v

pub returns-clause-changes : goal.returns-clause-changes
returns-clause-changes c i h =
    (all_of c.args.marks c.args.counters.now c.args.word c.args.sums.now c.loop-left.left c.loop-left.done c.loop-left.changes c.loop-left.sums c.fits-sums c.requires.marked c.loop-left.invariant.left c.loop-left-test.false c.loop-left.invariant.changed).bits_done i h

pub returns-clause-next : goal.returns-clause-next
returns-clause-next c r h =
    let v = all_of c.args.marks c.args.counters.now c.args.word c.args.sums.now c.loop-left.left c.loop-left.done c.loop-left.changes c.loop-left.sums c.fits-sums c.requires.marked c.loop-left.invariant.left c.loop-left-test.false c.loop-left.invariant.changed in
    let all : columns 64 r ≡ 8 = omega arith in
    v.next r h ∙ ap (run (number_in c.args.marks c.args.counters.now c.args.word) (8 * r) (slice_index c.args.sums.now (8 * c.args.word + r))) all

pub returns-clause-other_sums : goal.returns-clause-other_sums
returns-clause-other_sums c q n = c.loop-left.invariant.changed.other_sums q n
