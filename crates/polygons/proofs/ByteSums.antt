-- Sums of rows in lanes of a byte.
use Rattle.std.proofs.Common.{◌≡◌, inl, inr, refl, sym, subst, ap, ◌∙◌, arith, ℕ, zero, suc, ◌+◌, ◌-◌, ◌*◌, ◌/◌, ◌%◌, ◌^◌, ◌<◌, ◌≤◌, Bool, true, false, not, eqb, cond, ltb, IsTrue, ◌↔◌, List, [], ◌∷◌, ◌++◌, length, slice_index, get_or, take, drop, map, replicate, w8, w32}
use Rattle.std.specs.Int.{bit_at}
use Rattle.std.specs.Simd.Lanes.{Each1, zip2, mask_l, top, number_l, chunk, put_chunk}
use Rattle.std.proofs.lemmas.Simd.{tops_compared, length-zip2, get_or-zip2, mask_l-mod, bit_mask_l, put_chunk_whole, length-chunk, get_or-chunk}
use Rattle.std.proofs.lemmas.List.{get_or_past, get_or_append_left, get_or-append-add, get_or-take, get_or-drop}
use lib.Seq.{length-take-le}
use mir.Val.{bits, hbits}
use borrow.Rule.Slice.PartMut.{mid_of, put_mid}
use Rattle.std.proofs.Math.Nat.{pow-suc}
use Rattle.std.proofs.lemmas.Bool.{cases_lt, lt-ltb, le-ltb, eqb-true, eq-eqb}
use Rattle.std.proofs.lemmas.Nat.{shr-shr, pow-add}
use Rattle.std.proofs.lemmas.Nat.Bits.{bit_at-zero, same_from_bits_below}
use borrow.Rule.Simd.Lanes.{act2}
use borrow.Table.Row.{s_int}
use mir.Syntax.{Width, wrap_add, wrap_sub}
use Rattle.polygons.specs.Summing.{run, AreInBytes}
use Rattle.polygons.proofs.Parity.{bit_of_shifted}
use Rattle.polygons.proofs.MaskLanes.{AreLanes, itself, splat, zipped, bit_of_part}

-- ---- sums lane by lane
abbrev pub sum8 : ℕ → ℕ → ℕ
sum8 = act2 wrap_add (s_int w8) (s_int w8) (s_int w8)

abbrev pub difference8 : ℕ → ℕ → ℕ
difference8 = act2 wrap_sub (s_int w8) (s_int w8) (s_int w8)

pub added : (v w : List ℕ) (f g : ℕ → ℕ) → AreLanes 64 v f → AreLanes 64 w g → AreLanes 64 (zip2 sum8 v w) (λ p. (f p + g p) % 256)
added v w f g a b = zipped 64 sum8 v w f g a b

-- n sums, each with the same number more
abbrev pub sum32 : ℕ → ℕ → ℕ
sum32 = act2 wrap_add (s_int w32) (s_int w32) (s_int w32)

pub raised : (n : ℕ) (v : List ℕ) (more : ℕ) → length v ≡ n → AreLanes n (zip2 sum32 v (replicate n more)) (λ r. (get_or v r 0 + more) % 2 ^ 32)
raised n v more long = zipped n sum32 v (replicate n more) _ _ (itself n v long) (splat n more)

-- the bit of a lane for which a test holds
pub bit_of_test : (w : Width) (t : ℕ → ℕ → Bool) (n : ℕ) (v u : List ℕ) (f g : ℕ → ℕ) → n ≤ 64 → AreLanes n v f → AreLanes n u g → (i : ℕ) → i < n
    → bit_at (mask_l (map (top (hbits w)) (zip2 (λ a b. cond (t a b) (2 ^ bits w - 1) 0) v u)) % 2 ^ 64) i ≡ cond (t (f i) (g i)) 1 0
bit_of_test w t n v u f g few a b i h =
    let p = a.long in
    let q = b.long in
    let long = length-zip2 t v u (p ∙ sym q) ∙ p in
    ap (λ ms. bit_at (mask_l ms % 2 ^ 64) i) (tops_compared w t v u) ∙ ap (λ m. bit_at m i) (mask_l-mod (zip2 t v u) 64 (omega (arith, long, few))) ∙ bit_mask_l (zip2 t v u) i
    ∙ ap (λ m. cond {A = ℕ} m 1 0) (get_or-zip2 t v u i 0 0 false (omega (arith, p, h)) (omega (arith, q, h)) ∙ (λ k. t (a.each i h k) (b.each i h k)))

-- no bit, if the test holds in no lane
pub no_lane : (w : Width) (t : ℕ → ℕ → Bool) (n : ℕ) (v u : List ℕ) (f g : ℕ → ℕ) → n ≤ 64 → AreLanes n v f → AreLanes n u g → ((i : ℕ) → i < n → t (f i) (g i) ≡ false)
    → mask_l (map (top (hbits w)) (zip2 (λ a b. cond (t a b) (2 ^ bits w - 1) 0) v u)) % 2 ^ 64 ≡ 0
no_lane w t n v u f g few a b none =
    let p = a.long in
    let q = b.long in
    let long = length-zip2 t v u (p ∙ sym q) ∙ p in
    same_from_bits_below 64 _ 0 (omega arith) (omega arith) (λ i _. elim (cases_lt i n) [
      | inl l ↦ bit_of_test w t n v u f g few a b i l ∙ ap (λ m. cond {A = ℕ} m 1 0) (none i l) ∙ sym (bit_at-zero i)
      | inr l ↦
          ap (λ ms. bit_at (mask_l ms % 2 ^ 64) i) (tops_compared w t v u) ∙ ap (λ m. bit_at m i) (mask_l-mod (zip2 t v u) 64 (omega (arith, long, few))) ∙ bit_mask_l (zip2 t v u) i
          ∙ ap (λ m. cond {A = ℕ} m 1 0) (get_or_past (zip2 t v u) i false (omega (arith, long, l))) ∙ sym (bit_at-zero i)
    ])

-- no lane differs
pub none_differ : (w : Width) (n : ℕ) (v u : List ℕ) (f g : ℕ → ℕ) → n ≤ 64 → AreLanes n v f → AreLanes n u g
    → (IsTrue (eqb (mask_l (map (top (hbits w)) (zip2 (λ a b. cond (not (eqb a b)) (2 ^ bits w - 1) 0) v u)) % 2 ^ 64) 0) ↔ ((i : ℕ) → i < n → f i ≡ g i))
none_differ w n v u f g few a b = (
  λ t i l. same _ _ (sym (bit_of_test w (λ x y. not (eqb x y)) n v u f g few a b i l) ∙ ap (λ m. bit_at m i) (eqb-true _ 0 t) ∙ bit_at-zero i),
  λ all. eq-eqb _ 0 (no_lane w (λ x y. not (eqb x y)) n v u f g few a b (λ i l. ap not (eq-eqb (f i) (g i) (all i l)))),
)
  where
    by_test : (t : Bool) → cond {A = ℕ} (not t) 1 0 ≡ 0 → t ≡ true
    by_test true h = refl
    by_test false h = absurd (omega (arith, h))

    same : (x y : ℕ) → cond {A = ℕ} (not (eqb x y)) 1 0 ≡ 0 → x ≡ y
    same x y h = eqb-true x y (by_test (eqb x y) h)

-- ---- n numbers of a list
-- those of a part that was set
module _ (a n : ℕ) (xs ys : List ℕ) (inside : a ≤ length xs) (long : length ys ≡ n) where
  before : length (take a xs) ≡ a
  before = length-take-le a xs inside

  abbrev all : List ℕ
  all = put_mid a n xs ys

  pub part_set : (r : ℕ) → r < n → slice_index all (a + r) ≡ slice_index ys r
  part_set r h = sym (ap (λ k. slice_index all (k + r)) before) ∙ get_or-append-add (take a xs) _ r 0 ∙ get_or_append_left ys _ 0 r (omega (arith, long, h))

  pub part_apart : (q : ℕ) → (a ≤ q → q < a + n → ⊥) → slice_index all q ≡ slice_index xs q
  part_apart q apart = elim (cases_lt q a) [
    | inl l ↦ get_or_append_left (take a xs) _ 0 q (omega (arith, before, l)) ∙ get_or-take a xs q 0 l
    | inr l ↦ elim (cases_lt q (a + n)) [
      | inl m ↦ absurd (apart l m)
      | inr m ↦
          let behind = q - (a + n) in
          let place : q ≡ a + (n + behind) = omega (arith, m) in
          ap (slice_index all) place ∙ sym (ap (λ k. slice_index all (k + (n + behind))) before) ∙ get_or-append-add (take a xs) _ (n + behind) 0
          ∙ sym (ap (λ k. slice_index (ys ++ drop n (drop a xs)) (k + behind)) long) ∙ get_or-append-add ys _ behind 0
          ∙ get_or-drop n (drop a xs) behind 0 ∙ get_or-drop a xs (n + behind) 0 ∙ sym (ap (slice_index xs) place)
    ]
  ]

-- a part that is set by a vector
pub put : (a n : ℕ) (xs ys : List ℕ) → a + n ≤ length xs → length ys ≡ n → put_mid a (a + n - a) xs (put_chunk 0 (mid_of a (a + n - a) xs) ys) ≡ put_mid a n xs ys
put a n xs ys inside long =
    let same : a + n - a ≡ n = omega arith in
    ap (λ k. put_mid a k xs (put_chunk 0 (mid_of a k xs) ys)) same ∙ ap (put_mid a n xs) (put_chunk_whole (mid_of a n xs) ys (length-chunk a n xs inside ∙ sym long))

-- a part that is read as a vector
pub part_long : (a n : ℕ) (xs : List ℕ) → a + n ≤ length xs → length (chunk 0 n (take (a + n - a) (drop a xs))) ≡ n
part_long a n xs inside =
    let all : a + n - a ≡ n = omega arith in
    let whole = length-chunk a n xs inside in
    ap (λ k. length (chunk 0 n (take k (drop a xs)))) all ∙ length-chunk 0 n (chunk a n xs) (omega (arith, whole))

pub part_read : (a n : ℕ) (xs : List ℕ) (r : ℕ) → r < n → slice_index (chunk 0 n (take (a + n - a) (drop a xs))) r ≡ slice_index xs (a + r)
part_read a n xs r l =
    let all : a + n - a ≡ n = omega arith in
    let same : 0 + r ≡ r = omega arith in
    ap (λ k. slice_index (chunk 0 n (take k (drop a xs))) r) all ∙ get_or-chunk 0 n (chunk a n xs) r 0 l ∙ ap (slice_index (chunk a n xs)) same ∙ get_or-chunk a n xs r 0 l

-- ---- the bytes of a number
-- byte j of a number that is shifted by b bytes
pub byte_moved : (n b j : ℕ) → j < 8 → n * 2 ^ (8 * b) % 2 ^ 64 / 2 ^ (8 * j) % 2 ^ 8 ≡ cond (ltb j b) 0 (n / 2 ^ (8 * (j - b)) % 2 ^ 8)
byte_moved n b j h = elim (cases_lt j b) [
  | inl l ↦
      let c : ltb j b ≡ true = lt-ltb j b l in
      rw c (same_from_bits_below 8 _ 0 (omega arith) (omega arith) (λ k m.
      let d : ltb (8 * j + k) (8 * b) ≡ true = lt-ltb _ _ (omega arith) in
      let s = bit_of_shifted n (8 * b) (8 * j + k) (omega arith) in
      bit_of_part (n * 2 ^ (8 * b) % 2 ^ 64) (8 * j) 8 k m ∙ (rw d at s) ∙ sym (bit_at-zero k)))
  | inr l ↦
      let c : ltb j b ≡ false = le-ltb j b l in
      rw c (same_from_bits_below 8 _ _ (omega arith) (omega arith) (λ k m.
      let d : ltb (8 * j + k) (8 * b) ≡ false = le-ltb _ _ (omega arith) in
      let s = bit_of_shifted n (8 * b) (8 * j + k) (omega arith) in
      let place : 8 * j + k - 8 * b ≡ 8 * (j - b) + k = omega arith in
      bit_of_part (n * 2 ^ (8 * b) % 2 ^ 64) (8 * j) 8 k m ∙ (rw d at s) ∙ ap (bit_at n) place ∙ sym (bit_of_part n (8 * (j - b)) 8 k m)))
]

-- byte i of the number with these bytes
pub byte_of : (xs : List ℕ) (i : ℕ) → Each1 (λ x. x < 2 ^ 8) xs → number_l (2 ^ 8) xs / 2 ^ (8 * i) % 2 ^ 8 ≡ get_or xs i 0
byte_of [] i h = same_from_bits_below 8 _ 0 (omega arith) (omega arith) (λ k m. bit_of_part 0 (8 * i) 8 k m ∙ bit_at-zero (8 * i + k) ∙ sym (bit_at-zero k))
byte_of (x ∷ xs) zero h = let l = h.0 in omega arith
byte_of (x ∷ xs) (suc i) h =
    let l = h.0 in
    let n = number_l (2 ^ 8) xs in
    let rest : (x + 2 ^ 8 * n) / 2 ^ 8 ≡ n = omega arith in
    let e : 8 * suc i ≡ 8 + 8 * i = omega arith in
    ap (λ k. (x + 2 ^ 8 * n) / 2 ^ k % 2 ^ 8) e ∙ ap (λ m. m % 2 ^ 8) (sym (shr-shr (x + 2 ^ 8 * n) 8 (8 * i))) ∙ ap (λ m. m / 2 ^ (8 * i) % 2 ^ 8) rest ∙ byte_of xs i h.1

pub byte_power : (j : ℕ) → (2 ^ 8) ^ j ≡ 2 ^ (8 * j)
byte_power zero = refl
byte_power (suc j) =
    let e : 8 * suc j ≡ 8 * j + 8 = omega arith in
    pow-suc (2 ^ 8) j ∙ ap (λ n. n * 2 ^ 8) (byte_power j) ∙ sym (pow-add 2 (8 * j) 8) ∙ ap (λ n. 2 ^ n) (sym e)

-- ---- rows of numbers, summed in three steps
-- what is used of a modulus that divides 2 ^ 32
pub record IsModulus (m : ℕ) : Type 0 where
  pub below : (a : ℕ) → a % m < m
  pub kept : (a s : ℕ) → a < m → (a + 0) % m ≡ s % m → a ≡ s % m
  pub wraps : (a b : ℕ) → (a + b) % m ≡ (b + a) % 2 ^ 32 % m
  pub joined : (a b p q s : ℕ) → (a + q) % m ≡ s % m → (b + p) % m ≡ q % m → ((a + b) % m + p) % m ≡ s % m

pub of_bytes : IsModulus 256
of_bytes = record {
  below = λ a. omega arith;
  kept = λ a s h e. omega arith;
  wraps = λ a b. omega arith;
  joined = λ a b p q s e f. omega arith;
}

-- each sum is that of n numbers of a row up to it, modulo m
abbrev pub IsWindow : ℕ → (ℕ → ℕ) → ℕ → ℕ → (ℕ → ℕ) → Type 0
IsWindow m f from n sums = (j : ℕ) → j < 8 → (sums j < m) × ((sums j + run f from 0 (j + 1 - n)) % m ≡ run f from 0 (j + 1) % m)

module _ (m : ℕ) (modulus : IsModulus m) (f : ℕ → ℕ) (from : ℕ) where
  pub window_one : (sums : ℕ → ℕ) → ((j : ℕ) → j < 8 → sums j ≡ f (from + j)) → ((j : ℕ) → j < 8 → sums j < m) → IsWindow m f from 1 sums
  window_one sums same small j h =
      let e : j + 1 ≡ suc j = omega arith in
      let d : j + 1 - 1 ≡ j = omega arith in
      (small j h, (λ i. (same j h i + run f from 0 (d i)) % m) ∙ modulus.wraps (f (from + j)) (run f from 0 j) ∙ ap (λ n. run f from 0 n % m) (sym e))

  pub window_doubled : (n k : ℕ) (sums moved result : ℕ → ℕ) → n + n ≡ k → ((j : ℕ) → j < 8 → moved j ≡ cond (ltb j n) 0 (sums (j - n))) → ((j : ℕ) → j < 8 → result j ≡ (sums j + moved j) % m) → IsWindow m f from n sums → IsWindow m f from k result
  window_doubled n k sums moved result e behind added w j h =
      let total = run f from 0 (j + 1) in
      let here = (w j h).1 in
      elim (cases_lt j n) [
        | inl l ↦
            let c : ltb j n ≡ true = lt-ltb j n l in
            let none : moved j ≡ 0 = behind j h ∙ ap (λ b. cond b 0 (sums (j - n))) c in
            let sum : result j ≡ (sums j + 0) % m = added j h ∙ ap (λ x. (sums j + x) % m) none in
            let u : j + 1 - n ≡ 0 = omega arith in
            let v : j + 1 - k ≡ 0 = omega arith in
            (subst (λ x. x < m) (sym sum) (modulus.below (sums j + 0)), (λ i. (sum i + run f from 0 (v i)) % m) ∙ modulus.joined (sums j) 0 0 0 total (sym (ap (λ x. (sums j + run f from 0 x) % m) u) ∙ here) refl)
        | inr l ↦
            let c : ltb j n ≡ false = le-ltb j n l in
            let some : moved j ≡ sums (j - n) = behind j h ∙ ap (λ b. cond b 0 (sums (j - n))) c in
            let sum : result j ≡ (sums j + sums (j - n)) % m = added j h ∙ ap (λ x. (sums j + x) % m) some in
            let u : j - n + 1 ≡ j + 1 - n = omega arith in
            let v : j - n + 1 - n ≡ j + 1 - k = omega arith in
            let before = sym (ap (λ x. (sums (j - n) + run f from 0 x) % m) v) ∙ (w (j - n) (omega arith)).1 ∙ ap (λ x. run f from 0 x % m) u in
            (subst (λ x. x < m) (sym sum) (modulus.below (sums j + sums (j - n))), ap (λ x. (x + run f from 0 (j + 1 - k)) % m) sum ∙ modulus.joined (sums j) (sums (j - n)) (run f from 0 (j + 1 - k)) (run f from 0 (j + 1 - n)) total here before)
      ]

  pub window_whole : (sums : ℕ → ℕ) → IsWindow m f from 8 sums → (j : ℕ) → j < 8 → sums j ≡ run f from 0 (j + 1) % m
  window_whole sums w j h =
      let u : j + 1 - 8 ≡ 0 = omega arith in
      modulus.kept (sums j) (run f from 0 (j + 1)) (w j h).0 (sym (ap (λ x. (sums j + run f from 0 x) % m) u) ∙ (w j h).1)

-- ---- sums that a byte holds
-- what a sum is modulo 256, by the numbers modulo 256
pub run_in_byte : (f g : ℕ → ℕ) (from start n : ℕ) → ((k : ℕ) → k < n → g (from + k) ≡ f (from + k) % 256) → run f from start n % 256 ≡ (start + run g from 0 n) % 256
run_in_byte f g from start zero h = let e : start + 0 ≡ start = omega arith in ap (λ m. m % 256) (sym e)
run_in_byte f g from start (suc n) h =
    let i = run_in_byte f g from start n (λ k l. h k (omega arith)) in
    let e = h n (omega arith) in
    omega arith

-- how far a sum is from 0 after n numbers
pub run_near : (f : ℕ → ℕ) (from start most : ℕ) (far : ℕ → ℕ) (n : ℕ) → ((k : ℕ) → far (suc k) ≡ far k + most) → (start + far 0) % 2 ^ 32 < 2 * far 0 → ((k : ℕ) → k < n → (f (from + k) + most) % 2 ^ 32 ≤ 2 * most)
    → (run f from start n + far n) % 2 ^ 32 < 2 * far n
run_near f from start most far zero step small h = small
run_near f from start most far (suc n) step small h =
    let i = run_near f from start most far n step small (λ k l. h k (omega arith)) in
    let e = h n (omega arith) in
    let s = step n in
    omega arith

-- the sum of at most eight numbers, 128 more, by what it is modulo 256
pub sum_of_byte : (f g : ℕ → ℕ) (from start n : ℕ) → n ≤ 8 → (start + 64) % 2 ^ 32 < 128 → ((k : ℕ) → k < n → (f (from + k) + 8) % 2 ^ 32 ≤ 16) → ((k : ℕ) → k < n → g (from + k) ≡ f (from + k) % 256)
    → (run g from 0 n % 256 + (start + 128) % 256) % 256 ≡ (run f from start n + 128) % 2 ^ 32
sum_of_byte f g from start n few small near same =
    let i = run_near f from start 8 (λ k. 64 + 8 * k) n (λ k. omega arith) small near in
    let e = run_in_byte f g from start n same in
    omega arith

-- ---- bytes of numbers
pub same_bytes : (most : ℕ) (f g : ℕ → ℕ) (v : List ℕ) → ((i : ℕ) → i < 64 → f i ≡ g i) → AreInBytes most f v → AreInBytes most g v
same_bytes most f g v same b = record {
  whole = b.whole;
  small = λ i h. subst (λ n. (n + most) % 2 ^ 32 ≤ 2 * most) (same i h) (b.small i h);
  each = λ i h. b.each i h ∙ ap (λ n. n % 256) (same i h);
}
