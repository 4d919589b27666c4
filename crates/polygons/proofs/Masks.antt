-- From the sums of a strip's cells to masks.
use Rattle.std.proofs.Common.{◌≡◌, ◌≢◌, ◌↔◌, inl, inr, sym, subst, ap, ◌∙◌, arith, ℕ, zero, suc, ◌+◌, ◌*◌, ◌/◌, ◌%◌, ◌^◌, ◌<◌, ◌≤◌, List, [], ◌∷◌, length, slice_index, ℤ, pos, ◌+ℤ◌, ◌-ℤ◌, ◌*ℤ◌, ◌<ℤ◌, neg_ℤ}
use Rattle.std.proofs.lemmas.Bool.{cases_eq}
use Rattle.std.proofs.lemmas.Int.{ints}
use Rattle.std.proofs.lemmas.Nat.Bits.{bit_at-zero}
use Rattle.std.specs.Int.{bit_at}
use Rattle.grid.specs.Position.{Position}
use Rattle.grid.specs.Samples.{part_size}
use Rattle.polygons.specs.declared.edge.Edge.{Edge}
use Rattle.polygons.specs.declared.rule.Rule.{Rule}
use Rattle.polygons.specs.declared.rule.Rule.TheVariants.{EvenOdd, NonZero}
use Rattle.polygons.specs.declared.strip.Strip.{Strip}
use Rattle.polygons.specs.Blocks.{in_block, IsBlockMask}
use Rattle.polygons.specs.Crossing.{downs, ups, winding, IsInside}
use Rattle.polygons.specs.Polygon.{polygon_edges, corner_count}
use Rattle.polygons.specs.Rows.{parity, sum_to}
use Rattle.polygons.specs.ManyRows.{row_of}
use Rattle.polygons.specs.Strip.{start_of, strip_sample}
use Rattle.polygons.specs.Cells.{word_of, bit_in_block, flag_of, in_use, cell, columns_in, modulus, running_sum, IsAlike, IsPlotted, AreMarked, AreSumMasks, AreZeros}
use Rattle.polygons.proofs.Counters.{sum-none}
use Rattle.polygons.proofs.Plotted.{same_columns}
use Rattle.polygons.proofs.Counts.{downs-ring, ups-ring, downs-ring-le, ups-ring-le, corners-ring}

-- ---- places
sample_in : (strip : Strip) (s row column r c : ℕ) → in_block (strip_sample strip s (8 * row) (8 * column)) r c ≡ strip_sample strip s (8 * row + r) (8 * column + c)
sample_in strip s row column r c =
    let p = start_of strip s in
    let x : (p.x +ℤ pos 256 *ℤ pos (8 * column)) +ℤ pos 256 *ℤ pos c ≡ p.x +ℤ pos 256 *ℤ pos (8 * column + c) = omega (arith, ints) in
    let y : (p.y +ℤ pos (256 * (8 * row))) +ℤ pos (256 * r) ≡ p.y +ℤ pos (256 * (8 * row + r)) = omega (arith, ints) in
    λ i. record { x = x i; y = y i }

flag_in_block : (flags : List (List ℕ)) (s row column r c : ℕ) → r < 8 → c < 8 → flag_of flags s (8 * row + r) (8 * column + c) ≡ bit_at (slice_index (row_of flags column) (4 * row + s)) (8 * r + c)
flag_in_block flags s row column r c h l =
    let a : (8 * column + c) / 8 ≡ column = omega arith in
    let b : (8 * column + c) % 8 ≡ c = omega arith in
    let d : (8 * row + r) / 8 ≡ row = omega arith in
    let e : (8 * row + r) % 8 ≡ r = omega arith in
    λ i. bit_at (slice_index (row_of flags (a i)) (4 * d i + s)) (8 * e i + b i)

-- if each flag at index s of a part says whether its sample i of the strip is inside, each word is a mask
pub mask_of_flags : (rule : Rule) (edges : List Edge) (strip : Strip) (flags : List (List ℕ)) (s i row column n : ℕ) → row < 8 → column < n
    → ((j k : ℕ) → j < 64 → k < 8 * n → ((flag_of flags s j k ≡ 1) ↔ IsInside rule edges (strip_sample strip i j k)))
    → IsBlockMask rule edges (strip_sample strip i (8 * row) (8 * column)) (slice_index (row_of flags column) (4 * row + s))
mask_of_flags rule edges strip flags s i row column n h l each r c lr lc =
    let e = each (8 * row + r) (8 * column + c) (omega arith) (omega arith) in
    let f = flag_in_block flags s row column r c lr lc in
    let p = sample_in strip i row column r c in
    (λ x. subst (IsInside rule edges) (sym p) (e.0 (f ∙ x)), λ x. sym f ∙ e.1 (subst (IsInside rule edges) p x))

-- ---- the even-odd rule
parity_sum : (f : ℕ → ℕ) (n : ℕ) → IsAlike 2 (pos (parity f n)) (sum_to (λ k. pos (f k)) n)
parity_sum f zero = record { times = pos 0; is = omega (arith, ints) }
parity_sum f (suc n) =
    let i = parity_sum f n in
    let e = i.is in
    record { times = i.times -ℤ pos ((parity f n + f n) / 2); is = omega (arith, ints) }

pub odd_sum : (f : ℕ → ℕ) (n b : ℕ) → b ≡ parity f n → b < 2 → (b ≡ 1) ↔ (IsAlike 2 (sum_to (λ k. pos (f k)) n) (pos 0) → ⊥)
odd_sum f n b is small =
    let s = parity_sum f n in
    by_sum (sum_to (λ k. pos (f k)) n) s.times (ap pos is ∙ s.is)
  where
    by_sum : (x t : ℤ) → pos b ≡ x +ℤ pos 2 *ℤ t → (b ≡ 1) ↔ (IsAlike 2 x (pos 0) → ⊥)
    by_sum x t e = (
      λ one alike. let a = alike.is in omega (arith, ints),
      λ apart. elim (cases_eq b 1) [ inl one ↦ one | inr other ↦ absurd (apart (record { times = neg_ℤ t; is = (let z : b ≡ 0 = omega (arith, small, other) in omega (arith, ints)) })) ],
    )

even_odd_inside : (d u : ℕ) (x w : ℤ) → x ≡ (pos d -ℤ pos u) +ℤ pos 2 *ℤ w → (IsAlike 2 x (pos 0) → ⊥) ↔ ((d + u) % 2 ≡ 1)
even_odd_inside d u x w e = (
  λ apart. elim (cases_eq ((d + u) % 2) 1) [ inl odd ↦ odd | inr even ↦ absurd (apart (record { times = (pos ((d + u) / 2) -ℤ pos u) +ℤ w; is = (let z : (d + u) % 2 ≡ 0 = omega (arith, even) in omega (arith, ints)) })) ],
  λ odd alike. let a = alike.is in omega (arith, ints),
)

-- ---- the nonzero rule
downs_few : (rings : List (List Position)) (p : Position) → downs (polygon_edges rings) p ≤ corner_count rings
downs_few [] p = omega arith
downs_few (ring ∷ rings) p =
    let a = downs-ring ring rings p in let b = downs-ring-le ring p in let c = corners-ring ring rings in let i = downs_few rings p in omega arith

ups_few : (rings : List (List Position)) (p : Position) → ups (polygon_edges rings) p ≤ corner_count rings
ups_few [] p = omega arith
ups_few (ring ∷ rings) p =
    let a = ups-ring ring rings p in let b = ups-ring-le ring p in let c = corners-ring ring rings in let i = ups_few rings p in omega arith

zero_or_not : (d u n : ℕ) (x w : ℤ) → d ≤ n → u ≤ n → n < 2 ^ 32 → x ≡ (pos d -ℤ pos u) +ℤ pos (2 ^ 32) *ℤ w → (IsAlike (2 ^ 32) x (pos 0) → ⊥) ↔ ((pos d -ℤ pos u) ≢ pos 0)
zero_or_not d u n x w h k l e = (
  λ apart same. apart (record { times = w; is = omega (arith, ints) }),
  λ apart alike. apart (let a = alike.is in only_zero (pos d -ℤ pos u) alike.times w (omega (arith, ints)) (omega (arith, ints)) (omega (arith, ints))),
)
  where
    only_zero : (z t w : ℤ) → z ≡ pos (2 ^ 32) *ℤ t -ℤ pos (2 ^ 32) *ℤ w → z <ℤ pos (2 ^ 32) → neg_ℤ (pos (2 ^ 32)) <ℤ z → z ≡ pos 0
    only_zero z t w e h k = omega (arith, ints)

-- ---- both rules
module _ (rings : List (List Position)) (p : Position) (few : corner_count rings < 2 ^ 32) where
  sum_inside : (rule : Rule) (x : ℤ) → IsAlike (modulus rule) x (winding (polygon_edges rings) p) → (IsAlike (modulus rule) x (pos 0) → ⊥) ↔ IsInside rule (polygon_edges rings) p
  sum_inside EvenOdd x h = even_odd_inside (downs (polygon_edges rings) p) (ups (polygon_edges rings) p) x h.times h.is
  sum_inside NonZero x h = zero_or_not (downs (polygon_edges rings) p) (ups (polygon_edges rings) p) (corner_count rings) x h.times (downs_few rings p) (ups_few rings p) few h.is

  pub inside_of_sum : (rule : Rule) (b : ℕ) (x : ℤ) → ((b ≡ 1) ↔ (IsAlike (modulus rule) x (pos 0) → ⊥)) → IsAlike (modulus rule) x (winding (polygon_edges rings) p) → (b ≡ 1) ↔ IsInside rule (polygon_edges rings) p
  inside_of_sum rule b x is h =
      let z = sum_inside rule x h in
      (λ l. z.0 (is.0 l), λ l. is.1 (z.1 l))

-- ---- strips of zeros
no_flag : (flags : List (List ℕ)) (s row k : ℕ) → AreZeros flags → flag_of flags s row k ≡ 0
no_flag flags s row k h = ap (λ w. bit_at w (bit_in_block row k)) (h (k / 8) (word_of s row)) ∙ bit_at-zero (bit_in_block row k)

no_number : (d u m c : ℕ) → d ≡ 0 → u ≡ 0 → m ≡ 0 → (pos d -ℤ pos u) +ℤ pos (in_use m c) ≡ pos 0
no_number d u m c e f g = let z : in_use m c ≡ 0 = ap (λ n. in_use n c) g in omega (arith, ints)

pub running_sum-zeros : (rule : Rule) (flags counters : List (List ℕ)) (s row k : ℕ) → AreZeros flags → running_sum rule flags counters s row k ≡ pos 0
running_sum-zeros EvenOdd flags counters s row k h = sum-none (cell EvenOdd flags counters s row) (k + 1) (λ j m. ap pos (no_flag flags s row j h))
running_sum-zeros NonZero flags counters s row k h =
    sum-none (cell NonZero flags counters s row) (k + 1) (λ j m. no_number _ _ _ _ (no_flag flags s row j h) (no_flag flags s row (j + 8 * length counters) h) (no_flag flags s row (j + 16 * length counters) h))

pub marked_zeros : (rule : Rule) (flags counters : List (List ℕ)) → AreZeros flags → AreMarked rule flags counters
marked_zeros EvenOdd flags counters h = tt
marked_zeros NonZero flags counters h = λ s row k x y z d u. no_flag flags s row (k + 16 * length counters) h

pub from_zeros : (m : ℕ) (x y z : ℤ) → y ≡ pos 0 → IsAlike m x (y +ℤ z) → IsAlike m x z
from_zeros m x y z e h = record { times = h.times; is = let i = h.is in omega (arith, ints) }

-- ---- the masks of a part
pub masks_of_part : (rule : Rule) (rings : List (List Position)) (strip : Strip) (part s i n row column : ℕ) (flags counters flags' counters' masks : List (List ℕ)) → corner_count rings < 2 ^ 32 → columns_in rule flags counters ≡ n → 4 * part + i ≡ s → i < part_size strip.count → i < 4
    → row < 8 → column < n → AreZeros flags → IsPlotted rule strip part (λ p. winding (polygon_edges rings) p) flags counters flags' counters' → AreSumMasks rule flags' counters' masks
    → IsBlockMask rule (polygon_edges rings) (strip_sample strip s (8 * row) (8 * column)) (slice_index (row_of masks column) (4 * row + i))
masks_of_part rule rings strip part s i n row column flags counters flags' counters' masks few long index small less h l no_flags plotted bits =
    subst (λ (j : ℕ). IsBlockMask rule (polygon_edges rings) (strip_sample strip j (8 * row) (8 * column)) (slice_index (row_of masks column) (4 * row + i))) index
    (mask_of_flags rule (polygon_edges rings) strip masks i (4 * part + i) row column n h l (λ j k j_small k_small.
    let sum = from_zeros (modulus rule) _ _ _ (running_sum-zeros rule flags counters i j k no_flags) (plotted.totals i j k small j_small (omega (arith, k_small, long))) in
    inside_of_sum rings (strip_sample strip (4 * part + i) j k) few rule (flag_of masks i j k) _ (bits i j k less j_small (omega (arith, k_small, long, same_columns rule flags counters flags' counters' plotted.flags_len plotted.counters_len))) sum))
