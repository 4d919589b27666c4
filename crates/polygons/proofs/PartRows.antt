-- A row of pixels in which an edge is counted by one sample of a part after another.
use Rattle.std.proofs.Common.{◌≡◌, ◌↔◌, ◌⊎◌, inl, inr, refl, sym, subst, ap, ◌∙◌, arith, ℕ, ◌+◌, ◌*◌, ◌/◌, ◌^◌, ◌<◌, ◌≤◌, Bool, true, false, cond, IsTrue, List, length, set, bit_and, slice_index, slice_index_or, ℤ, pos, ◌+ℤ◌, ◌≤ℤ◌, ◌<ℤ◌, w32, to_z, of_z}
use Rattle.std.proofs.lemmas.Int.{ints}
use Rattle.std.proofs.lemmas.Bool.{cases_eq, cases_lt, false≢true}
use Rattle.std.proofs.lemmas.List.{length-set}
use Rattle.std.specs.Int.RustNames.{bit_xor}
use Rattle.polygons.specs.ManyRows.{row_of}
use Rattle.std.specs.Int.{int_max}
use Rattle.polygons.specs.declared.rule.Rule.{Rule}
use Rattle.polygons.specs.declared.rule.Rule.TheVariants.{EvenOdd, NonZero}
use Rattle.polygons.specs.Rows.{from_column}
use Rattle.polygons.specs.Cells.{word_of, bit_in_block, flag_of, running_sum, columns_in, modulus, signed, HasCounters, IsAlike, IsAdded, AreMarked}
use Rattle.polygons.specs.Plotting.{HasRow, IsRowCounted}
use Rattle.polygons.specs.Short.{AreNearRows}
use Rattle.polygons.specs.declared.strip.Strip.{Strip}
use Rattle.polygons.specs.Strip.{strip_sample}
use Rattle.grid.specs.Position.{Position}
use Rattle.grid.specs.Samples.{part_size}
use Rattle.polygons.proofs.Triangle.{above_or_not}
use Rattle.polygons.proofs.Counters.{sum-same}
use Rattle.polygons.proofs.FourFlips.{sums_of_sample, IsSampleFlipped, unflipped, flipped_at}
use Rattle.polygons.proofs.Totals.{added_right}
use Rattle.polygons.proofs.Windings.{cell_same}
use Rattle.polygons.proofs.Plotted.{alike_from, alike_moved, alike_none, part_small, same_columns, AreRowsAdded}

-- whether a sample's rows hold a row, as code reads them
pub read_between : (is_crossed : Bool) (from to : List ℤ) (row s : ℕ) → s < 4 → AreNearRows from → AreNearRows to
    → (IsTrue is_crossed ↔ ((to_z w32 (of_z w32 (slice_index_or from s (pos 0))) ≤ℤ pos row) × (pos row <ℤ to_z w32 (of_z w32 (slice_index_or to s (pos 0)))))) → (IsTrue is_crossed ↔ HasRow from to row s)
read_between is_crossed from to row s small near_from near_to tells =
    let a = near_from s small in let b = near_to s small in
    let from_is : to_z w32 (of_z w32 (slice_index_or from s (pos 0))) ≡ slice_index_or from s (pos 0) = omega (arith, ints) in
    let to_is : to_z w32 (of_z w32 (slice_index_or to s (pos 0))) ≡ slice_index_or to s (pos 0) = omega (arith, ints) in
    rw (from_is, to_is) at tells

-- what a sample's column adds to a row
abbrev pub added_from : List ℤ → ℕ → Bool → ℕ → ℕ → ℤ
added_from columns s down _ k = signed down (from_column (slice_index_or columns s (pos 0)) (pos 1) k)

pub none_counted : (rule : Rule) (row : ℕ) (columns from to : List ℤ) (down : Bool) (f c : List (List ℕ)) → IsRowCounted rule 0 row columns from to down f c f c
none_counted rule row columns from to down f c = record {
  flags_len = refl;
  counters_len = refl;
  here = λ s k l. absurd (omega arith);
  others = λ s j k h l m n. refl;
  marked = λ h. h;
}

-- one sample more, which is crossed or not
pub one_counted : (rule : Rule) (s row : ℕ) (columns from to : List ℤ) (down is_crossed : Bool) (f c f' c' f'' c'' : List (List ℕ)) → s < 4 → row < 64 → (IsTrue is_crossed ↔ HasRow from to row s)
    → IsRowCounted rule s row columns from to down f c f' c' → IsAdded rule s row (row + cond is_crossed 1 0) (added_from columns s down) f' c' f'' c''
    → IsRowCounted rule (s + 1) row columns from to down f c f'' c''
one_counted rule s row columns from to down is_crossed f c f' c' f'' c'' small low tells v p = record {
  flags_len = p.flags_len ∙ v.flags_len;
  counters_len = p.counters_len ∙ v.counters_len;
  here = λ r k l has m. elim (cases_lt r s) [
    | inl q ↦ alike_moved (modulus rule) _ _ _ (sym (p.others r row k (omega arith) low (inside k m) (λ e _ _. omega arith))) (v.here r k q has m)
    | inr q ↦
        let same : s ≡ r = omega arith in
        subst (λ (i : ℕ). IsAlikeAt i k) same
        (alike_from (modulus rule) _ _ _ _ _ _ refl (v.others s row k small low m (λ x _ _. omega arith)) refl (p.here row k (omega arith) (above is_crossed (tells.1 (subst (HasRow from to row) (sym same) has))) (inside k m)))
  ];
  others = λ r j k h l m none. p.others r j k h l (inside k m) (λ e x y. apart is_crossed tells.0 r j h none e x y) ∙ v.others r j k h l m (λ x. none (omega arith));
  marked = λ h. p.marked (v.marked h);
}
  where
    IsAlikeAt : ℕ → ℕ → Type 0
    IsAlikeAt r k = IsAlike (modulus rule) (running_sum rule f'' c'' r row k) (running_sum rule f c r row k +ℤ added_from columns r down row k)

    inside : (k : ℕ) → k < 8 * columns_in rule f c → k < 8 * columns_in rule f' c'
    inside k l = let q = same_columns rule f c f' c' v.flags_len v.counters_len in omega arith

    above : (x : Bool) → IsTrue x → row < row + cond x 1 0
    above true h = omega arith
    above false h = absurd (false≢true h)

    apart : (x : Bool) → (IsTrue x → HasRow from to row s) → (r j : ℕ) → r < 4 → (r < s + 1 → HasRow from to row r → j ≡ row → ⊥) → r ≡ s → row ≤ j → j < row + cond x 1 0 → ⊥
    apart true has r j h none e a b = none (omega arith) (subst (HasRow from to row) (sym e) (has refl)) (omega arith)
    apart false has r j h none e a b = omega arith

-- a sample that is not crossed, whose flags and counters stay
unchanged : (rule : Rule) (s row : ℕ) (number : ℕ → ℕ → ℤ) (f c f' : List (List ℕ)) → length f' ≡ length f → ((r j k : ℕ) → r < 4 → j < 64 → flag_of f' r j k ≡ flag_of f r j k) → IsAdded rule s row row number f c f' c
unchanged rule s row number f c f' long same = record {
  flags_len = long;
  counters_len = refl;
  here = λ j k h l m. absurd (omega arith);
  others = λ r j k h l m _. sum_kept rule r j k h l m;
  marked = marks_kept rule;
}
  where
    sum_kept : (q : Rule) (r j k : ℕ) → r < 4 → j < 64 → k < 8 * columns_in q f c → running_sum q f' c r j k ≡ running_sum q f c r j k
    sum_kept EvenOdd r j k h l m = sum-same _ _ (k + 1) (λ i _. ap pos (same r j i h l))
    sum_kept NonZero r j k h l m = sum-same _ _ (k + 1) (λ i _. cell_same f c f' c r j i refl (same r j i h l) (same r j (i + 8 * length c) h l) (same r j (i + 16 * length c) h l) refl)

    marks_kept : (q : Rule) → AreMarked q f c → AreMarked q f' c
    marks_kept EvenOdd h = h
    marks_kept NonZero h = λ r j k x y z d u. same r j (k + 16 * length c) x y ∙ h r j k x y z (sym (same r j k x y) ∙ d) (sym (same r j (k + 8 * length c) x y) ∙ u)

-- one whose rows do not hold this one
pub none_more : (rule : Rule) (s row : ℕ) (columns from to : List ℤ) (down : Bool) (f c f' c' : List (List ℕ)) → s < 4 → row < 64 → (HasRow from to row s → ⊥) → IsRowCounted rule s row columns from to down f c f' c'
    → IsRowCounted rule (s + 1) row columns from to down f c f' c'
none_more rule s row columns from to down f c f' c' small low none v =
    one_counted rule s row columns from to down false f c f' c' f' c' small low (λ e. absurd (false≢true e), λ has. absurd (none has)) v
    (subst (λ (n : ℕ). IsAdded rule s row n (added_from columns s down) f' c' f' c') (omega arith) (unchanged rule s row (added_from columns s down) f' c' f' refl (λ r j k h l. refl)))

-- columns right of the strip
pub all_right : (rule : Rule) (row : ℕ) (columns from to : List ℤ) (down : Bool) (f c : List (List ℕ)) (places : List ℕ) (column : ℕ)
    → ((s : ℕ) → s < 4 → pos (slice_index places s) ≡ int_max (slice_index_or columns s (pos 0)) (pos 0)) → ((s : ℕ) → s < 4 → slice_index places s / 8 ≡ column) → columns_in rule f c ≤ column
    → IsRowCounted rule 4 row columns from to down f c f c
all_right rule row columns from to down f c places column place one beside = record {
  flags_len = refl;
  counters_len = refl;
  here = λ s k l _ m. (let e = one s l in (added_right rule s row (slice_index_or columns s (pos 0)) (slice_index places s) down f c (place s l) (omega arith)).here row k (omega arith) (omega arith) m);
  others = λ s j k h l m n. refl;
  marked = λ h. h;
}

-- whether a sample's rows hold a row
has_or_not : (from to : List ℤ) (row s : ℕ) → HasRow from to row s ⊎ (HasRow from to row s → ⊥)
has_or_not from to row s = elim (above_or_not (pos row) (slice_index_or from s (pos 0))) [
  | inl a ↦ inr (λ h. let l = h.0 in omega (arith, ints))
  | inr a ↦ elim (above_or_not (pos row) (slice_index_or to s (pos 0))) [
    | inl b ↦ inl (a, b)
    | inr b ↦ inr (λ h. let l = h.1 in omega (arith, ints))
  ]
]

-- ---- four samples whose columns lie in one column of blocks
-- the column of their flags
pub column_inside : (rule : Rule) (down : Bool) (f c : List (List ℕ)) (column block : ℕ) → HasCounters rule f c → column < columns_in rule f c → (rule ≡ EvenOdd → block ≡ column) → (rule ≡ NonZero → block ≡ column + cond down 0 (length c)) → block < length f
column_inside EvenOdd down f c column block _ l even_odd nonzero = (let e = even_odd refl in omega (arith, l, e))
column_inside NonZero true f c column block long l even_odd nonzero = (let e = nonzero refl in omega (arith, l, e, long))
column_inside NonZero false f c column block long l even_odd nonzero = (let e = nonzero refl in omega (arith, l, e, long))

module _ (rule : Rule) (row : ℕ) (columns from to : List ℤ) (down : Bool) (f c : List (List ℕ)) (places crossed bits words : List ℕ) (column block : ℕ) (low : row < 64)
    (place : (s : ℕ) → s < 4 → pos (slice_index places s) ≡ int_max (slice_index_or columns s (pos 0)) (pos 0)) (one : (s : ℕ) → s < 4 → slice_index places s / 8 ≡ column)
    (tells : (s : ℕ) → s < 4 → (slice_index crossed s ≡ 1 ↔ HasRow from to row s)) (small : (s : ℕ) → s < 4 → slice_index crossed s < 2)
    (set_bit : (s : ℕ) → s < 4 → slice_index crossed s ≡ 1 → slice_index bits s ≡ 2 ^ bit_in_block row (slice_index places s)) (no_bit : (s : ℕ) → s < 4 → slice_index crossed s ≡ 0 → slice_index bits s ≡ 0)
    (within : column < columns_in rule f c) (even_odd : rule ≡ EvenOdd → block ≡ column) (nonzero : rule ≡ NonZero → block ≡ column + cond down 0 (length c)) (inside : block < length f) (room : length (row_of f block) ≡ 32)
    (clear : rule ≡ NonZero → (s : ℕ) → s < 4 → bit_and (slice_index (row_of f block) (word_of s row)) (slice_index bits s) ≡ 0)
    (flipped : (s : ℕ) → s < 4 → slice_index words (word_of s row) ≡ bit_xor (slice_index (row_of f block) (word_of s row)) (slice_index bits s))
    (kept : (i : ℕ) → (i / 4 ≡ row / 8 → ⊥) → slice_index words i ≡ slice_index (row_of f block) i) where
  abbrev all_flipped : List (List ℕ)
  all_flipped = set f block words

  -- a sample whose rows do not hold this one
  not_crossed : (s : ℕ) → s < 4 → (HasRow from to row s → ⊥) → slice_index crossed s ≡ 0
  not_crossed s l none = (let d = small s l in elim (cases_eq (slice_index crossed s) 1) [ inl e ↦ absurd (none ((tells s l).0 e)) | inr e ↦ omega (arith, d, e) ])

  flag_kept : (s : ℕ) → s < 4 → (HasRow from to row s → ⊥) → (j k : ℕ) → flag_of all_flipped s j k ≡ flag_of f s j k
  flag_kept s l none = unflipped rule s row f (slice_index bits s) words block l low inside room (flipped s l) kept (no_bit s l (not_crossed s l none))

  -- one whose rows do
  sample : (s : ℕ) → s < 4 → HasRow from to row s → IsSampleFlipped rule s row (slice_index_or columns s (pos 0)) down f c all_flipped
  sample s l has =
      flipped_at rule s row f (slice_index bits s) words block l low inside room (flipped s l) kept (slice_index places s) column (slice_index_or columns s (pos 0)) down c (place s l) (one s l) (set_bit s l ((tells s l).1 has)) within even_odd nonzero
      (λ e. clear e s l)

  pub all_counted : IsRowCounted rule 4 row columns from to down f c all_flipped c
  all_counted = record {
    flags_len = length-set f block words;
    counters_len = refl;
    here = λ s k l has m.
        let v = sample s l has in
        subst (λ z. IsAlike (modulus rule) z (running_sum rule f c s row k +ℤ added_from columns s down row k)) (sym (sums_of_sample rule v.once c all_flipped s v.same row k))
        (v.added.here row k (omega arith) (omega arith) m);
    others = λ s j k l h m none. elim (has_or_not from to row s) [
      | inl has ↦ let v = sample s l has in sums_of_sample rule v.once c all_flipped s v.same j k ∙ v.added.others s j k l h m (λ _ a b. none l has (omega arith))
      | inr not ↦ sums_of_sample rule f c all_flipped s (flag_kept s l not) j k
    ];
    marked = by_rule rule refl;
  }
    where
      by_rule : (q : Rule) → q ≡ rule → AreMarked q f c → AreMarked q all_flipped c
      by_rule EvenOdd is h = h
      by_rule NonZero is h = λ s j k x y z d u. elim (has_or_not from to row s) [
        | inl has ↦
            let v = sample s x has in
            let marked = (subst (λ r. IsAdded r s row (row + 1) (added_from columns s down) f c v.once c) (sym is) v.added).marked h in
            v.same j (k + 16 * length c) ∙ marked s j k x y z (sym (v.same j k) ∙ d) (sym (v.same j (k + 8 * length c)) ∙ u)
        | inr not ↦ flag_kept s x not j (k + 16 * length c) ∙ h s j k x y z (sym (flag_kept s x not j k) ∙ d) (sym (flag_kept s x not j (k + 8 * length c)) ∙ u)
      ]

-- ---- the rows of a part, one after another
pub one_row_more : (rule : Rule) (strip : Strip) (part : ℕ) (change : Position → ℤ) (n row : ℕ) (columns from to : List ℤ) (down : Bool) (f c f' c' f'' c'' : List (List ℕ)) → part_size strip.count ≡ n → row < 64
    → ((s k : ℕ) → s < n → HasRow from to row s → added_from columns s down row k ≡ change (strip_sample strip (4 * part + s) row k))
    → ((s k : ℕ) → s < n → (HasRow from to row s → ⊥) → change (strip_sample strip (4 * part + s) row k) ≡ pos 0) → AreRowsAdded rule strip part change row f c f' c'
    → IsRowCounted rule n row columns from to down f' c' f'' c'' → AreRowsAdded rule strip part change (row + 1) f c f'' c''
one_row_more rule strip part change n row columns from to down f c f' c' f'' c'' size low crossed apart v p = record {
  flags_len = p.flags_len ∙ v.flags_len;
  counters_len = p.counters_len ∙ v.counters_len;
  done = λ s j k x y h i. let few = part_small strip.count in let small : s < 4 = omega (arith, x, few) in elim (cases_lt j row) [
    | inl q ↦ alike_moved (modulus rule) _ _ _ (sym (p.others s j k small h (inside k i) (λ _ _ e. omega arith))) (v.done s j k x q h i)
    | inr q ↦
        let same : row ≡ j = omega arith in
        subst (λ (m : ℕ). IsAlike (modulus rule) (running_sum rule f'' c'' s m k) (running_sum rule f c s m k +ℤ change (strip_sample strip (4 * part + s) m k))) same (at s k (omega arith) small i (has_or_not from to row s))
  ];
  rest = λ s j k x y h i. p.others s j k x h (inside k i) (λ _ _ e. omega arith) ∙ v.rest s j k x (omega arith) h i;
  marked = λ h. p.marked (v.marked h);
}
  where
    inside : (k : ℕ) → k < 8 * columns_in rule f c → k < 8 * columns_in rule f' c'
    inside k l = let q = same_columns rule f c f' c' v.flags_len v.counters_len in omega arith

    at : (s k : ℕ) → s < n → s < 4 → k < 8 * columns_in rule f c → HasRow from to row s ⊎ (HasRow from to row s → ⊥)
        → IsAlike (modulus rule) (running_sum rule f'' c'' s row k) (running_sum rule f c s row k +ℤ change (strip_sample strip (4 * part + s) row k))
    at s k x small i (inl has) = alike_from (modulus rule) _ _ _ _ _ _ refl (v.rest s row k small (omega arith) low i) (crossed s k x has) (p.here s k x has (inside k i))
    at s k x small i (inr none) = alike_none (modulus rule) _ _ _ (p.others s row k small low (inside k i) (λ _ has _. none has) ∙ v.rest s row k small (omega arith) low i) (apart s k x none)
