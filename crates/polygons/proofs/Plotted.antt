-- What is added to the rows of a strip, one edge after another.
use Rattle.std.proofs.Common.{◌≡◌, inl, inr, refl, sym, subst, ap, ◌∙◌, arith, ℕ, zero, suc, ◌+◌, ◌*◌, ◌<◌, ◌≤◌, Bool, true, false, List, [], ◌∷◌, ◌++◌, length, drop, get_or, drop-cons, add-one, ℤ, pos, w64, to_z, of_z, FitsSigned, ◌+ℤ◌, ◌-ℤ◌, ◌*ℤ◌, ◌<ℤ◌, ◌≤ℤ◌}
use Rattle.std.proofs.lemmas.Int.{ints}
use Rattle.std.proofs.lemmas.Bool.{cases_eq, cases_lt}
use Rattle.std.proofs.lemmas.List.{length-take}
use Rattle.std.proofs.lemmas.Nat.Bits.{bit_at-zero}
use Rattle.std.specs.Int.{bit_at}
use Rattle.grid.specs.Position.{Position}
use Rattle.grid.proofs.Ring.{var, plus, times, ring}
use Rattle.grid.specs.Samples.{part_size}
use Rattle.grid.specs.declared.sample_count.SampleCount.{SampleCount}
use Rattle.grid.specs.declared.sample_count.SampleCount.TheVariants.{One, Two, Four, Eight, Sixteen}
use Rattle.polygons.specs.declared.cells.Cells.{Cells}
use Rattle.polygons.specs.declared.edge.Edge.{Edge}
use Rattle.polygons.specs.declared.rule.Rule.{Rule}
use Rattle.polygons.specs.declared.rule.Rule.TheVariants.{EvenOdd, NonZero}
use Rattle.polygons.specs.declared.strip.Strip.{Strip}
use Rattle.polygons.specs.Blocks.{down}
use Rattle.polygons.specs.Columns.{Walk, along, below, HasHeight, IsFirstColumn}
use Rattle.polygons.specs.Crossing.{winding}
use Rattle.polygons.specs.Polygon.{path_edges, path_end, ring_edges, polygon_edges}
use Rattle.polygons.specs.Rows.{direction, from_column}
use Rattle.polygons.specs.Strip.{strip_sample}
use Rattle.polygons.specs.Cells.{part_columns, modulus, signed, added_by, running_sum, IsAlike, IsAdded, HasCounters, AreMarked, IsPlotted, columns_in, flags_by}
use Rattle.polygons.specs.Plotting.{AreSame, ArePlotted, HasParts}
use Rattle.polygons.proofs.Exact.{exact64}
use Rattle.polygons.proofs.Counters.{direction-from, direction-none}
use Rattle.polygons.proofs.Cancel.{one_down, one_up}
use Rattle.polygons.proofs.Counts.{downs-ring, ups-ring}

pub has_counters : (rule : Rule) (f c f' c' : List (List ℕ)) → length f' ≡ length f → length c' ≡ length c → HasCounters rule f c → HasCounters rule f' c'
has_counters EvenOdd f c f' c' e g h = tt
has_counters NonZero f c f' c' e g h = e ∙ h ∙ ap (λ n. 3 * n) (sym g)

pub same_columns : (rule : Rule) (f c f' c' : List (List ℕ)) → length f' ≡ length f → length c' ≡ length c → columns_in rule f' c' ≡ columns_in rule f c
same_columns EvenOdd f c f' c' e g = e
same_columns NonZero f c f' c' e g = g

pub row_after : (p : Position) (n : ℕ) → below (down p n) ≡ down p (n + 1)
row_after p n = let y : (p.y +ℤ pos (256 * n)) +ℤ pos 256 ≡ p.y +ℤ pos (256 * (n + 1)) = omega (arith, ints) in λ i. record { x = p.x; y = y i }

-- what a walk's column says of the direction
pub walk_direction : (e : Edge) (s : Position) (w : Walk) (column : ℤ) → FitsSigned w64 column → w ≡ record { edge = e; row = s } → IsFirstColumn w.edge w.row column → HasHeight e s.y
    → (k : ℕ) → from_column (to_z w64 (of_z w64 column)) (pos 1) k ≡ direction e (along s (pos k))
walk_direction e s w column fits is first height k =
    let there : IsFirstColumn e s column = subst (λ (v : Walk). IsFirstColumn v.edge v.row column) is first in
    ap (λ z. from_column z (pos 1) k) (exact64 column fits) ∙ sym (direction-from e s column k height there)

pub walk_added : (e : Edge) (start : Position) (forward : Bool) (row : ℕ) (w : Walk) (column : ℤ) → FitsSigned w64 column → w ≡ record { edge = e; row = down start row } → IsFirstColumn w.edge w.row column
    → HasHeight e (down start row).y → (j k : ℕ) → row ≤ j → j < row + 1 → signed forward (from_column (to_z w64 (of_z w64 column)) (pos 1) k) ≡ added_by e forward start j k
walk_added e start forward row w column fits is first height j k h l =
    let at : row ≡ j = omega arith in
    ap (signed forward) (walk_direction e (down start row) w column fits is first height k) ∙ ap (λ (i : ℕ). added_by e forward start i k) at

-- ---- sums that are alike
pub alike_from : (m : ℕ) (x x' y y' z z' : ℤ) → x ≡ x' → y ≡ y' → z ≡ z' → IsAlike m x (y +ℤ z) → IsAlike m x' (y' +ℤ z')
alike_from m x x' y y' z z' e f g h = record { times = h.times; is = let i = h.is in omega (arith, ints) }

pub alike_moved : (m : ℕ) (x x' y : ℤ) → x ≡ x' → IsAlike m x y → IsAlike m x' y
alike_moved m x x' y e h = subst (λ (z : ℤ). IsAlike m z y) e h

pub alike_none : (m : ℕ) (x y z : ℤ) → x ≡ y → z ≡ pos 0 → IsAlike m x (y +ℤ z)
alike_none m x y z e f = record { times = pos 0; is = omega (arith, ints) }

-- an edge that is not crossed adds nothing
pub signed_none : (forward : Bool) (d : ℤ) → d ≡ pos 0 → signed forward d ≡ pos 0
signed_none true d e = e
signed_none false d e = omega (arith, ints)

pub direction_above : (e : Edge) (p : Position) (k : ℤ) → e.a.y ≤ℤ e.b.y → p.y <ℤ e.a.y → direction e (along p k) ≡ pos 0
direction_above e p k h l = direction-none e p k (λ x. let t = x.0 in omega (arith, ints)) (λ x. let t = x.0 in omega (arith, ints))

pub direction_below : (e : Edge) (p : Position) (k : ℤ) → e.a.y ≤ℤ e.b.y → e.b.y ≤ℤ p.y → direction e (along p k) ≡ pos 0
direction_below e p k h l = direction-none e p k (λ x. let t = x.1 in omega (arith, ints)) (λ x. let t = x.1 in omega (arith, ints))

pub part_small : (count : SampleCount) → part_size count ≤ 4
part_small One = omega arith
part_small Two = omega arith
part_small Four = omega arith
part_small Eight = omega arith
part_small Sixteen = omega arith

pub before_of : (r i : ℕ) → r < i + 1 → (r ≡ i → ⊥) → r < i
before_of r i h e = elim (cases_lt r i) [ inl m ↦ m | inr m ↦ absurd (e (omega arith)) ]

-- ---- what is added to the rows of one sample
pub added_as : (rule : Rule) (s first end : ℕ) (number other : ℕ → ℕ → ℤ) (f c f' c' : List (List ℕ)) → ((row k : ℕ) → first ≤ row → row < end → number row k ≡ other row k)
    → IsAdded rule s first end number f c f' c' → IsAdded rule s first end other f c f' c'
added_as rule s first end number other f c f' c' e h = record {
  flags_len = h.flags_len;
  counters_len = h.counters_len;
  here = λ row k l m n. alike_from (modulus rule) _ _ _ _ _ _ refl refl (e row k l m) (h.here row k l m n);
  others = h.others;
  marked = h.marked;
}

-- rows in which nothing is added
pub added_all : (rule : Rule) (s first end : ℕ) (number : ℕ → ℕ → ℤ) (f c f' c' : List (List ℕ)) → s < 4 → ((row k : ℕ) → row < first → number row k ≡ pos 0)
    → ((row k : ℕ) → end ≤ row → row < 64 → number row k ≡ pos 0) → IsAdded rule s first end number f c f' c' → IsAdded rule s 0 64 number f c f' c'
added_all rule s first end number f c f' c' s_small above under h = record {
  flags_len = h.flags_len;
  counters_len = h.counters_len;
  here = λ row k _ l m. elim (cases_lt row first) [
    | inl p ↦ alike_none (modulus rule) _ _ _ (h.others s row k s_small l m (λ _ x _. omega arith)) (above row k p)
    | inr p ↦ elim (cases_lt row end) [
      | inl q ↦ h.here row k p q m
      | inr q ↦ alike_none (modulus rule) _ _ _ (h.others s row k s_small l m (λ _ _ x. omega arith)) (under row k q l)
    ]
  ];
  others = λ r row k l m b n. h.others r row k l m b (λ x _ _. n x (omega arith) m);
  marked = h.marked;
}

-- ---- the samples of a part of a strip, row by row
-- what holds once the rows before row n are done
pub record AreRowsAdded (rule : Rule) (strip : Strip) (part : ℕ) (change : Position → ℤ) (n : ℕ) (f c f' c' : List (List ℕ)) : Type 0 where
  pub flags_len : length f' ≡ length f
  pub counters_len : length c' ≡ length c
  pub done : (s row k : ℕ) → s < part_size strip.count → row < n → row < 64 → k < 8 * columns_in rule f c → IsAlike (modulus rule) (running_sum rule f' c' s row k) (running_sum rule f c s row k +ℤ change (strip_sample strip (4 * part + s) row k))
  pub rest : (s row k : ℕ) → s < 4 → n ≤ row → row < 64 → k < 8 * columns_in rule f c → running_sum rule f' c' s row k ≡ running_sum rule f c s row k
  pub marked : AreMarked rule f c → AreMarked rule f' c'

-- rows above, to which nothing is added
pub rows_above : (rule : Rule) (strip : Strip) (part : ℕ) (change : Position → ℤ) (n : ℕ) (f c : List (List ℕ))
    → ((s row k : ℕ) → s < part_size strip.count → row < n → row < 64 → change (strip_sample strip (4 * part + s) row k) ≡ pos 0) → AreRowsAdded rule strip part change n f c f c
rows_above rule strip part change n f c none = record {
  flags_len = refl;
  counters_len = refl;
  done = λ s row k x y h i. alike_none (modulus rule) _ _ _ refl (none s row k x y h);
  rest = λ s row k x y h i. refl;
  marked = λ h. h;
}

-- rows below, to which nothing is added
pub rows_below : (rule : Rule) (strip : Strip) (part : ℕ) (change : Position → ℤ) (n : ℕ) (f c f' c' : List (List ℕ))
    → ((s row k : ℕ) → s < part_size strip.count → n ≤ row → row < 64 → change (strip_sample strip (4 * part + s) row k) ≡ pos 0) → AreRowsAdded rule strip part change n f c f' c'
    → IsPlotted rule strip part change f c f' c'
rows_below rule strip part change n f c f' c' none v = record {
  flags_len = v.flags_len;
  counters_len = v.counters_len;
  totals = λ s row k x y z. elim (cases_lt row n) [
    | inl q ↦ v.done s row k x q y z
    | inr q ↦ alike_none (modulus rule) _ _ _ (v.rest s row k (let few = part_small strip.count in omega (arith, x, few)) q y z) (none s row k x q y)
  ];
  marked = v.marked;
}

-- ---- the samples of a part of a strip whose bits are set, from the lowest on
-- what holds while those of `rest` are left
pub record AreSamplesLeft (rule : Rule) (strip : Strip) (part : ℕ) (change : Position → ℤ) (rest : ℕ) (f c f' c' : List (List ℕ)) : Type 0 where
  pub flags_len : length f' ≡ length f
  pub counters_len : length c' ≡ length c
  pub done : (s row k : ℕ) → s < part_size strip.count → bit_at rest s ≡ 0 → row < 64 → k < 8 * columns_in rule f c → IsAlike (modulus rule) (running_sum rule f' c' s row k) (running_sum rule f c s row k +ℤ change (strip_sample strip (4 * part + s) row k))
  pub left : (s row k : ℕ) → s < 4 → bit_at rest s ≡ 1 → row < 64 → k < 8 * columns_in rule f c → running_sum rule f' c' s row k ≡ running_sum rule f c s row k
  pub marked : AreMarked rule f c → AreMarked rule f' c'

pub all_left : (rule : Rule) (strip : Strip) (part : ℕ) (change : Position → ℤ) (rest : ℕ) (f c : List (List ℕ))
    → ((s row k : ℕ) → s < part_size strip.count → bit_at rest s ≡ 0 → row < 64 → change (strip_sample strip (4 * part + s) row k) ≡ pos 0) → AreSamplesLeft rule strip part change rest f c f c
all_left rule strip part change rest f c none = record {
  flags_len = refl;
  counters_len = refl;
  done = λ s row k x y h i. alike_none (modulus rule) _ _ _ refl (none s row k x y h);
  left = λ s row k x y h i. refl;
  marked = λ h. h;
}

pub one_sample_less : (rule : Rule) (strip : Strip) (part : ℕ) (change : Position → ℤ) (rest n rest' : ℕ) (number : ℕ → ℕ → ℤ) (f c f' c' f'' c'' : List (List ℕ)) → n < 4 → bit_at rest n ≡ 1
    → ((s : ℕ) → s < 4 → (s ≡ n → ⊥) → bit_at rest' s ≡ bit_at rest s) → bit_at rest' n ≡ 0
    → ((row k : ℕ) → number row k ≡ change (strip_sample strip (4 * part + n) row k)) → AreSamplesLeft rule strip part change rest f c f' c' → IsAdded rule n 0 64 number f' c' f'' c''
    → AreSamplesLeft rule strip part change rest' f c f'' c''
one_sample_less rule strip part change rest n rest' number f c f' c' f'' c'' n_small set others cleared is v p = record {
  flags_len = p.flags_len ∙ v.flags_len;
  counters_len = p.counters_len ∙ v.counters_len;
  done = λ s row k x y h i. let few = part_small strip.count in let small : s < 4 = omega (arith, x, few) in elim (cases_eq s n) [
    | inl q ↦
        let a = p.here row k (omega arith) h (inside k i) in
        let at_n = alike_from (modulus rule) _ _ _ _ _ _ refl (v.left n row k n_small set h i) (is row k) a in
        subst (λ (j : ℕ). IsAlike (modulus rule) (running_sum rule f'' c'' j row k) (running_sum rule f c j row k +ℤ change (strip_sample strip (4 * part + j) row k))) (sym q) at_n
    | inr q ↦ alike_moved (modulus rule) _ _ _ (sym (p.others s row k small h (inside k i) (λ z _ _. q z))) (v.done s row k x (sym (others s small q) ∙ y) h i)
  ];
  left = λ s row k x y h i. elim (cases_eq s n) [
    | inl q ↦ absurd (let e = ap (bit_at rest') q in omega arith)
    | inr q ↦ p.others s row k x h (inside k i) (λ z _ _. q z) ∙ v.left s row k x (sym (others s x q) ∙ y) h i
  ];
  marked = λ h. p.marked (v.marked h);
}
  where
    inside : (k : ℕ) → k < 8 * columns_in rule f c → k < 8 * columns_in rule f' c'
    inside k l = let q = same_columns rule f c f' c' v.flags_len v.counters_len in omega arith

pub none_left_of : (rule : Rule) (strip : Strip) (part : ℕ) (change : Position → ℤ) (rest : ℕ) (f c f' c' : List (List ℕ)) → rest ≡ 0 → AreSamplesLeft rule strip part change rest f c f' c' → IsPlotted rule strip part change f c f' c'
none_left_of rule strip part change rest f c f' c' none v = record {
  flags_len = v.flags_len;
  counters_len = v.counters_len;
  totals = λ s row k x y z. v.done s row k x (ap (λ n. bit_at n s) none ∙ bit_at-zero s) y z;
  marked = v.marked;
}

-- ---- what is added to a part
pub times_sum : (n a b : ℤ) → n *ℤ (a +ℤ b) ≡ n *ℤ a +ℤ n *ℤ b
times_sum n a b = ring (n ∷ a ∷ b ∷ []) (times (var 0) (plus (var 1) (var 2))) (plus (times (var 0) (var 1)) (times (var 0) (var 2))) refl

alike_both : (m : ℕ) (x y z u v w : ℤ) → IsAlike m x (y +ℤ u) → IsAlike m y (z +ℤ v) → w ≡ v +ℤ u → IsAlike m x (z +ℤ w)
alike_both m x y z u v w h k e = record { times = h.times +ℤ k.times; is = let i = h.is in let j = k.is in let d = times_sum (pos m) h.times k.times in omega (arith, ints) }

module _ (rule : Rule) (strip : Strip) (part : ℕ) where
  part_on : (f g : Position → ℤ) (a b a' b' : List (List ℕ)) → ((s row k : ℕ) → row < 64 → k < 8 * columns_in rule a b → f (strip_sample strip s row k) ≡ g (strip_sample strip s row k))
      → IsPlotted rule strip part f a b a' b' → IsPlotted rule strip part g a b a' b'
  part_on f g a b a' b' e h = record {
    flags_len = h.flags_len;
    counters_len = h.counters_len;
    totals = λ s row k x y z. alike_from (modulus rule) _ _ _ _ _ _ refl refl (e (4 * part + s) row k y z) (h.totals s row k x y z);
    marked = h.marked;
  }

  -- an edge that is crossed at no sample of the part
  pub part_nowhere : (f : Position → ℤ) (a b : List (List ℕ)) → ((s row k : ℕ) → s < part_size strip.count → row < 64 → k < 8 * columns_in rule a b → f (strip_sample strip (4 * part + s) row k) ≡ pos 0) → IsPlotted rule strip part f a b a b
  part_nowhere f a b e = record {
    flags_len = refl;
    counters_len = refl;
    totals = λ s row k x y z. alike_none (modulus rule) _ _ _ refl (e s row k x y z);
    marked = λ h. h;
  }

  part_both : (f g both : Position → ℤ) (a b a' b' a'' b'' : List (List ℕ)) → ((p : Position) → both p ≡ f p +ℤ g p) → IsPlotted rule strip part f a b a' b' → IsPlotted rule strip part g a' b' a'' b''
      → IsPlotted rule strip part both a b a'' b''
  part_both f g both a b a' b' a'' b'' sum h k = record {
    flags_len = k.flags_len ∙ h.flags_len;
    counters_len = k.counters_len ∙ h.counters_len;
    totals = λ s row j x y z. let p = strip_sample strip (4 * part + s) row j in alike_both (modulus rule) _ _ _ _ _ (both p) (k.totals s row j x y (let q = same_columns rule a b a' b' h.flags_len h.counters_len in omega arith)) (h.totals s row j x y z) (sum p);
    marked = λ l. k.marked (h.marked l);
  }

  -- as another struct has it
  pub part_moved : (g : Position → ℤ) (r : Rule) (m m' n n' : ℕ) (f c f' c' : List (List ℕ)) → r ≡ rule → m' ≡ m → n' ≡ n
      → IsPlotted r strip part g (part_columns f m' part) (part_columns c n' part) (part_columns f' m' part) (part_columns c' n' part) → IsPlotted rule strip part g (part_columns f m part) (part_columns c n part) (part_columns f' m part) (part_columns c' n part)
  part_moved g r m m' n n' f c f' c' e h k p =
      subst (λ (i : ℕ). IsPlotted rule strip part g (part_columns f m part) (part_columns c i part) (part_columns f' m part) (part_columns c' i part)) k
      (subst (λ (i : ℕ). IsPlotted rule strip part g (part_columns f i part) (part_columns c n' part) (part_columns f' i part) (part_columns c' n' part)) h
      (subst (λ (q : Rule). IsPlotted q strip part g (part_columns f m' part) (part_columns c n' part) (part_columns f' m' part) (part_columns c' n' part)) e p))

-- ---- what is added to a strip
pub all_same : (a : Cells) → AreSame a a
all_same a = record { rule = refl; columns = refl; flagged = refl; counted = refl; flags = refl; counters = refl; flags_len = refl; counters_len = refl }

pub same_both : (a b c : Cells) → AreSame a b → AreSame b c → AreSame a c
same_both a b c h k = record {
  rule = k.rule ∙ h.rule;
  columns = k.columns ∙ h.columns;
  flagged = k.flagged ∙ h.flagged;
  counted = k.counted ∙ h.counted;
  flags = k.flags ∙ h.flags;
  counters = k.counters ∙ h.counters;
  flags_len = k.flags_len ∙ h.flags_len;
  counters_len = k.counters_len ∙ h.counters_len;
}

pub parts_kept : (strip : Strip) (a b : Cells) → AreSame a b → HasParts strip a → HasParts strip b
parts_kept strip a b same h = record {
  flags = rw (same.flagged, same.flags_len) h.flags;
  counters = rw (same.counted, same.counters_len) h.counters;
}

pub few_columns : (a : Cells) (part k : ℕ) → k < 8 * columns_in a.rule (part_columns a.flags.now a.flagged part) (part_columns a.counters.now a.counted part) → k < 8 * a.columns
few_columns a part k = by_rule a.rule a.all_flags a.all_counters
  where
    by_rule : (rule : Rule) → a.flagged ≡ flags_by rule * a.columns → (rule ≡ NonZero → a.counted ≡ a.columns) → k < 8 * columns_in rule (part_columns a.flags.now a.flagged part) (part_columns a.counters.now a.counted part) → k < 8 * a.columns
    by_rule EvenOdd flags counters h = omega (arith, h, flags, length-take a.flagged (drop (part * a.flagged) a.flags.now))
    by_rule NonZero flags counters h = omega (arith, h, counters refl, length-take a.counted (drop (part * a.counted) a.counters.now))

pub plotted_on : (strip : Strip) (f g : Position → ℤ) (a b : Cells) → ((s row k : ℕ) → row < 64 → k < 8 * a.columns → f (strip_sample strip s row k) ≡ g (strip_sample strip s row k)) → ArePlotted strip f a b → ArePlotted strip g a b
plotted_on strip f g a b e h = record {
  plotted = λ part l. part_on a.rule strip part f g _ _ _ _ (λ s row k x y. e s row k x (few_columns a part k y)) (h.plotted part l);
  same = h.same;
}

pub plotted_as : (strip : Strip) (f g : Position → ℤ) (a b : Cells) → ((p : Position) → f p ≡ g p) → ArePlotted strip f a b → ArePlotted strip g a b
plotted_as strip f g a b e h = plotted_on strip f g a b (λ s row k x y. e (strip_sample strip s row k)) h

-- an edge that is crossed at no sample of the strip
pub plotted_apart : (strip : Strip) (f : Position → ℤ) (a : Cells) → ((s row k : ℕ) → row < 64 → k < 8 * a.columns → f (strip_sample strip s row k) ≡ pos 0) → ArePlotted strip f a a
plotted_apart strip f a e = record {
  plotted = λ part l. part_nowhere a.rule strip part f _ _ (λ s row k _ x y. e (4 * part + s) row k x (few_columns a part k y));
  same = all_same a;
}

pub plotted_none : (strip : Strip) (f : Position → ℤ) (a : Cells) → ((p : Position) → f p ≡ pos 0) → ArePlotted strip f a a
plotted_none strip f a e = plotted_apart strip f a (λ s row k x y. e (strip_sample strip s row k))

pub plotted_both : (strip : Strip) (f g both : Position → ℤ) (a b c : Cells) → ((p : Position) → both p ≡ f p +ℤ g p) → ArePlotted strip f a b → ArePlotted strip g b c → ArePlotted strip both a c
plotted_both strip f g both a b c sum h k = record {
  plotted = λ part l. part_both a.rule strip part f g both _ _ _ _ _ _ sum (h.plotted part l)
      (part_moved a.rule strip part g b.rule a.flagged b.flagged a.counted b.counted b.flags.now b.counters.now c.flags.now c.counters.now h.same.rule h.same.flagged h.same.counted (k.plotted part l));
  same = same_both a b c h.same k.same;
}

-- ---- the edges of paths and rings
pub winding-cons : (e : Edge) (es : List Edge) (p : Position) → winding (e ∷ es) p ≡ direction e p +ℤ winding es p
winding-cons e es p = let d = one_down e es p in let u = one_up e es p in omega (arith, ints)

pub rest_of : {X : Type 0} (xs : List X) (i : ℕ) (x : X) → i < length xs → x ≡ get_or xs i x → drop i xs ≡ x ∷ drop (i + 1) xs
rest_of {X} xs i x h e =
    let k : drop i xs ≡ get_or xs i x ∷ drop (i + 1) xs = rw add-one (drop-cons xs i x h) in
    k ∙ ap (λ (y : X). y ∷ drop (i + 1) xs) (sym e)

pub path_step : (from to : Position) (cs : List Position) (i : ℕ) (p : Position) → i < length cs → to ≡ get_or cs i to
    → winding (path_edges from (drop i cs)) p ≡ direction (record { a = from; b = to }) p +ℤ winding (path_edges to (drop (i + 1) cs)) p
path_step from to cs i p h e =
    let k : drop i cs ≡ to ∷ drop (i + 1) cs = rest_of cs i to h e in
    rw k (winding-cons (record { a = from; b = to }) (path_edges to (drop (i + 1) cs)) p)

pub none_left : {X : Type 0} (xs : List X) (i : ℕ) → length xs ≤ i → drop i xs ≡ []
none_left {X} [] zero h = refl
none_left {X} [] (suc i) h = refl
none_left {X} (x ∷ xs) zero h = absurd (omega arith)
none_left {X} (x ∷ xs) (suc i) h = none_left xs i (omega arith)

pub end_step : (from to : Position) (cs : List Position) (i : ℕ) → i < length cs → to ≡ get_or cs i to → path_end from (drop i cs) ≡ path_end to (drop (i + 1) cs)
end_step from to cs i h e = ap (path_end from) (rest_of cs i to h e)

pub path_closed : (a b : Position) (cs : List Position) (p : Position) → winding (path_edges a (cs ++ b ∷ [])) p ≡ winding (path_edges a cs) p +ℤ direction (record { a = path_end a cs; b = b }) p
path_closed a b [] p = let w = winding-cons (record { a = a; b = b }) [] p in omega (arith, ints)
path_closed a b (c ∷ cs) p =
    let i = path_closed c b cs p in
    let w = winding-cons (record { a = a; b = c }) (path_edges c (cs ++ b ∷ [])) p in
    let v = winding-cons (record { a = a; b = c }) (path_edges c cs) p in
    omega (arith, ints)

pub winding-ring : (ring : List Position) (rest : List (List Position)) (p : Position) → winding (polygon_edges (ring ∷ rest)) p ≡ winding (ring_edges ring) p +ℤ winding (polygon_edges rest) p
winding-ring ring rest p = let d = downs-ring ring rest p in let u = ups-ring ring rest p in omega (arith, ints)

pub nothing_yet : (z : ℤ) → z -ℤ z ≡ pos 0
nothing_yet z = omega (arith, ints)

pub one_more : (whole before after d : ℤ) → before ≡ d +ℤ after → whole -ℤ after ≡ (whole -ℤ before) +ℤ d
one_more whole before after d e = omega (arith, ints)

pub nothing_left : (whole rest : ℤ) → rest ≡ pos 0 → whole -ℤ rest ≡ whole
nothing_left whole rest e = omega (arith, ints)

pub ring_closed : (ring : List Position) (first last : Position) (rest : List Position) → ring ≡ first ∷ rest → last ≡ path_end first rest
    → (p : Position) → winding (ring_edges ring) p ≡ winding (path_edges first rest) p +ℤ direction (record { a = last; b = first }) p
ring_closed ring first last rest is end p =
    ap (λ (r : List Position). winding (ring_edges r) p) is ∙ path_closed first first rest p ∙ ap (λ (q : Position). winding (path_edges first rest) p +ℤ direction (record { a = q; b = first }) p) (sym end)
