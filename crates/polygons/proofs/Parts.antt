-- The columns of parts, which are changed one part after another.
use Rattle.std.proofs.Common.{◌≡◌, inl, inr, refl, sym, subst, ap, ◌∙◌, arith, ℕ, zero, suc, ◌+◌, ◌-◌, ◌*◌, ◌/◌, ◌<◌, ◌≤◌, List, [], ◌++◌, length, take, drop, slice_index, ℤ}
use Rattle.std.proofs.lemmas.Bool.{cases_eq, cases_lt}
use Rattle.std.proofs.lemmas.List.{length-append, length-take, length-drop, take-append-drop, take-append-le, drop-append-le, drop-drop, get_or-take, get_or-drop, get_or_past}
use Rattle.std.proofs.lemmas.Slice.{drop-append-drop}
use Rattle.std.proofs.Math.Nat.{div-mul-le_self, lt-div-mul-add, lt_of_mul-lt-mul_right}
use Rattle.std.proofs.Math.Seq.{drop-append_seam, drop-append-add, take-append_seam}
use Rattle.grid.specs.Position.{Position}
use Rattle.grid.specs.Samples.{parts_of}
use Rattle.polygons.specs.declared.cells.Cells.{Cells}
use Rattle.polygons.specs.declared.rule.Rule.{Rule}
use Rattle.polygons.specs.declared.rule.Rule.TheVariants.{EvenOdd, NonZero}
use Rattle.polygons.specs.declared.strip.Strip.{Strip}
use Rattle.polygons.specs.ManyRows.{row_of}
use Rattle.polygons.specs.Cells.{flags_by, part_columns, HasCounters, AreZeros, IsPlotted}
use Rattle.polygons.specs.Plotting.{AreSame, IsPlottedIn, IsPartPlotted, ArePlotted, HasParts}
use Rattle.polygons.proofs.Plotted.{part_moved, all_same, same_both}

-- ---- a part of a list that is put back changed
-- the list with this part from place a on, in place of n elements
abbrev pub put : {X : Type 0} → List X → List X → ℕ → ℕ → List X
put xs part a n = take a xs ++ (part ++ drop n (drop a xs))

early : {X : Type 0} (xs ys : List X) (b n : ℕ) → b + n ≤ length xs → take n (drop b (xs ++ ys)) ≡ take n (drop b xs)
early xs ys b n h =
    ap (take n) (drop-append-le b xs ys (omega (arith, h))) ∙ take-append-le n (drop b xs) ys (omega (arith, h, length-drop b xs))

module _ {X : Type 0} (xs part : List X) (a n : ℕ) (room : a + n ≤ length xs) (long : length part ≡ n) where
  short : length (take a xs) ≡ a
  short = omega (arith, length-take a xs, room)

  pub put_long : length (put xs part a n) ≡ length xs
  put_long =
      omega (arith, room, long, short, length-append (take a xs) (part ++ drop n (drop a xs)), length-append part (drop n (drop a xs)), length-drop n (drop a xs), length-drop a xs)

  put_in : take n (drop a (put xs part a n)) ≡ part
  put_in =
      let behind : drop a (put xs part a n) ≡ part ++ drop n (drop a xs) = subst (λ k. drop k (put xs part a n) ≡ part ++ drop n (drop a xs)) short (drop-append_seam (take a xs) (part ++ drop n (drop a xs))) in
      ap (take n) behind ∙ subst (λ k. take k (part ++ drop n (drop a xs)) ≡ part) long (take-append_seam part (drop n (drop a xs)))

  put_before : (b m : ℕ) → b + m ≤ a → take m (drop b (put xs part a n)) ≡ take m (drop b xs)
  put_before b m h =
      let small : b + m ≤ length (take a xs) = omega (arith, h, short) in
      early (take a xs) (part ++ drop n (drop a xs)) b m small ∙ sym (early (take a xs) (drop a xs) b m small) ∙ ap (λ (ys : List X). take m (drop b ys)) (take-append-drop a xs)

  put_behind : (b m : ℕ) → a + n ≤ b → take m (drop b (put xs part a n)) ≡ take m (drop b xs)
  put_behind b m h =
      let at : length (take a xs) + (b - a) ≡ b = omega (arith, h, short) in
      let there : a + (b - a) ≡ b = omega (arith, h) in
      ap (take m)
      (ap (λ k. drop k (put xs part a n)) (sym at)
      ∙ drop-append-add (take a xs) (part ++ drop n (drop a xs)) (b - a)
      ∙ drop-append-drop n (drop a xs) part (b - a) (omega (arith, h)) long
      ∙ drop-drop (b - a) a xs
      ∙ ap (λ k. drop k xs) there)

pub put_same : {X : Type 0} (xs : List X) (a n : ℕ) → put xs (take n (drop a xs)) a n ≡ xs
put_same xs a n = ap (λ ys. take a xs ++ ys) (take-append-drop n (drop a xs)) ∙ take-append-drop a xs

-- ---- the columns of a part
pub part_room : (part parts n : ℕ) → part < parts → part * n + n ≤ parts * n
part_room part parts n h = grind arith

module _ (cells new : List (List ℕ)) (part n a m : ℕ) (at : a ≡ part * n) (is : m ≡ n) (room : part * n + n ≤ length cells) (long : length new ≡ n) where
  pub put_part : part_columns (put cells new a m) n part ≡ new
  put_part = rw (at, is) (put_in cells new (part * n) n room long)

  pub put_other : (j : ℕ) → (j ≡ part → ⊥) → part_columns (put cells new a m) n j ≡ part_columns cells n j
  put_other j other = elim (cases_lt j part) [
    | inl less ↦ rw (at, is) (put_before cells new (part * n) n room long (j * n) n (part_room j part n less))
    | inr more ↦ rw (at, is) (put_behind cells new (part * n) n room long (j * n) n (part_room part j n (omega (arith, more, other))))
  ]

pub part_long : (cells : List (List ℕ)) (n part parts : ℕ) → part < parts → parts * n ≤ length cells → length (part_columns cells n part) ≡ n
part_long cells n part parts h room = omega (arith, length-take n (drop (part * n) cells), length-drop (part * n) cells, part_room part parts n h, room)

pub row_in_part : (cells : List (List ℕ)) (n part column : ℕ) → column < n → row_of (part_columns cells n part) column ≡ row_of cells (part * n + column)
row_in_part cells n part column h = get_or-take n (drop (part * n) cells) column [] h ∙ get_or-drop (part * n) cells column []

pub zero_part : (cells : List (List ℕ)) (n part : ℕ) → AreZeros cells → AreZeros (part_columns cells n part)
zero_part cells n part h column i = elim (cases_lt column n) [
  | inl less ↦ ap (λ (row : List ℕ). slice_index row i) (row_in_part cells n part column less) ∙ h (part * n + column) i
  | inr past ↦ ap (λ (row : List ℕ). slice_index row i) (get_or_past (part_columns cells n part) column [] (omega (arith, past, length-take n (drop (part * n) cells))))
]

pub all_zeros : (cells : List (List ℕ)) (n parts : ℕ) → length cells ≡ parts * n → ((part : ℕ) → part < parts → AreZeros (part_columns cells n part)) → AreZeros cells
all_zeros cells n parts long zeros column i = elim (cases_lt column (parts * n)) [
  | inl less ↦ inside (some n less) less
  | inr past ↦ ap (λ (row : List ℕ). slice_index row i) (get_or_past cells column [] (omega (arith, past, long)))
]
  where
    some : (n : ℕ) → column < parts * n → 0 < n
    some zero less = absurd (let none : parts * 0 ≡ 0 = grind arith in omega (arith, less, none))
    some (suc n) less = omega arith

    inside : 0 < n → column < parts * n → slice_index (row_of cells column) i ≡ 0
    inside positive less =
        let part : ℕ = column / n in
        let low = div-mul-le_self column n in
        let high : column < part * n + n = lt-div-mul-add positive in
        let at : part * n + (column - part * n) ≡ column = omega (arith, low) in
        let narrow : column - part * n < n = omega (arith, low, high) in
        let few : part < parts = lt_of_mul-lt-mul_right n (omega (arith, low, less)) in
        ap (λ k. slice_index (row_of cells k) i) (sym at) ∙ ap (λ (row : List ℕ). slice_index row i) (sym (row_in_part cells n part (column - part * n) narrow)) ∙ zeros part few (column - part * n) i

-- a part that is put back changed, of cells
pub part_put : (strip : Strip) (part : ℕ) (change : Position → ℤ) (old new : Cells) (f c : List (List ℕ)) (a m b n : ℕ) → part < parts_of strip.count → HasParts strip old → a ≡ part * old.flagged → m ≡ old.flagged → b ≡ part * old.counted → n ≡ old.counted
    → new.flags.now ≡ put old.flags.now f a m → new.counters.now ≡ put old.counters.now c b n → IsPlotted old.rule strip part change (take m (drop a old.flags.now)) (take n (drop b old.counters.now)) f c
    → new.rule ≡ old.rule → new.columns ≡ old.columns → new.flagged ≡ old.flagged → new.counted ≡ old.counted → new.flags.ghost_name ≡ old.flags.ghost_name → new.counters.ghost_name ≡ old.counters.ghost_name → IsPartPlotted strip part change old new
part_put strip part change old new f c a m b n h room at is bt js flags counters q rule columns flagged counted flags_name counters_name =
    let p : IsPlotted old.rule strip part change (part_columns old.flags.now old.flagged part) (part_columns old.counters.now old.counted part) f c = rw (at, is, bt, js) at q in
    let parts = parts_of strip.count in
    let f_room : part * old.flagged + old.flagged ≤ length old.flags.now = omega (arith, part_room part parts old.flagged h, room.flags) in
    let c_room : part * old.counted + old.counted ≤ length old.counters.now = omega (arith, part_room part parts old.counted h, room.counters) in
    let f_long : length f ≡ old.flagged = p.flags_len ∙ part_long old.flags.now old.flagged part parts h room.flags in
    let c_long : length c ≡ old.counted = p.counters_len ∙ part_long old.counters.now old.counted part parts h room.counters in
    let f_is : part_columns new.flags.now old.flagged part ≡ f = ap (λ xs. part_columns xs old.flagged part) flags ∙ put_part old.flags.now f part old.flagged a m at is f_room f_long in
    let c_is : part_columns new.counters.now old.counted part ≡ c = ap (λ xs. part_columns xs old.counted part) counters ∙ put_part old.counters.now c part old.counted b n bt js c_room c_long in
    record {
      here = subst (λ xs. IsPlotted old.rule strip part change (part_columns old.flags.now old.flagged part) (part_columns old.counters.now old.counted part) xs (part_columns new.counters.now old.counted part)) (sym f_is)
          (subst (λ xs. IsPlotted old.rule strip part change (part_columns old.flags.now old.flagged part) (part_columns old.counters.now old.counted part) f xs) (sym c_is) p);
      flags = λ j other. ap (λ xs. part_columns xs old.flagged j) flags ∙ put_other old.flags.now f part old.flagged a m at is f_room f_long j other;
      counters = λ j other. ap (λ xs. part_columns xs old.counted j) counters ∙ put_other old.counters.now c part old.counted b n bt js c_room c_long j other;
      same = record {
        rule = rule;
        columns = columns;
        flagged = flagged;
        counted = counted;
        flags = flags_name;
        counters = counters_name;
        flags_len = ap length flags ∙ rw (at, is) (put_long old.flags.now f (part * old.flagged) old.flagged f_room f_long);
        counters_len = ap length counters ∙ rw (bt, js) (put_long old.counters.now c (part * old.counted) old.counted c_room c_long);
      };
    }

pub part_unchanged : (strip : Strip) (part : ℕ) (change : Position → ℤ) (a : Cells) → IsPlottedIn strip change a a part → IsPartPlotted strip part change a a
part_unchanged strip part change a p = record { here = p; flags = λ j h. refl; counters = λ j h. refl; same = all_same a }

-- by the nonzero rule a part has its columns of counters
pub part_counted : (strip : Strip) (part : ℕ) (a : Cells) (n m : ℕ) → part < parts_of strip.count → HasParts strip a → n ≡ a.flagged → m ≡ a.counted
    → HasCounters a.rule (take n (drop (part * a.flagged) a.flags.now)) (take m (drop (part * a.counted) a.counters.now))
part_counted strip part a n m h room is js = rw (is, js) (by_rule a.rule a.all_flags a.all_counters)
  where
    by_rule : (rule : Rule) → a.flagged ≡ flags_by rule * a.columns → (rule ≡ NonZero → a.counted ≡ a.columns) → HasCounters rule (part_columns a.flags.now a.flagged part) (part_columns a.counters.now a.counted part)
    by_rule EvenOdd flags counters = tt
    by_rule NonZero flags counters =
        let f = part_long a.flags.now a.flagged part (parts_of strip.count) h room.flags in
        let c = part_long a.counters.now a.counted part (parts_of strip.count) h room.counters in
        omega (arith, f, c, flags, counters refl)

-- ---- the parts of a strip, one after another
-- what holds once the first n of them are done
pub record ArePartsPlotted (strip : Strip) (change : Position → ℤ) (n : ℕ) (old new : Cells) : Type 0 where
  pub done : (part : ℕ) → part < n → part < parts_of strip.count → IsPlottedIn strip change old new part
  pub flags : (part : ℕ) → n ≤ part → part_columns new.flags.now old.flagged part ≡ part_columns old.flags.now old.flagged part
  pub counters : (part : ℕ) → n ≤ part → part_columns new.counters.now old.counted part ≡ part_columns old.counters.now old.counted part
  pub same : AreSame old new

pub no_parts : (strip : Strip) (change : Position → ℤ) (a : Cells) → ArePartsPlotted strip change 0 a a
no_parts strip change a = record { done = λ part h. absurd (omega arith); flags = λ part h. refl; counters = λ part h. refl; same = all_same a }

module _ (strip : Strip) (change : Position → ℤ) (n : ℕ) (old mid new : Cells) (v : ArePartsPlotted strip change n old mid) (p : IsPartPlotted strip n change mid new) where
  flags_kept : (j : ℕ) → (j ≡ n → ⊥) → part_columns new.flags.now old.flagged j ≡ part_columns mid.flags.now old.flagged j
  flags_kept j other = rw (v.same.flagged) at (p.flags j other)

  counters_kept : (j : ℕ) → (j ≡ n → ⊥) → part_columns new.counters.now old.counted j ≡ part_columns mid.counters.now old.counted j
  counters_kept j other = rw (v.same.counted) at (p.counters j other)

  here : IsPlottedIn strip change old new n
  here =
      subst (λ (f : List (List ℕ)). IsPlotted old.rule strip n change f (part_columns old.counters.now old.counted n) (part_columns new.flags.now old.flagged n) (part_columns new.counters.now old.counted n)) (v.flags n (omega arith))
      (subst (λ (c : List (List ℕ)). IsPlotted old.rule strip n change (part_columns mid.flags.now old.flagged n) c (part_columns new.flags.now old.flagged n) (part_columns new.counters.now old.counted n)) (v.counters n (omega arith))
      (part_moved old.rule strip n change mid.rule old.flagged mid.flagged old.counted mid.counted mid.flags.now mid.counters.now new.flags.now new.counters.now v.same.rule v.same.flagged v.same.counted p.here))

  before : (part : ℕ) → (part ≡ n → ⊥) → IsPlottedIn strip change old mid part → IsPlottedIn strip change old new part
  before part other q =
      subst (λ (f : List (List ℕ)). IsPlotted old.rule strip part change (part_columns old.flags.now old.flagged part) (part_columns old.counters.now old.counted part) f (part_columns new.counters.now old.counted part)) (sym (flags_kept part other))
      (subst (λ (c : List (List ℕ)). IsPlotted old.rule strip part change (part_columns old.flags.now old.flagged part) (part_columns old.counters.now old.counted part) (part_columns mid.flags.now old.flagged part) c) (sym (counters_kept part other)) q)

  pub one_part_more : ArePartsPlotted strip change (n + 1) old new
  one_part_more = record {
    done = λ part h l. elim (cases_eq part n) [
      | inl e ↦ subst (IsPlottedIn strip change old new) (sym e) here
      | inr other ↦ before part other (v.done part (omega (arith, h, other)) l)
    ];
    flags = λ part h. flags_kept part (λ e. omega (arith, e, h)) ∙ v.flags part (omega (arith, h));
    counters = λ part h. counters_kept part (λ e. omega (arith, e, h)) ∙ v.counters part (omega (arith, h));
    same = same_both old mid new v.same p.same;
  }

pub all_parts : (strip : Strip) (change : Position → ℤ) (n : ℕ) (old new : Cells) → parts_of strip.count ≤ n → ArePartsPlotted strip change n old new → ArePlotted strip change old new
all_parts strip change n old new all v = record { plotted = λ part h. v.done part (omega (arith, all, h)) h; same = v.same }
