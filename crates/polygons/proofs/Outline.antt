-- Cells that share edges: the sums over all cells, and what they leave for each.
use Rattle.std.proofs.Common.{◌≡◌, ◌↔◌, ◌⊎◌, inl, inr, refl, sym, ap, ◌∙◌, arith, ℕ, ◌+◌, ◌%◌, Bool, true, false, cond, eqb, not, List, [], ◌∷◌, ◌++◌, map, ℤ, pos, ◌+ℤ◌, ◌≤ℤ◌, IsTrue}
use Rattle.std.proofs.lemmas.Bool.{eqb-true, eq-eqb}
use Rattle.std.proofs.lemmas.Bool.Decides.{eqb_tells}
use Rattle.std.proofs.lemmas.Int.{ints}
use Rattle.std.proofs.lemmas.List.Sums.{sum_by-cons}
use Rattle.std.proofs.lemmas.List.Concat.{flat_map-cons}
use Rattle.std.proofs.lemmas.List.Elements.{All-head, All-tail}
use Rattle.grid.specs.Position.{Position}
use Rattle.polygons.specs.declared.edge.Edge.{Edge}
use Rattle.polygons.specs.declared.rule.Rule.{Rule}
use Rattle.polygons.specs.declared.rule.Rule.TheVariants.{EvenOdd, NonZero}
use Rattle.polygons.specs.Crossing.{is_crossed_down, is_crossed_up, downs, ups, crossings, winding, is_inside, IsInside}
use Rattle.polygons.specs.Laws.{reversed}
use Rattle.polygons.specs.Partition.{all_edges, covering, AreSameEdges, IsOutline, IsFitted, HasParityOf, WindForwards, IsPartition}
use Rattle.polygons.proofs.Cancel.{opposite, one_down, one_up, reversed_downs, reversed_ups}
use Rattle.polygons.proofs.Counts.{downs-append, ups-append}
use Rattle.polygons.proofs.Cuts.{winding-same, parity-same_winding}
use Rattle.polygons.proofs.Triangle.{at_most_or_over}

-- ---- the test is the definition
same_truth : (b : Bool) (P : Type 0) (c : Bool) → (IsTrue b ↔ P) → (IsTrue c ↔ P) → b ≡ c
same_truth true P true h k = refl
same_truth true P false h k = sym (k.1 (h.0 refl))
same_truth false P true h k = h.1 (k.0 refl)
same_truth false P false h k = refl

pub inside_is_true : (rule : Rule) (es : List Edge) (p : Position) → IsTrue (is_inside rule es p) ↔ IsInside rule es p
inside_is_true EvenOdd es p = (λ h. eqb-true (crossings es p % 2) 1 h, λ h. eq-eqb (crossings es p % 2) 1 h)
inside_is_true NonZero es p = elim (eqb_tells (downs es p) (ups es p)) [
  | inl t ↦ let e = t.0 in let same = t.1 in (λ h. absurd (no (eqb (downs es p) (ups es p)) h e), λ n. absurd (n (omega (arith, ints))))
  | inr t ↦ let e = t.0 in let other = t.1 in (λ h k. other (omega (arith, ints)), λ n. yes (eqb (downs es p) (ups es p)) e)
]
  where
    no : (b : Bool) → not b ≡ true → b ≡ true → ⊥
    no true h e = cc
    no false h e = cc

    yes : (b : Bool) → b ≡ false → not b ≡ true
    yes true e = cc
    yes false e = refl

pub truth_of : (rule : Rule) (es : List Edge) (p : Position) (b : Bool) → (IsTrue b ↔ IsInside rule es p) → b ≡ is_inside rule es p
truth_of rule es p b h = same_truth b (IsInside rule es p) (is_inside rule es p) h (inside_is_true rule es p)

-- ---- one cell more
covering-cons : (rule : Rule) (es : List Edge) (cells : List (List Edge)) (p : Position) → covering rule (es ∷ cells) p ≡ cond (is_inside rule es p) 1 0 + covering rule cells p
covering-cons rule es cells p = sum_by-cons (λ fs. cond (is_inside rule fs p) 1 0) es cells

downs-cell : (es : List Edge) (cells : List (List Edge)) (p : Position) → downs (all_edges (es ∷ cells)) p ≡ downs es p + downs (all_edges cells) p
downs-cell es cells p = rw (flat_map-cons (λ (fs : List Edge). fs) es cells) (downs-append es (all_edges cells) p)

ups-cell : (es : List Edge) (cells : List (List Edge)) (p : Position) → ups (all_edges (es ∷ cells)) p ≡ ups es p + ups (all_edges cells) p
ups-cell es cells p = rw (flat_map-cons (λ (fs : List Edge). fs) es cells) (ups-append es (all_edges cells) p)

-- ---- parities
odd_is : (n : ℕ) → cond {A = ℕ} (eqb (n % 2) 1) 1 0 ≡ n % 2
odd_is n = elim (eqb_tells (n % 2) 1) [
  | inl t ↦ let e = t.0 in let one = t.1 in rw e (sym one)
  | inr t ↦ let e = t.0 in let other = t.1 in rw e (omega arith)
]

cells_parity : (cells : List (List Edge)) (p : Position) → covering EvenOdd cells p % 2 ≡ crossings (all_edges cells) p % 2
cells_parity [] p = refl
cells_parity (es ∷ cells) p =
    let c = covering-cons EvenOdd es cells p in
    let o = odd_is (crossings es p) in
    let d = downs-cell es cells p in
    let u = ups-cell es cells p in
    let i = cells_parity cells p in
    parity_sum (covering EvenOdd (es ∷ cells) p) (cond (is_inside EvenOdd es p) 1 0) (covering EvenOdd cells p) (crossings es p) (crossings (all_edges cells) p) (crossings (all_edges (es ∷ cells)) p) c o i (omega arith)
  where
    parity_sum : (n b m k l a : ℕ) → n ≡ b + m → b ≡ k % 2 → m % 2 ≡ l % 2 → a ≡ k + l → n % 2 ≡ a % 2
    parity_sum n b m k l a e f g h = omega arith

same_crossings : (es fs : List Edge) (p : Position) → AreSameEdges es fs → crossings es p ≡ crossings fs p
same_crossings [] [] p h = refl
same_crossings [] (f ∷ fs) p h = absurd h
same_crossings (e ∷ es) [] p h = absurd h
same_crossings (e ∷ es) (f ∷ fs) p h =
    let i = same_crossings es fs p h.1 in
    let d = one_down e es p in let u = one_up e es p in
    let d' = one_down f fs p in let u' = one_up f fs p in
    elim h.0 [
      | inl same ↦
          let x : cond {A = ℕ} (is_crossed_down f p) 1 0 ≡ cond {A = ℕ} (is_crossed_down e p) 1 0 = ap (λ (g : Edge). cond {A = ℕ} (is_crossed_down g p) 1 0) same in
          let y : cond {A = ℕ} (is_crossed_up f p) 1 0 ≡ cond {A = ℕ} (is_crossed_up e p) 1 0 = ap (λ (g : Edge). cond {A = ℕ} (is_crossed_up g p) 1 0) same in
          omega arith
      | inr other ↦
          let o = opposite e p in
          let x : cond {A = ℕ} (is_crossed_down f p) 1 0 ≡ cond {A = ℕ} (is_crossed_up e p) 1 0 =
          ap (λ (g : Edge). cond {A = ℕ} (is_crossed_down g p) 1 0) other ∙ ap (λ (b : Bool). cond {A = ℕ} b 1 0) o.down in
          let y : cond {A = ℕ} (is_crossed_up f p) 1 0 ≡ cond {A = ℕ} (is_crossed_down e p) 1 0 =
          ap (λ (g : Edge). cond {A = ℕ} (is_crossed_up g p) 1 0) other ∙ ap (λ (b : Bool). cond {A = ℕ} b 1 0) o.up in
          omega arith
    ]

pub parity_of_outline : (outline : List Edge) (cells : List (List Edge)) (p : Position) → IsOutline outline cells p → HasParityOf outline cells p
parity_of_outline outline cells p h =
    let both = outline ++ (h.shared ++ h.again) in
    let c = cells_parity cells p in
    let b = parity-same_winding both (all_edges cells) p (winding-same both (all_edges cells) p h.edges) in
    let d1 = downs-append outline (h.shared ++ h.again) p in
    let d2 = downs-append h.shared h.again p in
    let u1 = ups-append outline (h.shared ++ h.again) p in
    let u2 = ups-append h.shared h.again p in
    let s = same_crossings h.shared h.again p h.same in
    c ∙ sym b ∙ twice (crossings both p) (crossings outline p) (crossings h.shared p) (omega arith)
  where
    twice : (a o s : ℕ) → a ≡ o + (s + s) → a % 2 ≡ o % 2
    twice a o s e = omega arith

-- ---- cells that fit
winding-fitted : (outline : List Edge) (cells : List (List Edge)) (p : Position) → IsFitted outline cells p → winding (all_edges cells) p ≡ winding outline p
winding-fitted outline cells p h =
    let both = h.shared ++ map reversed h.shared in
    let w = winding-same (outline ++ both) (all_edges cells) p h.edges in
    let d1 = downs-append outline both p in
    let d2 = downs-append h.shared (map reversed h.shared) p in
    let u1 = ups-append outline both p in
    let u2 = ups-append h.shared (map reversed h.shared) p in
    let r = reversed_downs h.shared p in
    let s = reversed_ups h.shared p in
    omega (arith, ints)

winding-cell : (es : List Edge) (cells : List (List Edge)) (p : Position) → winding (all_edges (es ∷ cells)) p ≡ winding es p +ℤ winding (all_edges cells) p
winding-cell es cells p =
    let d = downs-cell es cells p in
    let u = ups-cell es cells p in
    omega (arith, ints)

wind_forwards : (cells : List (List Edge)) (p : Position) → WindForwards cells p → pos 0 ≤ℤ winding (all_edges cells) p
wind_forwards [] p h = omega (arith, ints)
wind_forwards (es ∷ cells) p h =
    let a = All-head (λ (fs : List Edge). pos 0 ≤ℤ winding fs p) es cells h in
    let b = wind_forwards cells p (All-tail (λ (fs : List Edge). pos 0 ≤ℤ winding fs p) es cells h) in
    let w = winding-cell es cells p in
    omega (arith, ints)

not_inside : (rule : Rule) (es : List Edge) (p : Position) → winding es p ≡ pos 0 → is_inside rule es p ≡ false
not_inside EvenOdd es p h = elim (eqb_tells (crossings es p % 2) 1) [
  | inl t ↦ let one = t.1 in let same : downs es p ≡ ups es p = omega (arith, ints) in absurd (omega arith)
  | inr t ↦ t.0
]
not_inside NonZero es p h =
    let same : eqb (downs es p) (ups es p) ≡ true = eq-eqb (downs es p) (ups es p) (omega (arith, ints)) in
    ap not same

is_inside_once : (rule : Rule) (es : List Edge) (p : Position) → winding es p ≡ pos 1 → is_inside rule es p ≡ true
is_inside_once EvenOdd es p h =
    let more : downs es p ≡ ups es p + 1 = omega (arith, ints) in
    eq-eqb (crossings es p % 2) 1 (omega arith)
is_inside_once NonZero es p h = elim (eqb_tells (downs es p) (ups es p)) [
  | inl t ↦ let same = t.1 in absurd (omega (arith, ints))
  | inr t ↦ ap not t.0
]

covered_by_none : (rule : Rule) (cells : List (List Edge)) (p : Position) → WindForwards cells p → winding (all_edges cells) p ≡ pos 0 → covering rule cells p ≡ 0
covered_by_none rule [] p h k = refl
covered_by_none rule (es ∷ cells) p h k =
    let rest = All-tail (λ (fs : List Edge). pos 0 ≤ℤ winding fs p) es cells h in
    let a = All-head (λ (fs : List Edge). pos 0 ≤ℤ winding fs p) es cells h in
    let b = wind_forwards cells p rest in
    let w = winding-cell es cells p in
    let out = not_inside rule es p (omega (arith, ints)) in
    let c = covering-cons rule es cells p in
    let i = covered_by_none rule cells p rest (omega (arith, ints)) in
    let z : cond {A = ℕ} (is_inside rule es p) 1 0 ≡ 0 = rw out refl in
    omega arith

zero_or_one : (a b : ℤ) → pos 0 ≤ℤ a → pos 0 ≤ℤ b → a +ℤ b ≡ pos 1 → ((a ≡ pos 0) × (b ≡ pos 1)) ⊎ ((a ≡ pos 1) × (b ≡ pos 0))
zero_or_one a b h k e = elim (at_most_or_over a) [
  | inl l ↦ inl (omega (arith, ints), omega (arith, ints))
  | inr l ↦ inr (omega (arith, ints), omega (arith, ints))
]

covered_by_one : (rule : Rule) (cells : List (List Edge)) (p : Position) → WindForwards cells p → winding (all_edges cells) p ≡ pos 1 → covering rule cells p ≡ 1
covered_by_one rule [] p h k = absurd (omega (arith, ints))
covered_by_one rule (es ∷ cells) p h k =
    let rest = All-tail (λ (fs : List Edge). pos 0 ≤ℤ winding fs p) es cells h in
    let a = All-head (λ (fs : List Edge). pos 0 ≤ℤ winding fs p) es cells h in
    let b = wind_forwards cells p rest in
    let w = winding-cell es cells p in
    let c = covering-cons rule es cells p in
    elim (zero_or_one (winding es p) (winding (all_edges cells) p) a b (sym w ∙ k)) [
      | inl e ↦
          let out = not_inside rule es p e.0 in
          let z : cond {A = ℕ} (is_inside rule es p) 1 0 ≡ 0 = rw out refl in
          let i = covered_by_one rule cells p rest e.1 in
          omega arith
      | inr e ↦
          let in_it = is_inside_once rule es p e.0 in
          let z : cond {A = ℕ} (is_inside rule es p) 1 0 ≡ 1 = rw in_it refl in
          let i = covered_by_none rule cells p rest e.1 in
          omega arith
    ]

pub partition : (rule : Rule) (outline : List Edge) (cells : List (List Edge)) (p : Position) → IsFitted outline cells p → WindForwards cells p → IsPartition rule outline cells p
partition rule outline cells p h k =
    let w = winding-fitted outline cells p h in
    record {
      inside = λ e. covered_by_one rule cells p k (w ∙ e);
      outside = λ e. covered_by_none rule cells p k (w ∙ e);
    }
