-- A strictly convex quad is the polygon of its four corners, and what is inside moves with the edges.
use Rattle.std.proofs.Common.{◌≡◌, ◌⊎◌, ◌↔◌, inl, inr, refl, sym, ap, ◌∙◌, arith, ℕ, ◌+◌, Bool, cond, List, [], ◌∷◌, map, ℤ, pos, ◌+ℤ◌, ◌-ℤ◌}
use Rattle.std.proofs.lemmas.Int.{ints}
use Rattle.std.specs.Int.RustNames.{int_le, int_lt}
use Rattle.std.proofs.lemmas.List.Sums.{sum_by-cons}
use Rattle.grid.specs.Position.{Position}
use Rattle.grid.specs.Edge.{side}
use Rattle.grid.specs.Triangle.{Covers}
use Rattle.grid.specs.Quad.{QuadCovers, SplitsQuad}
use Rattle.grid.proofs.Ring.{Term, var, plus, neg, times, ring}
use Rattle.polygons.specs.declared.edge.Edge.{Edge}
use Rattle.polygons.specs.declared.rule.Rule.{Rule}
use Rattle.polygons.specs.declared.rule.Rule.TheVariants.{EvenOdd, NonZero}
use Rattle.polygons.specs.Crossing.{is_crossed_down, is_crossed_up, downs, ups, IsInsideBy}
use Rattle.polygons.specs.Polygon.{PolygonCovers}
use Rattle.polygons.specs.Laws.{translated, translated_edge, MovesAlong}
use Rattle.polygons.proofs.Cancel.{opposite}
use Rattle.polygons.proofs.Tests.{le_yes, le_no, lt_yes, lt_no}
use Rattle.polygons.proofs.Triangle.{Verdict, upwards, downwards, outside, verdict, down_count, up_count, above_or_not}

-- ---- the quad abcd
abbrev downs_of : Position → Position → Position → ℕ
downs_of a b p = cond (is_crossed_down (record { a = a; b = b }) p) 1 0

abbrev ups_of : Position → Position → Position → ℕ
ups_of a b p = cond (is_crossed_up (record { a = a; b = b }) p) 1 0

abbrev quad_downs : Position → Position → Position → Position → Position → ℕ
quad_downs a b c d p = (((0 + downs_of a b p) + downs_of b c p) + downs_of c d p) + downs_of d a p

abbrev quad_ups : Position → Position → Position → Position → Position → ℕ
quad_ups a b c d p = (((0 + ups_of a b p) + ups_of b c p) + ups_of c d p) + ups_of d a p

-- the diagonal cancels
diagonal : (a c p : Position) → (downs_of a c p ≡ ups_of c a p) × (ups_of a c p ≡ downs_of c a p)
diagonal a c p =
    let o = opposite (record { a = c; b = a }) p in
    (ap (λ (b : Bool). cond {A = ℕ} b 1 0) o.down, ap (λ (b : Bool). cond {A = ℕ} b 1 0) o.up)

-- one more crossing in one direction than in the other, where it is covered, and as many otherwise
abbrev IsEdgeCounted : Type 0 → ℕ → ℕ → Type 0
IsEdgeCounted C d u = (C × ((d + 1 ≡ u) ⊎ (u + 1 ≡ d))) ⊎ ((C → ⊥) × (d ≡ u))

counted_of : (a b c p : Position) (d u : ℕ) → Verdict a b c p d u → IsEdgeCounted (Covers a b c p) d u
counted_of a b c p d u (upwards h e f) = inl (h, inl (omega arith))
counted_of a b c p d u (downwards h e f) = inl (h, inr (omega arith))
counted_of a b c p d u (outside h e) = inr (h, e)

inside_odd : (rule : Rule) (d u : ℕ) → ((d + 1 ≡ u) ⊎ (u + 1 ≡ d)) → IsInsideBy rule (d + u) (pos d -ℤ pos u)
inside_odd EvenOdd d u (inl h) = omega arith
inside_odd EvenOdd d u (inr h) = omega arith
inside_odd NonZero d u (inl h) = λ e. omega (arith, ints)
inside_odd NonZero d u (inr h) = λ e. omega (arith, ints)

outside_even : (rule : Rule) (d u : ℕ) → d ≡ u → IsInsideBy rule (d + u) (pos d -ℤ pos u) → ⊥
outside_even EvenOdd d u h k = omega arith
outside_even NonZero d u h k = k (omega (arith, ints))

-- two parts with k crossings in each direction between them
joined : (rule : Rule) (C E Q : Type 0) (d u d1 u1 d2 u2 k : ℕ) → d + k ≡ d1 + d2 → u + k ≡ u1 + u2 → (Q ↔ (C ⊎ E)) → ((C × E) → ⊥) → IsEdgeCounted C d1 u1 → IsEdgeCounted E d2 u2
    → IsInsideBy rule (d + u) (pos d -ℤ pos u) ↔ Q
joined rule C E Q d u d1 u1 d2 u2 k e f same one (inl x) (inl y) = absurd (one (x.0, y.0))
joined rule C E Q d u d1 u1 d2 u2 k e f same one (inl x) (inr y) =
    (λ l. same.1 (inl x.0), λ l. inside_odd rule d u (elim x.1 [ inl m ↦ let n = y.1 in inl (omega arith) | inr m ↦ let n = y.1 in inr (omega arith) ]))
joined rule C E Q d u d1 u1 d2 u2 k e f same one (inr x) (inl y) =
    (λ l. same.1 (inr y.0), λ l. inside_odd rule d u (elim y.1 [ inl m ↦ let n = x.1 in inl (omega arith) | inr m ↦ let n = x.1 in inr (omega arith) ]))
joined rule C E Q d u d1 u1 d2 u2 k e f same one (inr x) (inr y) =
    (λ l. absurd (outside_even rule d u (let m = x.1 in let n = y.1 in omega arith) l), λ l. elim (same.0 l) [ inl m ↦ absurd (x.0 m) | inr m ↦ absurd (y.0 m) ])

-- A strictly convex quad covers what the polygon of its four corners covers, by either rule.
pub quad_polygon : (rule : Rule) (a b c d p : Position) → SplitsQuad a b c d p → PolygonCovers rule ((a ∷ b ∷ c ∷ d ∷ []) ∷ []) p ↔ QuadCovers a b c d p
quad_polygon rule a b c d p split =
    let x = diagonal a c p in
    joined rule (Covers a b c p) (Covers c d a p) (QuadCovers a b c d p) (quad_downs a b c d p) (quad_ups a b c d p) (down_count a b c p) (up_count a b c p) (down_count c d a p) (up_count c d a p) (downs_of c a p + ups_of c a p)
    (counts (downs_of a b p) (downs_of b c p) (downs_of c d p) (downs_of d a p) (downs_of c a p) (ups_of c a p) (downs_of a c p) x.0)
    (counts' (ups_of a b p) (ups_of b c p) (ups_of c d p) (ups_of d a p) (downs_of c a p) (ups_of c a p) (ups_of a c p) x.1)
    split.same split.one (counted_of a b c p _ _ (verdict a b c p)) (counted_of c d a p _ _ (verdict c d a p))
  where
    counts : (ab bc cd da ca k ac : ℕ) → ac ≡ k → ((((0 + ab) + bc) + cd) + da) + (ca + k) ≡ (((0 + ab) + bc) + ca) + (((0 + cd) + da) + ac)
    counts ab bc cd da ca k ac e = omega arith

    counts' : (ab bc cd da k ca ac : ℕ) → ac ≡ k → ((((0 + ab) + bc) + cd) + da) + (k + ca) ≡ (((0 + ab) + bc) + ca) + (((0 + cd) + da) + ac)
    counts' ab bc cd da k ca ac e = omega arith

-- ---- moving
side-moved : (a b p by : Position) → side (translated by a) (translated by b) (translated by p) ≡ side a b p
unfolding side
side-moved a b p by =
    let less = λ (m n : Term). plus m (neg n) in
    let x = λ (m : Term). plus m (var 6) in
    let y = λ (m : Term). plus m (var 7) in
    ring (a.x ∷ a.y ∷ b.x ∷ b.y ∷ p.x ∷ p.y ∷ by.x ∷ by.y ∷ [])
    (less (times (less (x (var 2)) (x (var 0))) (less (y (var 5)) (y (var 1)))) (times (less (y (var 3)) (y (var 1))) (less (x (var 4)) (x (var 0)))))
    (less (times (less (var 2) (var 0)) (less (var 5) (var 1))) (times (less (var 3) (var 1)) (less (var 4) (var 0)))) refl

le-moved : (x y d : ℤ) → int_le (x +ℤ d) (y +ℤ d) ≡ int_le x y
le-moved x y d = elim (above_or_not y x) [
  | inl h ↦ le_no (x +ℤ d) (y +ℤ d) (omega (arith, ints)) ∙ sym (le_no x y h)
  | inr h ↦ le_yes (x +ℤ d) (y +ℤ d) (omega (arith, ints)) ∙ sym (le_yes x y h)
]

lt-moved : (x y d : ℤ) → int_lt (x +ℤ d) (y +ℤ d) ≡ int_lt x y
lt-moved x y d = elim (above_or_not x y) [
  | inl h ↦ lt_yes (x +ℤ d) (y +ℤ d) (omega (arith, ints)) ∙ sym (lt_yes x y h)
  | inr h ↦ lt_no (x +ℤ d) (y +ℤ d) (omega (arith, ints)) ∙ sym (lt_no x y h)
]

down-moved : (by : Position) (e : Edge) (p : Position) → is_crossed_down (translated_edge by e) (translated by p) ≡ is_crossed_down e p
down-moved by e p = rw (le-moved e.a.y p.y by.y, lt-moved p.y e.b.y by.y, side-moved e.a e.b p by) refl

up-moved : (by : Position) (e : Edge) (p : Position) → is_crossed_up (translated_edge by e) (translated by p) ≡ is_crossed_up e p
up-moved by e p = rw (le-moved e.b.y p.y by.y, lt-moved p.y e.a.y by.y, side-moved e.a e.b p by) refl

one_down : (e : Edge) (es : List Edge) (p : Position) → downs (e ∷ es) p ≡ cond (is_crossed_down e p) 1 0 + downs es p
one_down e es p = sum_by-cons (λ f. cond (is_crossed_down f p) 1 0) e es

one_up : (e : Edge) (es : List Edge) (p : Position) → ups (e ∷ es) p ≡ cond (is_crossed_up e p) 1 0 + ups es p
one_up e es p = sum_by-cons (λ f. cond (is_crossed_up f p) 1 0) e es

downs-moved : (by : Position) (es : List Edge) (p : Position) → downs (map (translated_edge by) es) (translated by p) ≡ downs es p
downs-moved by [] p = refl
downs-moved by (e ∷ es) p =
    let o : cond {A = ℕ} (is_crossed_down (translated_edge by e) (translated by p)) 1 0 ≡ cond {A = ℕ} (is_crossed_down e p) 1 0 = ap (λ (b : Bool). cond {A = ℕ} b 1 0) (down-moved by e p) in
    let i = downs-moved by es p in
    let c = one_down (translated_edge by e) (map (translated_edge by) es) (translated by p) in
    let d = one_down e es p in
    omega arith

ups-moved : (by : Position) (es : List Edge) (p : Position) → ups (map (translated_edge by) es) (translated by p) ≡ ups es p
ups-moved by [] p = refl
ups-moved by (e ∷ es) p =
    let o : cond {A = ℕ} (is_crossed_up (translated_edge by e) (translated by p)) 1 0 ≡ cond {A = ℕ} (is_crossed_up e p) 1 0 = ap (λ (b : Bool). cond {A = ℕ} b 1 0) (up-moved by e p) in
    let i = ups-moved by es p in
    let c = one_up (translated_edge by e) (map (translated_edge by) es) (translated by p) in
    let d = one_up e es p in
    omega arith

pub moves_along : (rule : Rule) (by : Position) (es : List Edge) (p : Position) → MovesAlong rule by es p
moves_along EvenOdd by es p = let d = downs-moved by es p in let u = ups-moved by es p in (λ h. omega arith, λ h. omega arith)
moves_along NonZero by es p = let d = downs-moved by es p in let u = ups-moved by es p in (λ h e. h (omega (arith, ints)), λ h e. h (omega (arith, ints)))
