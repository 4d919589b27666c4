-- Crossings add, and an edge and its reverse cancel.
use Rattle.std.proofs.Common.{◌≡◌, ◌↔◌, refl, ap, arith, ℕ, ◌+◌, Bool, cond, List, [], ◌∷◌, ◌++◌, map, ℤ, pos, ◌+ℤ◌}
use Rattle.std.proofs.lemmas.Int.{ints}
use Rattle.std.specs.Int.RustNames.{int_le}
use Rattle.grid.specs.Position.{Position}
use Rattle.grid.specs.Edge.{side}
use Rattle.grid.proofs.Identities.{side-reversed}
use Rattle.polygons.specs.declared.edge.Edge.{Edge}
use Rattle.polygons.specs.declared.rule.Rule.{Rule}
use Rattle.polygons.specs.declared.rule.Rule.TheVariants.{EvenOdd, NonZero}
use Rattle.polygons.specs.Crossing.{is_crossed_down, is_crossed_up, downs, ups, IsInside}
use Rattle.polygons.specs.Laws.{reversed, CrossingsAdd, AreOpposite, SharedEdgesCancel}
use Rattle.std.proofs.lemmas.List.Sums.{sum_by-cons}
use Rattle.polygons.proofs.Counts.{downs-append, ups-append}

pub one_down : (e : Edge) (es : List Edge) (p : Position) → downs (e ∷ es) p ≡ cond (is_crossed_down e p) 1 0 + downs es p
one_down e es p = sum_by-cons (λ f. cond (is_crossed_down f p) 1 0) e es

pub one_up : (e : Edge) (es : List Edge) (p : Position) → ups (e ∷ es) p ≡ cond (is_crossed_up e p) 1 0 + ups es p
one_up e es p = sum_by-cons (λ f. cond (is_crossed_up f p) 1 0) e es

pub crossings_add : (es fs : List Edge) (p : Position) → CrossingsAdd es fs p
crossings_add es fs p =
    let d = downs-append es fs p in
    let u = ups-append es fs p in
    record { crossings = omega (arith, d, u); winding = omega (arith, ints, d, u) }

le_neg : (x y : ℤ) → x +ℤ y ≡ pos 0 → int_le x (pos 0) ≡ int_le (pos 0) y
le_neg x y h = grind (arith, ints)

pub opposite : (e : Edge) (p : Position) → AreOpposite (reversed e) e p
opposite e p =
    let r = side-reversed e.a e.b p in
    let l = le_neg (side e.b e.a p) (side e.a e.b p) (omega (arith, ints)) in
    let m = le_neg (side e.a e.b p) (side e.b e.a p) (omega (arith, ints)) in
    record { down = rw l refl; up = rw m refl }

-- the edges of a list, reversed
pub reversed_downs : (es : List Edge) (p : Position) → downs (map reversed es) p ≡ ups es p
reversed_downs [] p = refl
reversed_downs (e ∷ es) p =
    let o : cond {A = ℕ} (is_crossed_down (reversed e) p) 1 0 ≡ cond {A = ℕ} (is_crossed_up e p) 1 0 = ap (λ (b : Bool). cond {A = ℕ} b 1 0) (opposite e p).down in
    let i = reversed_downs es p in
    let c = one_down (reversed e) (map reversed es) p in
    let d = one_up e es p in
    omega arith

pub reversed_ups : (es : List Edge) (p : Position) → ups (map reversed es) p ≡ downs es p
reversed_ups [] p = refl
reversed_ups (e ∷ es) p =
    let o : cond {A = ℕ} (is_crossed_up (reversed e) p) 1 0 ≡ cond {A = ℕ} (is_crossed_down e p) 1 0 = ap (λ (b : Bool). cond {A = ℕ} b 1 0) (opposite e p).up in
    let i = reversed_ups es p in
    let c = one_up (reversed e) (map reversed es) p in
    let d = one_down e es p in
    omega arith

-- counts that grow alike mean the same
by_rule : (rule : Rule) (es fs : List Edge) (p : Position) (n : ℕ) → downs es p ≡ downs fs p + n → ups es p ≡ ups fs p + n → IsInside rule es p ↔ IsInside rule fs p
by_rule EvenOdd es fs p n h k = (λ l. omega arith, λ l. omega arith)
by_rule NonZero es fs p n h k = (λ l m. l (omega (arith, ints)), λ l m. l (omega (arith, ints)))

pub shared_edges_cancel : (rule : Rule) (first shared second : List Edge) (p : Position) → SharedEdgesCancel rule first shared second p
shared_edges_cancel rule first shared second p =
    let a = downs-append (first ++ shared) (map reversed shared ++ second) p in
    let b = downs-append first shared p in
    let c = downs-append (map reversed shared) second p in
    let d = downs-append first second p in
    let e = ups-append (first ++ shared) (map reversed shared ++ second) p in
    let f = ups-append first shared p in
    let g = ups-append (map reversed shared) second p in
    let h = ups-append first second p in
    let i = reversed_downs shared p in
    let j = reversed_ups shared p in
    by_rule rule ((first ++ shared) ++ (map reversed shared ++ second)) (first ++ second) p (downs shared p + ups shared p) (omega arith) (omega arith)
