-- The first column at which an edge is crossed, and the step from row to row.
use Rattle.std.proofs.Common.{◌≡◌, inl, inr, refl, arith, [], ◌∷◌, ℤ, pos, ◌+ℤ◌, ◌-ℤ◌, ◌*ℤ◌, neg_ℤ, ◌<ℤ◌, ◌≤ℤ◌}
use Rattle.std.proofs.lemmas.Int.{ints}
use Rattle.grid.specs.Position.{Position}
use Rattle.grid.specs.Edge.{side}
use Rattle.grid.proofs.Ring.{Term, var, lit, plus, neg, times, ring}
use Rattle.grid.proofs.Sign.{negative, null, positive, sign, mul_positive, mul_null}
use Rattle.polygons.specs.declared.edge.Edge.{Edge}
use Rattle.polygons.specs.Crossing.{CrossesDown}
use Rattle.polygons.specs.Columns.{along, below, HasHeight, IsFirstColumn, IsAtColumn, IsEdgeStep}
use Rattle.polygons.proofs.Triangle.{under_or_at_least, mul_not_negative}

-- ---- how the edge function changes along a row and from row to row
-- points a, b, p as variables 0 to 5, then k and m
pub side-along : (a b p : Position) (k m : ℤ) → side a b (along p m) ≡ side a b (along p k) -ℤ pos 256 *ℤ ((b.y -ℤ a.y) *ℤ (m -ℤ k))
unfolding side
side-along a b p k m =
    let w = plus (var 2) (neg (var 0)) in
    let h = plus (var 3) (neg (var 1)) in
    let at = λ (t : Term). plus (times w (plus (var 5) (neg (var 1)))) (neg (times h (plus (plus (var 4) (times (lit (pos 256)) t)) (neg (var 0))))) in
    ring (a.x ∷ a.y ∷ b.x ∷ b.y ∷ p.x ∷ p.y ∷ k ∷ m ∷ [])
    (at (var 7))
    (plus (at (var 6)) (neg (times (lit (pos 256)) (times h (plus (var 7) (neg (var 6))))))) refl

pub side-below : (a b p : Position) (k q : ℤ) → side a b (along (below p) (k +ℤ q)) ≡ side a b (along p k) +ℤ pos 256 *ℤ ((b.x -ℤ a.x) -ℤ q *ℤ (b.y -ℤ a.y))
unfolding side
side-below a b p k q =
    let w = plus (var 2) (neg (var 0)) in
    let h = plus (var 3) (neg (var 1)) in
    let at = λ (y t : Term). plus (times w (plus y (neg (var 1)))) (neg (times h (plus (plus (var 4) (times (lit (pos 256)) t)) (neg (var 0))))) in
    ring (a.x ∷ a.y ∷ b.x ∷ b.y ∷ p.x ∷ p.y ∷ k ∷ q ∷ [])
    (at (plus (var 5) (lit (pos 256))) (plus (var 6) (var 7)))
    (plus (at (var 5) (var 6)) (times (lit (pos 256)) (plus w (neg (times (var 7) h))))) refl

-- ---- the column is the first
at_or_after : (s t h d : ℤ) → t ≡ s -ℤ pos 256 *ℤ (h *ℤ d) → s ≤ℤ pos 0 → pos 0 <ℤ h → pos 0 ≤ℤ d → t ≤ℤ pos 0
at_or_after s t h d e hs hh hd = let m = mul_not_negative h d (omega (arith, ints)) hd in omega (arith, ints)

one_more : (h d : ℤ) → h *ℤ d +ℤ h ≡ h *ℤ (d +ℤ pos 1)
one_more h d = ring (h ∷ d ∷ []) (plus (times (var 0) (var 1)) (var 0)) (times (var 0) (plus (var 1) (lit (pos 1)))) refl

negated : (x y : ℤ) → x *ℤ neg_ℤ y ≡ neg_ℤ (x *ℤ y)
negated x y = ring (x ∷ y ∷ []) (times (var 0) (neg (var 1))) (neg (times (var 0) (var 1))) refl

before : (s t h d f : ℤ) → t ≡ s -ℤ pos 256 *ℤ (h *ℤ d) → neg_ℤ s <ℤ (pos 256 *ℤ f +ℤ pos 256) → f <ℤ h → d <ℤ pos 0 → pos 0 <ℤ h → pos 0 <ℤ t
before s t h d f e hs hf hd hh =
    let m = one_more h d in
    let n : (h *ℤ (d +ℤ pos 1)) ≤ℤ pos 0 = by_step (d +ℤ pos 1) (omega (arith, ints)) in
    omega (arith, ints)
  where
    by_step : (z : ℤ) → z ≤ℤ pos 0 → (h *ℤ z) ≤ℤ pos 0
    by_step z k = elim (sign z) [
      | negative l ↦ let o = mul_not_negative h (neg_ℤ z) (omega (arith, ints)) (omega (arith, ints)) in let p = negated h z in omega (arith, ints)
      | null l ↦ let o = mul_null h z l in omega (arith, ints)
      | positive l ↦ absurd (omega (arith, ints))
    ]

pub is_first_column : (e : Edge) (p : Position) (c f : ℤ) → HasHeight e p.y → IsAtColumn e p c f → IsFirstColumn e p c
is_first_column e p c f height at k = (to, from)
  where
    to : CrossesDown e (along p k) → c ≤ℤ k
    to crossed = elim (under_or_at_least (k -ℤ c)) [
      | inl l ↦
          absurd (let m = before (side e.a e.b (along p c)) (side e.a e.b (along p k)) (e.b.y -ℤ e.a.y) (k -ℤ c) f (side-along e.a e.b p c k) at.high at.rest_high l (omega (arith, ints)) in let n = crossed.line in omega (arith, ints))
      | inr l ↦ omega (arith, ints)
    ]

    from : c ≤ℤ k → CrossesDown e (along p k)
    from l = record {
      top = height.top;
      bottom = height.bottom;
      line = at_or_after (side e.a e.b (along p c)) (side e.a e.b (along p k)) (e.b.y -ℤ e.a.y) (k -ℤ c) (side-along e.a e.b p c k) (let m = at.low in let n = at.rest_low in omega (arith, ints)) (omega (arith, ints)) (omega (arith, ints));
    }

-- ---- the step
pub one_column_more : (e : Edge) (p : Position) (c f : ℤ)
    → (pos 256 *ℤ f) ≤ℤ neg_ℤ (side e.a e.b (along p c)) → neg_ℤ (side e.a e.b (along p c)) <ℤ (pos 256 *ℤ f +ℤ pos 256)
    → f <ℤ pos 0 → neg_ℤ (e.b.y -ℤ e.a.y) ≤ℤ f → IsAtColumn e p (c +ℤ pos 1) (f +ℤ (e.b.y -ℤ e.a.y))
one_column_more e p c f low high neg_f over =
    let s = side-along e.a e.b p c (c +ℤ pos 1) in
    let m : (e.b.y -ℤ e.a.y) *ℤ ((c +ℤ pos 1) -ℤ c) ≡ e.b.y -ℤ e.a.y = times_one (e.b.y -ℤ e.a.y) c in
    record { low = omega (arith, ints); high = omega (arith, ints); rest_low = omega (arith, ints); rest_high = omega (arith, ints) }
  where
    times_one : (h c : ℤ) → h *ℤ ((c +ℤ pos 1) -ℤ c) ≡ h
    times_one h c = ring (h ∷ c ∷ []) (times (var 0) (plus (plus (var 1) (lit (pos 1))) (neg (var 1)))) (var 0) refl

-- the place in the next row, before the remainder is made right
pub record IsNearColumn (e : Edge) (p : Position) (c f : ℤ) : Type 0 where
  pub low : (pos 256 *ℤ f) ≤ℤ neg_ℤ (side e.a e.b (along p c))
  pub high : neg_ℤ (side e.a e.b (along p c)) <ℤ (pos 256 *ℤ f +ℤ pos 256)
  pub rest_low : neg_ℤ (e.b.y -ℤ e.a.y) ≤ℤ f
  pub rest_high : f <ℤ (e.b.y -ℤ e.a.y)

pub next_row : (e : Edge) (p : Position) (c f q r : ℤ) → IsAtColumn e p c f → IsEdgeStep e q r → IsNearColumn e (below p) (c +ℤ q) (f -ℤ r)
next_row e p c f q r at step =
    let s = side-below e.a e.b p c q in
    let m = step.sum in
    record { low = omega (arith, ints, at.low); high = omega (arith, ints, at.high); rest_low = omega (arith, ints, at.rest_low, step.part_high); rest_high = omega (arith, ints, at.rest_high, step.part_low) }

pub stays : (e : Edge) (p : Position) (c f : ℤ) → IsNearColumn e p c f → pos 0 ≤ℤ f → IsAtColumn e p c f
stays e p c f h k = record { low = h.low; high = h.high; rest_low = k; rest_high = h.rest_high }

pub moves_on : (e : Edge) (p : Position) (c f : ℤ) → IsNearColumn e p c f → f <ℤ pos 0 → IsAtColumn e p (c +ℤ pos 1) (f +ℤ (e.b.y -ℤ e.a.y))
moves_on e p c f h k = one_column_more e p c f h.low h.high k h.rest_low

-- ---- the edge function q columns to the left
pub from_zero : (a b p : Position) (q : ℤ) → neg_ℤ (side a b (along p (neg_ℤ q))) ≡ neg_ℤ (side a b p) -ℤ q *ℤ (pos 256 *ℤ (b.y -ℤ a.y))
unfolding side
from_zero a b p q =
    let w = plus (var 2) (neg (var 0)) in
    let h = plus (var 3) (neg (var 1)) in
    let at = λ (x : Term). plus (times w (plus (var 5) (neg (var 1)))) (neg (times h (plus x (neg (var 0))))) in
    ring (a.x ∷ a.y ∷ b.x ∷ b.y ∷ p.x ∷ p.y ∷ q ∷ [])
    (neg (at (plus (var 4) (times (lit (pos 256)) (neg (var 6))))))
    (plus (neg (at (var 4))) (neg (times (var 6) (times (lit (pos 256)) h)))) refl

-- ---- the edge function by the ends of the edge
pub between : (a b p : Position) → side a b p ≡ (b.y -ℤ p.y) *ℤ (a.x -ℤ p.x) +ℤ (p.y -ℤ a.y) *ℤ (b.x -ℤ p.x)
unfolding side
between a b p =
    let less = λ (m n : Term). plus m (neg n) in
    ring (a.x ∷ a.y ∷ b.x ∷ b.y ∷ p.x ∷ p.y ∷ [])
    (less (times (less (var 2) (var 0)) (less (var 5) (var 1))) (times (less (var 3) (var 1)) (less (var 4) (var 0))))
    (plus (times (less (var 3) (var 5)) (less (var 0) (var 4))) (times (less (var 5) (var 1)) (less (var 2) (var 4)))) refl

pub at_right : (u v x y : ℤ) → pos 0 ≤ℤ u → pos 0 ≤ℤ v → x ≤ℤ pos 0 → y ≤ℤ pos 0 → (u *ℤ x +ℤ v *ℤ y) ≤ℤ pos 0
at_right u v x y hu hv hx hy =
    let m = mul_not_negative u (neg_ℤ x) hu (omega (arith, ints)) in
    let n = mul_not_negative v (neg_ℤ y) hv (omega (arith, ints)) in
    let o = negated u x in
    let q = negated v y in
    omega (arith, ints)

pub at_left : (u v x y : ℤ) → pos 0 <ℤ u → pos 0 ≤ℤ v → pos 0 <ℤ x → pos 0 ≤ℤ y → pos 0 <ℤ (u *ℤ x +ℤ v *ℤ y)
at_left u v x y hu hv hx hy =
    let m = mul_positive u x hu hx in
    let n = mul_not_negative v y hv hy in
    omega (arith, ints)
