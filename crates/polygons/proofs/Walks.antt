-- The walk of an edge by the samples of a part: its start at a pixel's corner, and the step from row to row.
use Rattle.std.proofs.Common.{◌≡◌, ◌∙◌, inl, inr, refl, sym, ap, arith, ℕ, [], ◌∷◌, ℤ, pos, negsuc, ◌+ℤ◌, ◌-ℤ◌, ◌*ℤ◌, neg_ℤ, ◌<ℤ◌, ◌≤ℤ◌}
use Rattle.std.proofs.lemmas.Int.{ints}
use Rattle.std.specs.Int.{int_div_euclid, int_rem_euclid}
use Rattle.grid.specs.Bounds.{IsWithin}
use Rattle.grid.specs.Position.{Position}
use Rattle.grid.specs.Edge.{side}
use Rattle.grid.proofs.Ring.{Term, var, lit, plus, neg, times, ring}
use Rattle.polygons.specs.declared.edge.Edge.{Edge}
use Rattle.polygons.specs.Columns.{along, below, IsAtColumn, IsEdgeStep}
use Rattle.polygons.specs.Walking.{if_below}
use Rattle.polygons.proofs.Columns.{IsNearColumn, next_row, stays, moves_on}
use Rattle.polygons.proofs.Division.{division}
use Rattle.polygons.proofs.Triangle.{under_or_at_least, mul_not_negative}

-- ---- a number that counts if another is below 0
pub is_below : (z n : ℤ) → z <ℤ pos 0 → if_below z n ≡ n
is_below (pos m) n h = absurd (omega (arith, ints))
is_below (negsuc m) n h = refl

pub not_below : (z n : ℤ) → pos 0 ≤ℤ z → if_below z n ≡ pos 0
not_below (pos m) n h = refl
not_below (negsuc m) n h = absurd (omega (arith, ints))

pub below_size : (k : ℕ) (z n : ℤ) → IsWithin k n → IsWithin k (if_below z n)
below_size k (pos m) n h = record { low = omega (arith, ints); high = omega (arith, ints) }
below_size k (negsuc m) n h = h

-- ---- the edge function, by minus itself, at a sample so far right of a corner and below it
-- points a, b, corner as variables 0 to 5, then c, m, dx, dy
moved : (a b p : Position) (c m dx dy : ℤ)
    → neg_ℤ (side a b (record { x = (p.x +ℤ dx) +ℤ pos 256 *ℤ (c +ℤ m); y = p.y +ℤ dy }))
    ≡ (neg_ℤ (side a b (along p c)) +ℤ (b.y -ℤ a.y) *ℤ (dx +ℤ pos 256 *ℤ m)) -ℤ (b.x -ℤ a.x) *ℤ dy
unfolding side
moved a b p c m dx dy =
    let w = plus (var 2) (neg (var 0)) in
    let h = plus (var 3) (neg (var 1)) in
    let at = λ (x y : Term). neg (plus (times w (plus y (neg (var 1)))) (neg (times h (plus x (neg (var 0)))))) in
    ring (a.x ∷ a.y ∷ b.x ∷ b.y ∷ p.x ∷ p.y ∷ c ∷ m ∷ dx ∷ dy ∷ [])
    (at (plus (plus (var 4) (var 8)) (times (lit (pos 256)) (plus (var 6) (var 7)))) (plus (var 5) (var 9)))
    (plus (plus (at (plus (var 4) (times (lit (pos 256)) (var 6))) (var 5)) (times h (plus (var 8) (times (lit (pos 256)) (var 7))))) (neg (times w (var 9)))) refl

-- the width by whole columns: h dx + 256 h m - (q h + r) dy
by_columns : (h q r dx dy t u d n : ℤ) → t ≡ d *ℤ pos 256 +ℤ u → t ≡ dy *ℤ q -ℤ dx
    → h *ℤ (dx +ℤ pos 256 *ℤ (d +ℤ n)) -ℤ (q *ℤ h +ℤ r) *ℤ dy ≡ (pos 256 *ℤ (h *ℤ n) -ℤ h *ℤ u) -ℤ r *ℤ dy
by_columns h q r dx dy t u d n e f =
    let s : dx +ℤ pos 256 *ℤ (d +ℤ n) ≡ (dy *ℤ q +ℤ pos 256 *ℤ n) -ℤ u = omega (arith, ints) in
    ap (λ z. h *ℤ z -ℤ (q *ℤ h +ℤ r) *ℤ dy) s
    ∙ ring (h ∷ q ∷ r ∷ dy ∷ n ∷ u ∷ [])
    (plus (times (var 0) (plus (plus (times (var 3) (var 1)) (times (lit (pos 256)) (var 4))) (neg (var 5)))) (neg (times (plus (times (var 1) (var 0)) (var 2)) (var 3))))
    (plus (plus (times (lit (pos 256)) (times (var 0) (var 4))) (neg (times (var 0) (var 5)))) (neg (times (var 2) (var 3)))) refl

less_255 : (h u : ℤ) → h *ℤ (pos 255 -ℤ u) ≡ pos 255 *ℤ h -ℤ h *ℤ u
less_255 h u = ring (h ∷ u ∷ []) (times (var 0) (plus (lit (pos 255)) (neg (var 1)))) (plus (times (lit (pos 255)) (var 0)) (neg (times (var 0) (var 1)))) refl

times_0 : (h : ℤ) → h *ℤ pos 0 ≡ pos 0
times_0 h = ring (h ∷ []) (times (var 0) (lit (pos 0))) (lit (pos 0)) refl

times_1 : (h : ℤ) → h *ℤ pos 1 ≡ h
times_1 h = ring (h ∷ []) (times (var 0) (lit (pos 1))) (var 0) refl

times_2 : (h : ℤ) → h *ℤ pos 2 ≡ h +ℤ h
times_2 h = ring (h ∷ []) (times (var 0) (lit (pos 2))) (plus (var 0) (var 0)) refl

-- ---- the start of a sample
module _ (e : Edge) (corner p : Position) (h q r c above dx dy : ℤ) (tall : h ≡ e.b.y -ℤ e.a.y) (step : IsEdgeStep e q r)
    (place : neg_ℤ (side e.a e.b (along corner c)) ≡ above) (low : pos 0 ≤ℤ above) (high : above <ℤ (pos 256 *ℤ h))
    (px : p.x ≡ corner.x +ℤ dx) (py : p.y ≡ corner.y +ℤ dy) (dy_low : pos 0 ≤ℤ dy) (dy_high : dy <ℤ pos 256) where
  abbrev pub t : ℤ
  t = dy *ℤ q -ℤ dx

  abbrev pub d : ℤ
  d = int_div_euclid t (pos 256)

  abbrev pub u : ℤ
  u = int_rem_euclid t (pos 256)

  abbrev pub v : ℤ
  v = (above -ℤ h *ℤ u) -ℤ r *ℤ dy

  -- the edge function n columns further
  value : (n : ℤ) → neg_ℤ (side e.a e.b (along p ((c +ℤ d) +ℤ n))) ≡ v +ℤ pos 256 *ℤ (h *ℤ n)
  value n =
      let law = division t (pos 256) (omega (arith, ints)) in
      let columns : (c +ℤ d) +ℤ n ≡ c +ℤ (d +ℤ n) = omega (arith, ints) in
      let m = moved e.a e.b corner c (d +ℤ n) dx dy in
      let w : e.b.x -ℤ e.a.x ≡ q *ℤ h +ℤ r = rw tall step.sum in
      let b = by_columns h q r dx dy t u d n law.sum refl in
      let there : neg_ℤ (side e.a e.b (along p ((c +ℤ d) +ℤ n))) ≡ (above +ℤ h *ℤ (dx +ℤ pos 256 *ℤ (d +ℤ n))) -ℤ (q *ℤ h +ℤ r) *ℤ dy =
      (λ i. neg_ℤ (side e.a e.b (record { x = px i +ℤ pos 256 *ℤ columns i; y = py i }))) ∙ m
      ∙ (λ i. (place i +ℤ sym tall i *ℤ (dx +ℤ pos 256 *ℤ (d +ℤ n))) -ℤ w i *ℤ dy) in
      there ∙ omega (arith, ints, b)

  v_high : v <ℤ (pos 256 *ℤ h)
  v_high =
      let law = division t (pos 256) (omega (arith, ints)) in
      let a = mul_not_negative h u (omega (arith, ints)) law.low in
      let b = mul_not_negative r dy step.part_low dy_low in
      omega (arith, ints)

  v_low : (neg_ℤ (pos 512 *ℤ h)) ≤ℤ v
  v_low =
      let law = division t (pos 256) (omega (arith, ints)) in
      let a = mul_not_negative h (pos 255 -ℤ u) (omega (arith, ints)) (let k = law.high in omega (arith, ints)) in
      let a' = less_255 h u in
      let b = mul_not_negative r (pos 255 -ℤ dy) step.part_low (omega (arith, ints)) in
      let b' = less_255 r dy in
      let s = step.part_high in
      omega (arith, ints)

  ends : (n z : ℤ) → z ≡ v +ℤ pos 256 *ℤ (h *ℤ n) → pos 0 ≤ℤ z → z <ℤ (pos 256 *ℤ h) → IsAtColumn e p ((c +ℤ d) +ℤ n) (int_div_euclid z (pos 256))
  ends n z is z_low z_high =
      let law = division z (pos 256) (omega (arith, ints)) in
      let at = value n ∙ sym is in
      let s = law.sum in let l = law.low in let g = law.high in
      record { low = omega (arith, ints); high = omega (arith, ints); rest_low = omega (arith, ints); rest_high = omega (arith, ints) }

  abbrev pub after : ℤ
  after = v +ℤ if_below v (pos 256 *ℤ h)

  ended : (m1 m2 w2 n : ℤ) → m1 +ℤ m2 ≡ n → after +ℤ w2 ≡ v +ℤ pos 256 *ℤ (h *ℤ n) → pos 0 ≤ℤ (after +ℤ w2) → (after +ℤ w2) <ℤ (pos 256 *ℤ h)
      → IsAtColumn e p (((c +ℤ d) +ℤ m1) +ℤ m2) (int_div_euclid (after +ℤ w2) (pos 256))
  ended m1 m2 w2 n sum is l k =
      let column : ((c +ℤ d) +ℤ m1) +ℤ m2 ≡ (c +ℤ d) +ℤ n = omega (arith, ints) in
      rw column (ends n (after +ℤ w2) is l k)

  pub started : IsAtColumn e p (((c +ℤ d) +ℤ if_below v (pos 1)) +ℤ if_below after (pos 1)) (int_div_euclid (after +ℤ if_below after (pos 256 *ℤ h)) (pos 256))
  started =
      let v_less = v_high in
      let v_more = v_low in
      elim (under_or_at_least v) [
        | inr l ↦
            let w1 = not_below v (pos 256 *ℤ h) l in
            let m1 = not_below v (pos 1) l in
            let a : pos 0 ≤ℤ after = omega (arith, ints) in
            let w2 = not_below after (pos 256 *ℤ h) a in
            let m2 = not_below after (pos 1) a in
            let n = times_0 h in
            ended _ _ _ (pos 0) (omega (arith, ints)) (omega (arith, ints)) (omega (arith, ints)) (omega (arith, ints))
        | inl l ↦
            let w1 = is_below v (pos 256 *ℤ h) l in
            let m1 = is_below v (pos 1) l in
            elim (under_or_at_least after) [
              | inr a ↦
                  let w2 = not_below after (pos 256 *ℤ h) a in
                  let m2 = not_below after (pos 1) a in
                  let n = times_1 h in
                  ended _ _ _ (pos 1) (omega (arith, ints)) (omega (arith, ints)) (omega (arith, ints)) (omega (arith, ints))
              | inl a ↦
                  let w2 = is_below after (pos 256 *ℤ h) a in
                  let m2 = is_below after (pos 1) a in
                  let n = times_2 h in
                  ended _ _ _ (pos 2) (omega (arith, ints)) (omega (arith, ints)) (omega (arith, ints)) (omega (arith, ints))
            ]
      ]

-- ---- the row below
pub stepped : (e : Edge) (p : Position) (h q r c f : ℤ) → h ≡ e.b.y -ℤ e.a.y → IsEdgeStep e q r → IsAtColumn e p c f
    → IsAtColumn e (below p) ((c +ℤ q) +ℤ if_below (f -ℤ r) (pos 1)) ((f -ℤ r) +ℤ if_below (f -ℤ r) h)
stepped e p h q r c f tall step at =
    let near : IsNearColumn e (below p) (c +ℤ q) (f -ℤ r) = next_row e p c f q r at step in
    elim (under_or_at_least (f -ℤ r)) [
      | inl l ↦ rw (is_below (f -ℤ r) (pos 1) l, is_below (f -ℤ r) h l, tall) (moves_on e (below p) (c +ℤ q) (f -ℤ r) near l)
      | inr l ↦
          let column : (c +ℤ q) +ℤ if_below (f -ℤ r) (pos 1) ≡ c +ℤ q = let m = not_below (f -ℤ r) (pos 1) l in omega (arith, ints) in
          let rest : (f -ℤ r) +ℤ if_below (f -ℤ r) h ≡ f -ℤ r = let m = not_below (f -ℤ r) h l in omega (arith, ints) in
          rw (column, rest) (stays e (below p) (c +ℤ q) (f -ℤ r) near l)
    ]
