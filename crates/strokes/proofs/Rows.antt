-- Discs in rows of samples.
use Rattle.std.proofs.Common.{◌≡◌, ◌↔◌, inl, inr, refl, ◌∙◌, arith, ℕ, ◌*◌, [], ◌∷◌, ℤ, pos, ◌+ℤ◌, ◌-ℤ◌, ◌*ℤ◌, neg_ℤ, ◌≤ℤ◌, ◌<ℤ◌, true, false, IsTrue}
use Rattle.std.proofs.lemmas.Int.{ints}
use Rattle.std.specs.Prelude.{int_lt}
use Rattle.grid.specs.Position.{Position}
use Rattle.grid.proofs.Ring.{var, lit, plus, neg, times, ring}
use Rattle.grid.proofs.Sign.{square_not_negative, test_lt}
use Rattle.strokes.specs.declared.line.Line.{Line}
use Rattle.strokes.specs.Border.{IsWithinRoot}
use Rattle.strokes.specs.Disc.{DiscCovers}
use Rattle.strokes.specs.Lines.{IsOnSide, HasColumn}
use Rattle.strokes.specs.Segment.{dot}
use Rattle.strokes.proofs.Lines.{function_by, on_side}
use Rattle.strokes.proofs.Roots.{not_true}

four_dot : (c p : Position) → pos 4 *ℤ dot c p p ≡ pos 4 *ℤ ((p.x -ℤ c.x) *ℤ (p.x -ℤ c.x)) +ℤ pos 4 *ℤ ((p.y -ℤ c.y) *ℤ (p.y -ℤ c.y))
unfolding dot
four_dot c p =
    let x = plus (var 2) (neg (var 0)) in
    let y = plus (var 3) (neg (var 1)) in
    ring (c.x ∷ c.y ∷ p.x ∷ p.y ∷ []) (times (lit (pos 4)) (plus (times x x) (times y y))) (plus (times (lit (pos 4)) (times x x)) (times (lit (pos 4)) (times y y))) refl

neg_square : (f : ℤ) → neg_ℤ f *ℤ neg_ℤ f ≡ f *ℤ f
neg_square f = ring (f ∷ []) (times (neg (var 0)) (neg (var 0))) (times (var 0) (var 0)) refl

is_less : (x y : ℤ) → IsTrue (int_lt x y) → x <ℤ y
is_less x y t = grind (arith, ints, t)

module _ (c : Position) (w : ℕ) (p : Position) where
  x : ℤ
  x = p.x -ℤ c.x

  y : ℤ
  y = p.y -ℤ c.y

  -- beside a row that the disc does not meet
  pub no_disc : (rest : ℤ) → rest ≡ pos (w * w) -ℤ pos 4 *ℤ ((p.y -ℤ c.y) *ℤ (p.y -ℤ c.y)) → rest <ℤ pos 0 → DiscCovers c w p → ⊥
  no_disc rest e h (inl l) = let f = four_dot c p in let s = square_not_negative (p.x -ℤ c.x) in omega (arith, ints, e, f, s, h, l)
  no_disc rest e h (inr t) = let f = four_dot c p in let s = square_not_negative (p.x -ℤ c.x) in let q = t.0 in omega (arith, ints, e, f, s, h, q)

  pub in_row : (n : ℕ) → pos n ≡ pos (w * w) -ℤ pos 4 *ℤ ((p.y -ℤ c.y) *ℤ (p.y -ℤ c.y)) → DiscCovers c w p → IsWithinRoot n false (p.x -ℤ c.x) × IsWithinRoot n true (neg_ℤ (p.x -ℤ c.x))
  in_row n e (inl l) =
      let f = four_dot c p in
      let s = neg_square (p.x -ℤ c.x) in
      (inr (inl (omega (arith, ints, e, f, l))), inr (inl (omega (arith, ints, e, f, s, l))))
  in_row n e (inr t) =
      let f = four_dot c p in
      let s = neg_square (p.x -ℤ c.x) in
      let q = t.0 in
      let left : p.x <ℤ c.x = is_less p.x c.x t.1 in
      (inl (omega (arith, ints, left)), inr (inr (omega (arith, ints, e, f, s, q), refl)))

  less_disc : (n : ℕ) → pos n ≡ pos (w * w) -ℤ pos 4 *ℤ ((p.y -ℤ c.y) *ℤ (p.y -ℤ c.y)) → (pos 4 *ℤ ((p.x -ℤ c.x) *ℤ (p.x -ℤ c.x))) <ℤ pos n → DiscCovers c w p
  less_disc n e l = let f = four_dot c p in inl (omega (arith, ints, e, f, l))

  tie_disc : (n : ℕ) → pos n ≡ pos (w * w) -ℤ pos 4 *ℤ ((p.y -ℤ c.y) *ℤ (p.y -ℤ c.y)) → pos 4 *ℤ ((p.x -ℤ c.x) *ℤ (p.x -ℤ c.x)) ≡ pos n → p.x <ℤ c.x → DiscCovers c w p
  tie_disc n e q l = let f = four_dot c p in inr (omega (arith, ints, e, f, q), test_lt p.x c.x l)

  pub from_row : (n : ℕ) → pos n ≡ pos (w * w) -ℤ pos 4 *ℤ ((p.y -ℤ c.y) *ℤ (p.y -ℤ c.y)) → IsWithinRoot n false (p.x -ℤ c.x) → IsWithinRoot n true (neg_ℤ (p.x -ℤ c.x)) → DiscCovers c w p
  from_row n e (inr (inl l)) left = less_disc n e l
  from_row n e (inr (inr t)) left = absurd (not_true false refl t.1)
  from_row n e (inl l) (inl r) = absurd (omega (arith, ints, l, r))
  from_row n e (inl l) (inr (inl r)) = let s = neg_square (p.x -ℤ c.x) in less_disc n e (omega (arith, ints, r, s))
  from_row n e (inl l) (inr (inr t)) = let s = neg_square (p.x -ℤ c.x) in let q = t.0 in tie_disc n e (omega (arith, ints, q, s)) (omega (arith, ints, l))

-- ---- the edges of a disc
right_of : (x y : ℤ) → pos 1 *ℤ x +ℤ pos 0 *ℤ y ≡ x
right_of x y = ring (x ∷ y ∷ []) (plus (times (lit (pos 1)) (var 0)) (times (lit (pos 0)) (var 1))) (var 0) refl

left_of : (x y : ℤ) → neg_ℤ (pos 1) *ℤ x +ℤ pos 0 *ℤ y ≡ neg_ℤ x
left_of x y = ring (x ∷ y ∷ []) (plus (times (neg (lit (pos 1))) (var 0)) (times (lit (pos 0)) (var 1))) (neg (var 0)) refl

pub right_edge : (line : Line) (c p : Position) (n : ℕ) (t : ℤ) → line.from ≡ c → line.x ≡ pos 1 → line.y ≡ pos 0 → line.bound ≡ t
    → ((f : ℤ) → (f ≤ℤ t) ↔ IsWithinRoot n false f) → IsOnSide line p ↔ IsWithinRoot n false (p.x -ℤ c.x)
right_edge line c p n t f x y b h = on_side line p (p.x -ℤ c.x) t _ (function_by line c p (pos 1) (pos 0) f x y ∙ right_of (p.x -ℤ c.x) (p.y -ℤ c.y)) b (h (p.x -ℤ c.x))

pub left_edge : (line : Line) (c p : Position) (n : ℕ) (t : ℤ) → line.from ≡ c → line.x ≡ neg_ℤ (pos 1) → line.y ≡ pos 0 → line.bound ≡ t
    → ((f : ℤ) → (f ≤ℤ t) ↔ IsWithinRoot n true f) → IsOnSide line p ↔ IsWithinRoot n true (neg_ℤ (p.x -ℤ c.x))
left_edge line c p n t f x y b h = on_side line p (neg_ℤ (p.x -ℤ c.x)) t _ (function_by line c p (neg_ℤ (pos 1)) (pos 0) f x y ∙ left_of (p.x -ℤ c.x) (p.y -ℤ c.y)) b (h (neg_ℤ (p.x -ℤ c.x)))

-- ---- no columns
pub none_in : (k : ℤ) → HasColumn (record { first = pos 0; end = pos 0 }) k → ⊥
none_in k h = let l = h.first in let m = h.end in omega (arith, ints, l, m)
