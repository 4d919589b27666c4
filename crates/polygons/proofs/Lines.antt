-- On which side of a point an edge's line is.
use Rattle.std.proofs.Common.{◌≡◌, ◌↔◌, refl, [], ◌∷◌, arith, ℤ, pos, ◌+ℤ◌, ◌-ℤ◌, ◌*ℤ◌, ◌≤ℤ◌}
use Rattle.std.proofs.lemmas.Int.{ints}
use Rattle.grid.specs.Position.{Position}
use Rattle.grid.specs.Edge.{side}
use Rattle.grid.proofs.Ring.{Term, var, plus, neg, times, ring}
use Rattle.polygons.specs.declared.edge.Edge.{Edge}
use Rattle.polygons.specs.Crossing.{IsLineAtOrLeft}

excess : (a b p : Position) → (a.x *ℤ (b.y -ℤ a.y) +ℤ (b.x -ℤ a.x) *ℤ (p.y -ℤ a.y)) -ℤ p.x *ℤ (b.y -ℤ a.y) ≡ side a b p
unfolding side
excess a b p =
    let less = λ (m n : Term). plus m (neg n) in
    ring (a.x ∷ a.y ∷ b.x ∷ b.y ∷ p.x ∷ p.y ∷ [])
    (less (plus (times (var 0) (less (var 3) (var 1))) (times (less (var 2) (var 0)) (less (var 5) (var 1)))) (times (var 4) (less (var 3) (var 1))))
    (less (times (less (var 2) (var 0)) (less (var 5) (var 1))) (times (less (var 3) (var 1)) (less (var 4) (var 0)))) refl

pub line_side : (e : Edge) (p : Position) → (side e.a e.b p ≤ℤ pos 0) ↔ IsLineAtOrLeft e p
line_side e p =
    let m : ℤ = e.a.x *ℤ (e.b.y -ℤ e.a.y) +ℤ (e.b.x -ℤ e.a.x) *ℤ (p.y -ℤ e.a.y) in
    let n : ℤ = p.x *ℤ (e.b.y -ℤ e.a.y) in
    let x = excess e.a e.b p in
    (λ h. by_excess m n (side e.a e.b p) x h, λ h. from_excess m n (side e.a e.b p) x h)
  where
    by_excess : (m n s : ℤ) → m -ℤ n ≡ s → s ≤ℤ pos 0 → m ≤ℤ n
    by_excess m n s e h = omega (arith, ints)

    from_excess : (m n s : ℤ) → m -ℤ n ≡ s → m ≤ℤ n → s ≤ℤ pos 0
    from_excess m n s e h = omega (arith, ints)
