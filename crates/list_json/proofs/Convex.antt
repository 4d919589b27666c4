-- The test of strict convexity.
use Rattle.std.proofs.Common.{◌≡◌, inl, inr, refl, ℤ, pos, ◌<ℤ◌, Bool, true, false, ◌||◌, arith}
use Rattle.std.specs.Prelude.{int_lt}
use Rattle.std.proofs.lemmas.Int.{ints}
use Rattle.grid.specs.Position.{Position}
use Rattle.grid.specs.Edge.{side}
use Rattle.grid.specs.Quad.{IsStrictlyConvex}
use Rattle.list_json.specs.Checks.{each_turn, is_strictly_convex}

right_true : (x y : Bool) → y ≡ true → x || y ≡ true
right_true true y e = refl
right_true false y e = e

below : (x y : ℤ) → x <ℤ y → (b : Bool) → int_lt x y ≡ b → int_lt x y ≡ true
below x y h true e = e
below x y h false e = absurd (omega (arith, ints))

module _ (a b c d : Position) where
  pub convex_is_true : IsStrictlyConvex a b c d → is_strictly_convex a b c d ≡ true
  convex_is_true (inl right) =
      let abc = below (pos 0) (side a b c) right.abc _ refl in
      let bcd = below (pos 0) (side b c d) right.bcd _ refl in
      let cda = below (pos 0) (side c d a) right.cda _ refl in
      let dab = below (pos 0) (side d a b) right.dab _ refl in
      rw (abc, bcd, cda, dab) refl
  convex_is_true (inr left) =
      let abc = below (side a b c) (pos 0) left.abc _ refl in
      let bcd = below (side b c d) (pos 0) left.bcd _ refl in
      let cda = below (side c d a) (pos 0) left.cda _ refl in
      let dab = below (side d a b) (pos 0) left.dab _ refl in
      right_true (each_turn (λ turn. int_lt (pos 0) turn) a b c d) _ (rw (abc, bcd, cda, dab) refl)
