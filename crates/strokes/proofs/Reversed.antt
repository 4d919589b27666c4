-- A segment and its reverse cover the same points.
use Rattle.std.proofs.Common.{◌≡◌, refl, ap, arith, ℕ, ◌+◌, ◌*◌, [], ◌∷◌, neg_ℤ}
use Rattle.std.proofs.lemmas.Int.{ints}
use Rattle.std.specs.Int.RustNames.{unsigned_abs}
use Rattle.grid.specs.Position.{Position}
use Rattle.grid.specs.Edge.{side}
use Rattle.grid.proofs.Identities.{side-reversed}
use Rattle.grid.proofs.Ring.{Term, var, plus, neg, times, ring}
use Rattle.strokes.specs.Segment.{dot, square_length, IsInStrip, SegmentCovers}

-- ---- `dot` as a term; point number n has the variables 2n and 2n + 1
abbrev difference_term : ℕ → ℕ → Term
difference_term m n = plus (var m) (neg (var n))

abbrev pub dot_term : ℕ → ℕ → ℕ → Term
dot_term a b p =
    plus (times (difference_term (2 * b) (2 * a)) (difference_term (2 * p) (2 * a)))
    (times (difference_term (2 * b + 1) (2 * a + 1)) (difference_term (2 * p + 1) (2 * a + 1)))

pub dot-ends : (a b : Position) → dot b a a ≡ dot a b b
unfolding dot
dot-ends a b = ring (a.x ∷ a.y ∷ b.x ∷ b.y ∷ []) (dot_term 1 0 0) (dot_term 0 1 1) refl

pub square_length-reversed : (a b : Position) → square_length b a ≡ square_length a b
unfolding square_length
square_length-reversed a b = ap unsigned_abs (dot-ends a b)

side-back : (a b p : Position) → neg_ℤ (side b a p) ≡ side a b p
side-back a b p = let e = side-reversed a b p in omega (arith, ints, e)

pub strip-reversed : (a b : Position) (width : ℕ) (p : Position) → IsInStrip a b width p → IsInStrip b a width p
strip-reversed a b width p h =
    record {
      right = rw (square_length-reversed a b, side-reversed a b p) h.left;
      left = rw (square_length-reversed a b, side-back a b p) h.right;
    }

pub covers-reversed : (a b : Position) (width : ℕ) (p : Position) → SegmentCovers a b width p → SegmentCovers b a width p
covers-reversed a b width p h = record { start = h.end; end = h.start; strip = strip-reversed a b width p h.strip }
