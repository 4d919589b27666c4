use Rattle.std.proofs.Common.{◌≡◌, refl, arith, [], ◌∷◌, ◌^◌, ℤ, pos, ◌+ℤ◌, ◌-ℤ◌, ◌*ℤ◌, w64, to_z, of_z}
use Rattle.std.proofs.lemmas.Int.{ints}
use Rattle.grid.specs.Bounds.{IsWithin}
use Rattle.grid.proofs.Ring.{var, lit, plus, neg, times, ring}
use Rattle.polygons.proofs.divide.lowered.Goals as goal

one_less : (q r b : ℤ) → q *ℤ b +ℤ r ≡ (q -ℤ pos 1) *ℤ b +ℤ (r +ℤ b)
one_less q r b =
    ring (q ∷ r ∷ b ∷ []) (plus (times (var 0) (var 2)) (var 1))
    (plus (times (plus (var 0) (neg (lit (pos 1)))) (var 2)) (plus (var 1) (var 2))) refl

less_is : (q : ℤ) → IsWithin (2 ^ 25) q → to_z w64 (of_z w64 (to_z w64 (of_z w64 q) -ℤ pos 1)) ≡ q -ℤ pos 1
less_is q h = omega (arith, ints)

more_is : (r b : ℤ) → IsWithin (2 ^ 59) r → IsWithin (2 ^ 33) b → to_z w64 (of_z w64 (to_z w64 (of_z w64 r) +ℤ to_z w64 (of_z w64 b))) ≡ r +ℤ b
more_is r b h k = omega (arith, ints)

pub returns-then-rest-lt0-clause-sum : goal.returns-then-rest-lt0-clause-sum
returns-then-rest-lt0-clause-sum c =
    let q = c.args.quotient in let r = c.args.rest in let b = c.args.by in
    rw (less_is q c.requires.quotient, more_is r b c.requires.rest c.requires.by) (one_less q r b)
