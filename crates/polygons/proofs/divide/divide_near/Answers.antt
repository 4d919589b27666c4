use Rattle.std.proofs.Common.{◌≡◌, refl, arith, ◌^◌, ℤ, pos, ◌+ℤ◌, ◌-ℤ◌, ◌*ℤ◌, ◌<ℤ◌, ◌≤ℤ◌, w64, to_z, of_z}
use Rattle.std.proofs.lemmas.Int.{ints}
use Rattle.grid.specs.Bounds.{IsWithin}
use Rattle.grid.proofs.Bounds.{IsWithin-mul}
use Rattle.polygons.proofs.divide.divide_near.Goals as goal

difference : (x y : ℤ) → IsWithin (2 ^ 50) x → IsWithin (2 ^ 58) y → to_z w64 (of_z w64 (to_z w64 (of_z w64 x) -ℤ to_z w64 (of_z w64 y))) ≡ x -ℤ y
difference x y h k = omega (arith, ints)

-- what is left by the guess
record IsLeft (n g b r : ℤ) : Type 0 where
  value : r ≡ n -ℤ g *ℤ b
  size : IsWithin (2 ^ 59) r

what_is_left : (n g b : ℤ) → IsWithin (2 ^ 50) n → IsWithin (2 ^ 25) g → pos 0 <ℤ b → b ≤ℤ pos (2 ^ 33)
    → IsLeft n g b (to_z w64 (of_z w64 (to_z w64 (of_z w64 n) -ℤ to_z w64 (of_z w64 (to_z w64 (of_z w64 g) *ℤ to_z w64 (of_z w64 b))))))
what_is_left n g b h k l m =
    let eg : to_z w64 (of_z w64 g) ≡ g = omega (arith, ints) in
    let eb : to_z w64 (of_z w64 b) ≡ b = omega (arith, ints) in
    let p : IsWithin (2 ^ 58) (g *ℤ b) = IsWithin-mul g b (2 ^ 25) (2 ^ 33) k (record { low = omega (arith, ints); high = omega (arith, ints) }) in
    let d = difference n (g *ℤ b) h p in
    rw (eg, eb, d) (record { value = refl; size = sum_size n (g *ℤ b) h p })
  where
    sum_size : (x y : ℤ) → IsWithin (2 ^ 50) x → IsWithin (2 ^ 58) y → IsWithin (2 ^ 59) (x -ℤ y)
    sum_size x y h k = record { low = omega (arith, ints); high = omega (arith, ints) }

small64 : (z : ℤ) → IsWithin (2 ^ 60) z → to_z w64 (of_z w64 z) ≡ z
small64 z h = omega (arith, ints)

less_small : (z : ℤ) → IsWithin (2 ^ 26) z → IsWithin (2 ^ 60) z
less_small z h = record { low = omega (arith, ints); high = omega (arith, ints) }

guess_is : (g : ℤ) → IsWithin (2 ^ 25) g → to_z w64 (of_z w64 g) ≡ g
guess_is g h = omega (arith, ints)

by_is : (b : ℤ) → pos 0 <ℤ b → b ≤ℤ pos (2 ^ 33) → to_z w64 (of_z w64 b) ≡ b
by_is b h k = omega (arith, ints)

put_together : (n g b g' b' o q r : ℤ) → g' ≡ g → b' ≡ b → o ≡ n -ℤ g *ℤ b → g' *ℤ b' +ℤ o ≡ q *ℤ b' +ℤ r → n ≡ q *ℤ b +ℤ r
put_together n g b g' b' o q r eg eb e f = let s = rw (eg, eb) at f in omega (arith, ints)

pub lowered-quotient-requires-clause-rest : goal.lowered-quotient-requires-clause-rest
lowered-quotient-requires-clause-rest c = (what_is_left c.args.number c.args.guess c.args.by c.requires.number c.requires.guess c.requires.by c.requires.small).size

pub returns-then-rest-by-clause-sum : goal.returns-then-rest-by-clause-sum
returns-then-rest-by-clause-sum c =
    let n = c.args.number in let g = c.args.guess in let b = c.args.by in
    let o = what_is_left n g b c.requires.number c.requires.guess c.requires.by c.requires.small in
    let l = c.lowered-quotient.ensures in
    let s = put_together n g b _ _ _ c.lowered-quotient.result.0 c.lowered-quotient.result.1 (guess_is g c.requires.guess) (by_is b c.requires.by c.requires.small) o.value l.sum in
    rw (small64 _ (less_small _ l.size), small64 _ l.rest) s

pub returns-then-rest-by-clause-size : goal.returns-then-rest-by-clause-size
returns-then-rest-by-clause-size c =
    let l = c.lowered-quotient.ensures.size in
    rw (small64 _ (less_small _ l)) (record { low = omega (arith, ints); high = omega (arith, ints) })
