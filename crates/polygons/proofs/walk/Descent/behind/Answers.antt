use Rattle.std.proofs.Common.{◌≡◌, ◌∙◌, ap, arith, ℕ, ◌^◌, ◌≤◌, ℤ, pos, ◌-ℤ◌, ◌*ℤ◌, w64, to_z, of_z, FitsSigned}
use Rattle.std.proofs.lemmas.Int.{ints}
use Rattle.grid.specs.Bounds.{IsWithin}
use Rattle.grid.proofs.Bounds.{IsWithin-mul}
use Rattle.polygons.proofs.walk.Descent.behind.Goals as goal

small64 : (z : ℤ) → IsWithin (2 ^ 42) z → to_z w64 (of_z w64 z) ≡ z
small64 z h = omega (arith, ints)

fits64 : (z : ℤ) → IsWithin (2 ^ 42) z → FitsSigned w64 z
fits64 z h = omega (arith, ints)

-- the difference as the code forms it
record IsBehind (y x q : ℤ) (n m : ℕ) : Type 0 where
  size : IsWithin (2 ^ 42) ((pos 256 -ℤ pos n) *ℤ q -ℤ (pos 256 -ℤ pos m))
  value : to_z w64 (of_z w64 (to_z w64 (of_z w64 (pos 256 -ℤ to_z w64 (of_z w64 y))) *ℤ to_z w64 (of_z w64 q))) -ℤ to_z w64 (of_z w64 (pos 256 -ℤ to_z w64 (of_z w64 x))) ≡ (pos 256 -ℤ pos n) *ℤ q -ℤ (pos 256 -ℤ pos m)

behind : (y x q : ℤ) (n m : ℕ) → y ≡ pos n → x ≡ pos m → n ≤ 32768 → m ≤ 32768 → IsWithin (2 ^ 25) q → IsBehind y x q n m
behind y x q n m e f h k l =
    let down : to_z w64 (of_z w64 (pos 256 -ℤ to_z w64 (of_z w64 y))) ≡ pos 256 -ℤ pos n = omega (arith, ints) in
    let right : to_z w64 (of_z w64 (pos 256 -ℤ to_z w64 (of_z w64 x))) ≡ pos 256 -ℤ pos m = omega (arith, ints) in
    let columns : to_z w64 (of_z w64 q) ≡ q = omega (arith, ints) in
    let p : IsWithin (2 ^ 40) ((pos 256 -ℤ pos n) *ℤ q) = IsWithin-mul (pos 256 -ℤ pos n) q (2 ^ 15) (2 ^ 25) (record { low = omega (arith, ints); high = omega (arith, ints) }) l in
    let product : to_z w64 (of_z w64 ((pos 256 -ℤ pos n) *ℤ q)) ≡ (pos 256 -ℤ pos n) *ℤ q = omega (arith, ints, p.low, p.high) in
    record {
      size = record { low = omega (arith, ints, p.low, p.high); high = omega (arith, ints, p.low, p.high) };
      value = (λ i. to_z w64 (of_z w64 (down i *ℤ columns i)) -ℤ right i) ∙ ap (λ z. z -ℤ (pos 256 -ℤ pos m)) product;
    }

pub overflow_sub-result-3 : goal.overflow_sub-result-3
overflow_sub-result-3 c =
    let b = behind c.from.result c.from-2.result c.args.self.now.columns c.args.below c.args.right c.from.ensures c.from-2.ensures c.requires.below c.requires.right c.requires.step.columns in
    rw b.value (fits64 _ b.size)

pub returns-clause-value : goal.returns-clause-value
returns-clause-value c =
    let b = behind c.from.result c.from-2.result c.args.self.now.columns c.args.below c.args.right c.from.ensures c.from-2.ensures c.requires.below c.requires.right c.requires.step.columns in
    ap (λ z. to_z w64 (of_z w64 z)) b.value ∙ small64 _ b.size

pub returns-clause-size : goal.returns-clause-size
returns-clause-size c =
    let b = behind c.from.result c.from-2.result c.args.self.now.columns c.args.below c.args.right c.from.ensures c.from-2.ensures c.requires.below c.requires.right c.requires.step.columns in
    rw b.value (rw (small64 _ b.size) b.size)
