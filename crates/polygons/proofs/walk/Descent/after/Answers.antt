use Rattle.std.proofs.Common.{◌≡◌, arith, ◌^◌, ℤ, pos, ◌+ℤ◌, ◌*ℤ◌, w64, to_z, of_z}
use Rattle.std.proofs.lemmas.Int.{ints}
use Rattle.grid.specs.Bounds.{IsWithin}
use Rattle.polygons.proofs.Walks.{below_size}
use Rattle.polygons.proofs.walk.Descent.after.Goals as goal

size_of_sum : (x m y : ℤ) → m ≡ y → IsWithin (2 ^ 44) x → IsWithin (2 ^ 33) y → IsWithin (2 ^ 45) (to_z w64 (of_z w64 (to_z w64 (of_z w64 x) +ℤ to_z w64 (of_z w64 m))))
size_of_sum x m y e l k = record { low = omega (arith, ints); high = omega (arith, ints) }

large : (h : ℤ) → IsWithin (2 ^ 25) h → IsWithin (2 ^ 33) (to_z w64 (of_z w64 (pos 256 *ℤ to_z w64 (of_z w64 h))))
large h k = record { low = omega (arith, ints); high = omega (arith, ints) }

pub returns-clause-size : goal.returns-clause-size
returns-clause-size c =
    size_of_sum c.args.number c.if_negative.result _ c.if_negative.ensures c.requires.number (below_size (2 ^ 33) _ _ (large c.args.self.now.height c.requires.step.height))
