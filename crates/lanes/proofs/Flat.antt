-- Three equal values at the vertices are the value at each covered point.
use Rattle.std.proofs.Common.{◌≡◌, ℕ, ◌+◌, ◌*◌, ◌<◌, ap, arith, List}
use Rattle.std.specs.Int.RustNames.{unsigned_abs}
use Rattle.grid.specs.Position.{Position}
use Rattle.grid.specs.Edge.{side}
use Rattle.grid.specs.Triangle.{Covers}
use Rattle.shade.specs.Quotient.{IsQuotient}
use Rattle.shade.specs.Value.{weighted_sum}
use Rattle.shade.specs.declared.placed.Placed.{Placed}
use Rattle.shade.specs.Placed.{IsInterpolated}
use Rattle.lanes.specs.Sources.{IsFlat}
use Rattle.shade.proofs.Values.{weights-sum, area_positive}

equal_sum : (v x y z s : ℕ) → x + y + z ≡ s → v * x + v * y + v * z ≡ v * s
equal_sum v x y z s e = let all = ap (λ n. v * n) e in omega (arith, all)

equal_weighted_sum : (a b c p : Position) (v : ℕ) → Covers a b c p → weighted_sum a b c p v v v ≡ v * unsigned_abs (side a b c)
unfolding weighted_sum
equal_weighted_sum a b c p v h = equal_sum v _ _ _ _ (weights-sum a b c p h)

exact : (n v s : ℕ) → 0 < s → n ≡ v * s → IsQuotient n s v
exact n v s some e = record { low = omega arith; high = omega (arith, some) }

pub flat_value : (t : Placed) (p : Position) (values : List ℕ) (v : ℕ) → IsFlat values v → Covers t.tri.a t.tri.b t.tri.c p → IsInterpolated t p values v
flat_value t p values v flat h =
    rw (flat.first, flat.second, flat.third) (exact _ v _ (area_positive t.tri.a t.tri.b t.tri.c p h) (equal_weighted_sum t.tri.a t.tri.b t.tri.c p v h))
