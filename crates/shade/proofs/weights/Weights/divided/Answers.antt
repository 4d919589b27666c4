use Rattle.std.proofs.Common.{◌≡◌, ◌≤◌, ◌+◌, ◌*◌, ◌/◌, ◌%◌, subst, slice_index, slice_index_or, arith, rules}
use Rattle.std.specs.Int.RustNames.{unsigned_abs}
use Rattle.grid.specs.Triangle.{doubled_area}
use Rattle.shade.specs.Value.{weighted_sum}
use Rattle.shade.specs.Row.{IsDivided}
use Rattle.shade.specs.Weights.{TriangleAndPoint}
use Rattle.shade.proofs.Values.{products-bound, divided, divided-bound, equal}
use Rattle.shade.proofs.weights.Weights.divided.Goals as goal

pub returns-then-v-2-clause-divided : goal.returns-then-v-2-clause-divided
returns-then-v-2-clause-divided c =
    let first : slice_index_or c.args.v 0 0 ≡ slice_index c.args.v 0 = search rules in
    let second : slice_index c.args.v 1 ≡ slice_index c.args.v 0 = search rules in
    let third : slice_index c.args.v 2 ≡ slice_index c.args.v 0 = search rules in
    rw (first, second, third)
    (subst (λ (t : TriangleAndPoint). IsDivided (weighted_sum t.a t.b t.c t.p (slice_index c.args.v 0) (slice_index c.args.v 0) (slice_index c.args.v 0)) (unsigned_abs (doubled_area t.a t.b t.c)) (slice_index c.args.v 0) 0) c.self.view_is (equal _ _ _ _ _ _ _ _ (slice_index c.args.v 0) c.self.invariant))

pub overflow_mul-sum : goal.overflow_mul-sum
overflow_mul-sum c =
    let u : c.from.result ≤ 65535 = search rules in
    omega (arith, products-bound _ _ _ _ _ _ _ _ c.from.result 0 0 65535 c.self.invariant u (omega arith) (omega arith))

pub overflow_mul-sum-2 : goal.overflow_mul-sum-2
overflow_mul-sum-2 c =
    let v : c.from-2.result ≤ 65535 = search rules in
    omega (arith, products-bound _ _ _ _ _ _ _ _ 0 c.from-2.result 0 65535 c.self.invariant (omega arith) v (omega arith))

pub overflow_add-sum : goal.overflow_add-sum
overflow_add-sum c =
    let u : c.from.result ≤ 65535 = search rules in
    let v : c.from-2.result ≤ 65535 = search rules in
    omega (arith, products-bound _ _ _ _ _ _ _ _ c.from.result c.from-2.result 0 65535 c.self.invariant u v (omega arith))

pub overflow_mul-sum-3 : goal.overflow_mul-sum-3
overflow_mul-sum-3 c =
    let w : c.from-3.result ≤ 65535 = search rules in
    omega (arith, products-bound _ _ _ _ _ _ _ _ 0 0 c.from-3.result 65535 c.self.invariant (omega arith) (omega arith) w)

pub overflow_add-sum-2 : goal.overflow_add-sum-2
overflow_add-sum-2 c =
    let u : c.from.result ≤ 65535 = search rules in
    let v : c.from-2.result ≤ 65535 = search rules in
    let w : c.from-3.result ≤ 65535 = search rules in
    omega (arith, products-bound _ _ _ _ _ _ _ _ c.from.result c.from-2.result c.from-3.result 65535 c.self.invariant u v w)

pub overflow_cast-result : goal.overflow_cast-result
overflow_cast-result c =
    let u : c.from.result ≤ 65535 = search rules in
    let v : c.from-2.result ≤ 65535 = search rules in
    let w : c.from-3.result ≤ 65535 = search rules in
    omega (arith, divided-bound _ _ _ _ _ _ _ _ c.from.result c.from-2.result c.from-3.result 65535 c.self.invariant u v w)

pub returns-clause-divided : goal.returns-clause-divided
returns-clause-divided c =
    rw (← c.from.ensures, ← c.from-2.ensures, ← c.from-3.ensures)
    (subst (λ (t : TriangleAndPoint). IsDivided (weighted_sum t.a t.b t.c t.p c.from.result c.from-2.result c.from-3.result) (unsigned_abs (doubled_area t.a t.b t.c)) ((c.from.result * c.self.inside.first + c.from-2.result * c.self.inside.second + c.from-3.result * c.self.inside.third) / c.self.inside.area) ((c.from.result * c.self.inside.first + c.from-2.result * c.self.inside.second + c.from-3.result * c.self.inside.third) % c.self.inside.area)) c.self.view_is (divided _ _ _ _ _ _ _ _ _ _ _ c.self.invariant))

pub returns-clause-at_most : goal.returns-clause-at_most
returns-clause-at_most c =
    rw (← c.from.ensures, ← c.from-2.ensures, ← c.from-3.ensures)
    (λ most u v w. divided-bound _ _ _ _ _ _ _ _ _ _ _ most c.self.invariant u v w)
