use Rattle.std.proofs.Common.{subst, sym}
use Rattle.std.specs.Int.{◌∣◌}
use Rattle.std.proofs.Math.Nat.{dvd-mod_iff}
use Rattle.std.proofs.lemmas.Nat.Gcd.{dvd_refl, dvd-zero}
use Rattle.gradients.proofs.whole_values.divisor_of_two.Goals as goal

pub loop-rest-preserved : goal.loop-rest-preserved
loop-rest-preserved c d divides left = c.loop-rest.invariant d ((dvd-mod_iff d {m = c.loop-rest.divisor} {n = c.loop-rest.rest} divides).0 left) divides

pub returns-clause-first : goal.returns-clause-first
returns-clause-first c =
    let d = c.loop-rest.divisor in
    (c.loop-rest.invariant d (dvd_refl d) (subst (λ n. d ∣ n) (sym c.loop-rest-test.false) (dvd-zero d))).0

pub returns-clause-second : goal.returns-clause-second
returns-clause-second c =
    let d = c.loop-rest.divisor in
    (c.loop-rest.invariant d (dvd_refl d) (subst (λ n. d ∣ n) (sym c.loop-rest-test.false) (dvd-zero d))).1
