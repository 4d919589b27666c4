-- The resolve of a pixel's samples.
use Rattle.std.proofs.Common.{◌≡◌, refl, sym, subst, ap₂, ◌∙◌, ℕ, zero, suc, ◌+◌, ◌/◌, ◌<◌, ◌≤◌, arith}
use Rattle.grid.specs.Samples.{count_of}
use Rattle.grid.specs.declared.sample_count.SampleCount.{SampleCount}
use Rattle.grid.specs.declared.sample_count.SampleCount.TheVariants.{One, Two, Four, Eight, Sixteen}
use Rattle.shade.specs.Quotient.{IsQuotient}
use Rattle.shade.specs.Mean.{mean_of}
use Rattle.shade.specs.Resolve.{IsResolved, total}
use Rattle.shade.proofs.Values.{quotient, quotient-unique}

pub some_samples : (count : SampleCount) → 0 < count_of count
some_samples One = omega arith
some_samples Two = omega arith
some_samples Four = omega arith
some_samples Eight = omega arith
some_samples Sixteen = omega arith

-- ---- sums
pub total_same : (n : ℕ) (f g : ℕ → ℕ) → ((s : ℕ) → s < n → f s ≡ g s) → total n f ≡ total n g
total_same zero f g same = refl
total_same (suc n) f g same = ap₂ (λ x y. x + y) (total_same n f g (λ s l. same s (omega (arith, l)))) (same n (omega arith))

pub resolved_same : (count : SampleCount) (f g : ℕ → ℕ) (q : ℕ) → ((s : ℕ) → s < count_of count → f s ≡ g s) → IsResolved count f q → IsResolved count g q
resolved_same One f g q same h = h ∙ same 0 (omega arith)
resolved_same Two f g q same h =
    let first : f 0 ≡ g 0 = same 0 (omega arith) in
    let second : f 1 ≡ g 1 = same 1 (omega arith) in
    let low = h.low in
    let high = h.high in
    record { low = omega arith; high = omega arith }
resolved_same Four f g q same h =
    let first : f 0 ≡ g 0 = same 0 (omega arith) in
    let second : f 1 ≡ g 1 = same 1 (omega arith) in
    let third : f 2 ≡ g 2 = same 2 (omega arith) in
    let fourth : f 3 ≡ g 3 = same 3 (omega arith) in
    let low = h.low in
    let high = h.high in
    record { low = omega arith; high = omega arith }
resolved_same Eight f g q same h = subst (λ n. IsQuotient (n + 4) 8 q) (total_same 8 f g same) h
resolved_same Sixteen f g q same h = subst (λ n. IsQuotient (n + 8) 16 q) (total_same 16 f g same) h

pub resolved-unique : (count : SampleCount) (f g : ℕ → ℕ) (q r : ℕ) → ((s : ℕ) → s < count_of count → f s ≡ g s) → IsResolved count f q → IsResolved count g r → q ≡ r
resolved-unique One f g q r same h k = resolved_same One f g q same h ∙ sym k
resolved-unique Two f g q r same h k = quotient-unique _ _ _ _ (resolved_same Two f g q same h) k
resolved-unique Four f g q r same h k = quotient-unique _ _ _ _ (resolved_same Four f g q same h) k
resolved-unique Eight f g q r same h k = quotient-unique _ _ _ _ (resolved_same Eight f g q same h) k
resolved-unique Sixteen f g q r same h k = quotient-unique _ _ _ _ (resolved_same Sixteen f g q same h) k

-- ---- means
one_mean : (f : ℕ → ℕ) → mean_of 1 f ≡ f 0
one_mean f = omega arith

two_sum : (f : ℕ → ℕ) → total 2 f + 1 ≡ f 0 + f 1 + 1
two_sum f = omega arith

four_sum : (f : ℕ → ℕ) → total 4 f + 2 ≡ f 0 + f 1 + f 2 + f 3 + 2
four_sum f = omega arith

resolved_by_mean : (count : SampleCount) (f : ℕ → ℕ) → IsResolved count f (mean_of (count_of count) f)
resolved_by_mean One f = one_mean f
resolved_by_mean Two f = subst (λ n. IsQuotient n 2 (mean_of 2 f)) (two_sum f) (quotient (total 2 f + 1) 2 (omega arith))
resolved_by_mean Four f = subst (λ n. IsQuotient n 4 (mean_of 4 f)) (four_sum f) (quotient (total 4 f + 2) 4 (omega arith))
resolved_by_mean Eight f = quotient (total 8 f + 4) 8 (omega arith)
resolved_by_mean Sixteen f = quotient (total 16 f + 8) 16 (omega arith)

pub by_mean_of : (count : SampleCount) (f : ℕ → ℕ) (q : ℕ) → q ≡ mean_of (count_of count) f → IsResolved count f q
by_mean_of count f q e = subst (IsResolved count f) (sym e) (resolved_by_mean count f)

pub by_sum : (count : SampleCount) (f : ℕ → ℕ) (sum n : ℕ) → n ≡ count_of count → sum ≡ total (count_of count) f → IsResolved count f ((sum + n / 2) / n)
by_sum count f sum n many e = by_mean_of count f _ (rw (many, e) refl)

pub few_samples : (count : SampleCount) → count_of count ≤ 16
few_samples One = omega arith
few_samples Two = omega arith
few_samples Four = omega arith
few_samples Eight = omega arith
few_samples Sixteen = omega arith
