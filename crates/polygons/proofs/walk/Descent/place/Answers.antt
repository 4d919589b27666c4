use Rattle.std.proofs.Common.{◌≡◌, ◌∙◌, ap, arith, ◌^◌, ℤ, pos, ◌+ℤ◌, w64, to_z, of_z, FitsSigned}
use Rattle.std.proofs.lemmas.Int.{ints}
use Rattle.std.specs.Int.{int_div_euclid}
use Rattle.grid.specs.Bounds.{IsWithin}
use Rattle.polygons.specs.Walking.{if_below}
use Rattle.polygons.proofs.Division.{quotient_size}
use Rattle.polygons.proofs.Walks.{below_size}
use Rattle.polygons.proofs.walk.Descent.place.Goals as goal

fits64 : (z : ℤ) → IsWithin (2 ^ 52) z → FitsSigned w64 z
fits64 z h = omega (arith, ints)

-- the sum as the code forms it
record IsSum (c q m n : ℤ) (d i j : ℤ) : Type 0 where
  first_fits : FitsSigned w64 (to_z w64 (of_z w64 (to_z w64 (of_z w64 c) +ℤ to_z w64 (of_z w64 q))) +ℤ to_z w64 (of_z w64 m))
  fits : FitsSigned w64 (to_z w64 (of_z w64 (to_z w64 (of_z w64 (to_z w64 (of_z w64 c) +ℤ to_z w64 (of_z w64 q))) +ℤ to_z w64 (of_z w64 m))) +ℤ to_z w64 (of_z w64 n))
  value : to_z w64 (of_z w64 (to_z w64 (of_z w64 (to_z w64 (of_z w64 (to_z w64 (of_z w64 c) +ℤ to_z w64 (of_z w64 q))) +ℤ to_z w64 (of_z w64 m))) +ℤ to_z w64 (of_z w64 n))) ≡ ((c +ℤ d) +ℤ i) +ℤ j
  size : IsWithin (2 ^ 51) (to_z w64 (of_z w64 (to_z w64 (of_z w64 (to_z w64 (of_z w64 (to_z w64 (of_z w64 c) +ℤ to_z w64 (of_z w64 q))) +ℤ to_z w64 (of_z w64 m))) +ℤ to_z w64 (of_z w64 n))))

sum : (c q m n d i j : ℤ) → q ≡ d → m ≡ i → n ≡ j → IsWithin (2 ^ 50) c → IsWithin (2 ^ 42) d → IsWithin 1 i → IsWithin 1 j → IsSum c q m n d i j
sum c q m n d i j e f g hc hd hi hj =
    let first : to_z w64 (of_z w64 (to_z w64 (of_z w64 c) +ℤ to_z w64 (of_z w64 q))) ≡ c +ℤ d = omega (arith, ints) in
    let more : to_z w64 (of_z w64 m) ≡ i = omega (arith, ints) in
    let last : to_z w64 (of_z w64 n) ≡ j = omega (arith, ints) in
    let second : to_z w64 (of_z w64 ((c +ℤ d) +ℤ i)) ≡ (c +ℤ d) +ℤ i = omega (arith, ints) in
    let third : to_z w64 (of_z w64 (((c +ℤ d) +ℤ i) +ℤ j)) ≡ ((c +ℤ d) +ℤ i) +ℤ j = omega (arith, ints) in
    record {
      first_fits = rw (first, more) (fits64 ((c +ℤ d) +ℤ i) (record { low = omega (arith, ints); high = omega (arith, ints) }));
      fits = rw (first, more, last, second) (fits64 (((c +ℤ d) +ℤ i) +ℤ j) (record { low = omega (arith, ints); high = omega (arith, ints) }));
      value = rw (first, more, last, second) third;
      size = rw (first, more, last, second, third) (record { low = omega (arith, ints); high = omega (arith, ints) });
    }

-- the quotient, by what was read
quotient : (q t : ℤ) → FitsSigned w64 t → q ≡ int_div_euclid (to_z w64 (of_z w64 t)) (pos 256) → q ≡ int_div_euclid t (pos 256)
quotient q t h is = let same : to_z w64 (of_z w64 t) ≡ t = omega (arith, ints) in is ∙ ap (λ z. int_div_euclid z (pos 256)) same

one : IsWithin 1 (pos 1)
one = record { low = omega (arith, ints); high = omega (arith, ints) }

below : (m z : ℤ) → FitsSigned w64 z → m ≡ if_below (to_z w64 (of_z w64 z)) (pos 1) → m ≡ if_below z (pos 1)
below m z h is = let same : to_z w64 (of_z w64 z) ≡ z = omega (arith, ints) in is ∙ ap (λ y. if_below y (pos 1)) same

all : (c q m n t before after : ℤ) → FitsSigned w64 t → FitsSigned w64 before → FitsSigned w64 after → q ≡ int_div_euclid (to_z w64 (of_z w64 t)) (pos 256)
    → m ≡ if_below (to_z w64 (of_z w64 before)) (pos 1) → n ≡ if_below (to_z w64 (of_z w64 after)) (pos 1) → IsWithin (2 ^ 50) c → IsWithin (2 ^ 42) t
    → IsSum c q m n (int_div_euclid t (pos 256)) (if_below before (pos 1)) (if_below after (pos 1))
all c q m n t before after ft fb fa is_q is_m is_n hc ht =
    sum c q m n _ _ _ (quotient q t ft is_q) (below m before fb is_m) (below n after fa is_n) hc (quotient_size t (pos 256) (2 ^ 42) (omega (arith, ints)) ht) (below_size 1 before (pos 1) one) (below_size 1 after (pos 1) one)

pub overflow_add-result-2 : goal.overflow_add-result-2
overflow_add-result-2 c =
    (all c.args.self.now.column c.div_euclid.result c.if_negative.result c.if_negative.result c.args.behind c.args.before c.args.before c.ranges.behind c.ranges.before c.ranges.before c.div_euclid.ensures c.if_negative.ensures c.if_negative.ensures c.requires.column c.requires.behind).first_fits

pub overflow_add-result-3 : goal.overflow_add-result-3
overflow_add-result-3 c =
    (all c.args.self.now.column c.div_euclid.result c.if_negative.result c.if_negative-2.result c.args.behind c.args.before c.args.after c.ranges.behind c.ranges.before c.ranges.after c.div_euclid.ensures c.if_negative.ensures c.if_negative-2.ensures c.requires.column c.requires.behind).fits

pub returns-clause-value : goal.returns-clause-value
returns-clause-value c =
    (all c.args.self.now.column c.div_euclid.result c.if_negative.result c.if_negative-2.result c.args.behind c.args.before c.args.after c.ranges.behind c.ranges.before c.ranges.after c.div_euclid.ensures c.if_negative.ensures c.if_negative-2.ensures c.requires.column c.requires.behind).value

pub returns-clause-size : goal.returns-clause-size
returns-clause-size c =
    (all c.args.self.now.column c.div_euclid.result c.if_negative.result c.if_negative-2.result c.args.behind c.args.before c.args.after c.ranges.behind c.ranges.before c.ranges.after c.div_euclid.ensures c.if_negative.ensures c.if_negative-2.ensures c.requires.column c.requires.behind).size
