use Rattle.std.proofs.Common.{◌≡◌, ◌*◌, ◌%◌, ◌^◌, ◌≤◌, arith}
use Rattle.std.proofs.Math.Nat.{pow-le-pow_right}
use Rattle.std.proofs.lemmas.Nat.{pow_pos}
use Rattle.gradients.proofs.whole_values.large_unit.Goals as goal

pub returns-then-is_multiple-4-clause-divides : goal.returns-then-is_multiple-4-clause-divides
returns-then-is_multiple-4-clause-divides c =
    let bits = c.unit_bits-bits.result in
    let few : bits ≤ 63 = omega (arith, c.unit_bits-bits.ensures.small) in
    let most : 2 ^ bits ≤ 2 ^ 63 = pow-le-pow_right {n = 2} (omega arith) few in
    let same : 1 * 2 ^ bits % 2 ^ 64 ≡ 2 ^ bits = omega (arith, most) in
    rw same (record {
      some = pow_pos bits;
      of_area = c.is_multiple-then-is_multiple-3.ensures c.if-is_multiple-4.true;
      of_across = c.is_multiple.ensures c.if-is_multiple.true;
      of_down = c.is_multiple-then-is_multiple.ensures c.if-is_multiple-2.true;
      of_corner = c.is_multiple-then-is_multiple-2.ensures c.if-is_multiple-3.true;
    })
