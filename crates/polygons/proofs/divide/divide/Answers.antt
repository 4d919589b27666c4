use Rattle.std.proofs.Common.{◌≡◌, ◌∙◌, ◌^◌, w64, to_z, of_z, FitsSigned}
use Rattle.std.specs.Int.{int_div_euclid, int_rem_euclid}
use Rattle.polygons.proofs.Division.{division, quotient_size}
use Rattle.polygons.proofs.Exact.{exact64}
use Rattle.polygons.proofs.divide.divide.Goals as goal

pub returns : goal.returns
returns c =
    let n = exact64 c.args.number c.ranges.number in
    let d = exact64 c.args.by c.ranges.by in
    let tq : FitsSigned w64 c.div_euclid-quotient.result = record { sfits = c.div_euclid-quotient.type_inv } in
    let tr : FitsSigned w64 c.rem_euclid-rest.result = record { sfits = c.rem_euclid-rest.type_inv } in
    let q : to_z w64 (of_z w64 c.div_euclid-quotient.result) ≡ int_div_euclid c.args.number c.args.by =
    exact64 _ tq ∙ c.div_euclid-quotient.ensures ∙ (λ i. int_div_euclid (n i) (d i)) in
    let r : to_z w64 (of_z w64 c.rem_euclid-rest.result) ≡ int_rem_euclid c.args.number c.args.by =
    exact64 _ tr ∙ c.rem_euclid-rest.ensures.value ∙ (λ i. int_rem_euclid (n i) (d i)) in
    let law = division c.args.number c.args.by c.requires.by in
    record {
      sum = rw (q, r) law.sum;
      low = rw r law.low;
      high = rw r law.high;
      size = rw q (quotient_size c.args.number c.args.by (2 ^ 50) c.requires.by c.requires.number);
      no_larger = λ m h. rw q (quotient_size c.args.number c.args.by m c.requires.by h);
    }
