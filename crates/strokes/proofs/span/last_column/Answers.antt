use Rattle.std.proofs.Common.{◌≡◌, ◌∙◌, arith, ◌^◌, pos, ◌*ℤ◌, ◌<ℤ◌, w64, to_z, of_z, FitsSigned}
use Rattle.std.proofs.lemmas.Int.{ints}
use Rattle.std.specs.Int.{int_div_euclid}
use Rattle.polygons.proofs.Division.{division, quotient_size}
use Rattle.polygons.proofs.Exact.{exact64}
use Rattle.strokes.proofs.Lines.{up_to_quotient}
use Rattle.strokes.proofs.span.last_column.Goals as goal

pub returns : goal.returns
returns c =
    let n : to_z w64 (of_z w64 c.args.rest) ≡ c.args.rest = omega (arith, ints, c.requires.rest.low, c.requires.rest.high) in
    let d : to_z w64 (of_z w64 (pos 256 *ℤ to_z w64 (of_z w64 c.args.by))) ≡ pos 256 *ℤ c.args.by = omega (arith, ints, c.requires.by, c.requires.small) in
    let positive : pos 0 <ℤ (pos 256 *ℤ c.args.by) = omega (arith, ints, c.requires.by) in
    let law = division c.args.rest (pos 256 *ℤ c.args.by) positive in
    let t : FitsSigned w64 c.div_euclid.result = record { sfits = c.div_euclid.type_inv } in
    let q : to_z w64 (of_z w64 c.div_euclid.result) ≡ int_div_euclid c.args.rest (pos 256 *ℤ c.args.by) = exact64 _ t ∙ c.div_euclid.ensures ∙ (λ i. int_div_euclid (n i) (d i)) in
    record {
      columns = rw q (up_to_quotient c.args.rest c.args.by _ _ c.requires.by law.sum law.low law.high);
      size = rw q (quotient_size c.args.rest (pos 256 *ℤ c.args.by) (2 ^ 52) positive c.requires.rest);
    }
