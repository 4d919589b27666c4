use Rattle.std.proofs.Common.{◌≡◌, sym, ap, ◌∙◌, arith, ℕ, ◌+◌, ◌*◌, ◌%◌, slice_index}
use Rattle.std.specs.Int.{bit_at}
use Rattle.polygons.specs.BitPlanes.{cell_number}
use Rattle.polygons.specs.FourSums.{first_number}
use Rattle.polygons.proofs.BitPlanes.{run_in_planes}
use Rattle.polygons.proofs.plane_sums.sum_cells.Goals as goal

modulo : (d u : ℕ) → (d + 31 * u) % 32 ≡ (d + 4294967295 * u) % 32
modulo d u = omega arith

pub returns-clause-each : goal.returns-clause-each
returns-clause-each c row j h l =
    let d = slice_index c.args.downs row in
    let u = slice_index c.args.ups row in
    let number : (k : ℕ) → cell_number c.numbers.result row k ≡ first_number d u (0 + k) % 32 = (λ k.
    let e : 0 + k ≡ k = omega arith in
    c.numbers.ensures.each row k h ∙ modulo (bit_at d k) (bit_at u k) ∙ sym (ap (λ m. first_number d u m % 32) e)) in
    c.sum_rows.ensures.each row j h l
    ∙ run_in_planes (first_number d u) (cell_number c.add.result row) 0 (slice_index c.args.sums row) j
    (let sum = c.add.ensures.each row 0 h in let n = number 0 in let s = c.starts.ensures.first row h in omega (arith, sum, n, s))
    (λ k some m. (let sum = c.add.ensures.each row k h in let n = number k in let s = c.starts.ensures.others row k h some in omega (arith, sum, n, s)))
