use Rattle.std.proofs.Common.{◌≡◌, ap, ◌∙◌, ℕ, slice_index, replicate}
use Rattle.std.specs.Int.{bit_at}
use Rattle.std.proofs.lemmas.Simd.{get_or-replicate}
use Rattle.std.proofs.lemmas.Nat.Bits.{bit_at-lt, bit_at-zero}
use Rattle.polygons.proofs.BitPlanes.{sum_of_planes}
use Rattle.polygons.proofs.bit_planes.add.Goals as goal

pub returns-clause-each : goal.returns-clause-each
returns-clause-each c row i h =
    let none : bit_at (slice_index (replicate 32 0) row) i ≡ 0 = ap (λ n. bit_at n i) (get_or-replicate 32 row 0 0 h) ∙ bit_at-zero i in
    let bit = λ (n : ℕ). bit_at-lt n i in
    sum_of_planes _ _ _ _ _ _ _ _ _ _ _ _ _ _ _ _ _ _ _ _ _ none
    (bit (slice_index c.add_bits.result.0 row)) (bit (slice_index c.add_bits-2.result.0 row)) (bit (slice_index c.add_bits-3.result.0 row)) (bit (slice_index c.add_bits-4.result.0 row)) (bit (slice_index c.add_bits-5.result.0 row))
    (c.add_bits.ensures.each row i h) (c.add_bits-2.ensures.each row i h) (c.add_bits-3.ensures.each row i h) (c.add_bits-4.ensures.each row i h) (c.add_bits-5.ensures.each row i h)
