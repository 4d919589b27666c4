use Rattle.std.proofs.Common.{◌≡◌, refl, sym, ap, arith, ℕ, ◌+◌, ◌*◌, ◌<◌, slice_index}
use Rattle.std.proofs.lemmas.Nat.Bits.{bit_at-lt}
use Rattle.polygons.specs.declared.bit_planes.BitPlanes.{BitPlanes}
use Rattle.polygons.specs.BitPlanes.{cell_number}
use Rattle.polygons.proofs.ByteSums.{window_one, window_doubled, window_whole}
use Rattle.polygons.proofs.BitPlanes.{of_planes}
use Rattle.polygons.proofs.bit_planes.sum_rows.Goals as goal

small : (planes : BitPlanes) (row j : ℕ) → cell_number planes row j < 32
small planes row j = below _ _ _ _ _ (bit_at-lt (slice_index planes.ones row) j) (bit_at-lt (slice_index planes.twos row) j) (bit_at-lt (slice_index planes.fours row) j) (bit_at-lt (slice_index planes.eights row) j) (bit_at-lt (slice_index planes.sixteens row) j)
  where
    below : (a b c d e : ℕ) → a < 2 → b < 2 → c < 2 → d < 2 → e < 2 → a + 2 * b + 4 * c + 8 * d + 16 * e < 32
    below a b c d e p q r s t = omega arith

pub returns-clause-each : goal.returns-clause-each
returns-clause-each c row j h l =
    let f = cell_number c.args.numbers row in
    let first = window_one 32 of_planes f 0 f (λ k m. (let e : 0 + k ≡ k = omega arith in sym (ap f e))) (λ k m. small c.args.numbers row k) in
    let second = window_doubled 32 of_planes f 0 1 2 _ _ (cell_number c.add-two.result row) refl (λ k m. c.moved.ensures.each row k h m) (λ k m. c.add-two.ensures.each row k h) first in
    let third = window_doubled 32 of_planes f 0 2 4 _ _ (cell_number c.add-four.result row) refl (λ k m. c.moved-2.ensures.each row k h m) (λ k m. c.add-four.ensures.each row k h) second in
    window_whole 32 of_planes f 0 _ (window_doubled 32 of_planes f 0 4 8 _ _ (cell_number c.add.result row) refl (λ k m. c.moved-3.ensures.each row k h m) (λ k m. c.add.ensures.each row k h) third) j l
