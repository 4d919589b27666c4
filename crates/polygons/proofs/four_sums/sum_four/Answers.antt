use Rattle.std.proofs.Common.{◌≡◌, refl, ap, ◌∙◌, arith, ℕ, zero, suc, ◌+◌, ◌*◌, ◌%◌, ◌^◌, ◌<◌, slice_index}
use Rattle.polygons.specs.Summing.{run, nonzero_bit}
use Rattle.polygons.specs.FourSums.{first_number}
use Rattle.polygons.proofs.four_sums.sum_four.Goals as goal

-- sums of the same numbers from other places on
same_run : (f g : ℕ → ℕ) (a b start n : ℕ) → ((k : ℕ) → k < n → f (a + k) ≡ g (b + k)) → run f a start n ≡ run g b start n
same_run f g a b start zero h = refl
same_run f g a b start (suc n) h = λ i. (same_run f g a b start n (λ k l. h k (omega arith)) i + h n (omega arith) i) % 2 ^ 32

pub sum_rows-requires-clause-small : goal.sum_rows-requires-clause-small
sum_rows-requires-clause-small c q h = let s = c.requires.small q h in let e = c.sums_of.ensures.each q h in omega (arith, s, e)

pub returns-clause-summed : goal.returns-clause-summed
returns-clause-summed c =
    let row = c.args.row in
    let summed = c.sum_rows.ensures in
    let f = λ (w : ℕ). first_number (slice_index c.args.downs w) (slice_index c.args.ups w) in
    let g = λ (q : ℕ). first_number (slice_index c.rows_of.result q) (slice_index c.rows_of-2.result q) in
    let start = λ (w r : ℕ). slice_index c.args.sums.now (32 * row + (8 * w + r)) in
    let inside : (w r : ℕ) → w < 4 → r < 8 → 8 * w + r < 32 = (λ w r h l. omega arith) in
    let same : (w r n : ℕ) → w < 4 → r < 8 → n < 9 → run (g (8 * w + r)) 0 (slice_index c.sums_of.result (8 * w + r)) n ≡ run (f w) (8 * r) (start w r) n = (λ w r n hw hr few.
    ap (λ s. run (g (8 * w + r)) 0 s n) (c.sums_of.ensures.each (8 * w + r) (inside w r hw hr))
    ∙ same_run (g (8 * w + r)) (f w) 0 (8 * r) (start w r) n (λ k m. (let l : k < 8 = omega arith in let e : 0 + k ≡ k = omega arith in ap (g (8 * w + r)) e ∙ (λ i. c.rows_of.ensures.each w r k hw hr l i + 4294967295 * c.rows_of-2.ensures.each w r k hw hr l i)))) in
    record {
      bits = λ w r j hw hr hj. summed.bits (8 * w + r) j (inside w r hw hr) hj ∙ ap nonzero_bit (same w r (j + 1) hw hr (omega arith));
      next = λ w r hw hr. c.set_sums.ensures.set (8 * w + r) (inside w r hw hr) ∙ summed.next (8 * w + r) (inside w r hw hr) ∙ same w r 8 hw hr (omega arith);
      other_sums = c.set_sums.ensures.others;
    }
