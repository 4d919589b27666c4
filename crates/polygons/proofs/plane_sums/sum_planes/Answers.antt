use Rattle.std.proofs.Common.{ap, ◌∙◌, arith, ℕ, ◌+◌, ◌%◌, ◌^◌, ◌<◌, slice_index}
use Rattle.std.proofs.lemmas.Nat.Bits.{bit_at-lt}
use Rattle.polygons.specs.Summing.{run, nonzero_bit}
use Rattle.polygons.specs.FourSums.{first_number}
use Rattle.polygons.proofs.RunningSums.{run_small}
use Rattle.polygons.proofs.BitPlanes.{near_number, near_zero, nonzero_of, end_of_sum}
use Rattle.polygons.proofs.plane_sums.sum_planes.Goals as goal

pub returns : goal.returns
returns c =
    let cells = c.sum_cells-cells.ensures in
    let f = λ (row : ℕ). first_number (slice_index c.args.downs row) (slice_index c.args.ups row) in
    let start = λ (row : ℕ). slice_index c.args.sums row in
    let near : (row j : ℕ) → row < 32 → j < 8 → (run (f row) 0 (start row) (j + 1) + 16) % 2 ^ 32 < 32 = (λ row j h l.
    near_zero (f row) 0 (start row) (j + 1) (omega arith) (c.requires.small row h) (λ k m. near_number _ _ (bit_at-lt (slice_index c.args.downs row) (0 + k)) (bit_at-lt (slice_index c.args.ups row) (0 + k)))) in
    record {
      whole = c.nonzero.ensures.whole;
      ends_whole = c.ends.ensures.whole;
      bits = λ row j h l.
          c.nonzero.ensures.each row j h ∙ ap nonzero_bit (cells.each row j h l) ∙ nonzero_of (run (f row) 0 (start row) (j + 1)) (run_small (f row) 0 (start row) j) (near row j h l);
      next = λ row h.
          let last : 7 < 8 = omega arith in
          c.ends.ensures.each row h ∙ ap (λ n. ((n + 16) % 32 + 4294967280) % 2 ^ 32) (cells.each row 7 h last) ∙ end_of_sum (run (f row) 0 (start row) 8) (run_small (f row) 0 (start row) 7) (near row 7 h last);
    }
