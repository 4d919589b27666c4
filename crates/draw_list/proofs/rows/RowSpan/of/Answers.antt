use Rattle.std.proofs.Common.{◌≡◌, ◌∙◌, ap, arith, pos, ◌+ℤ◌, w32, to_z, of_z}
use Rattle.std.specs.Int.{int_min, int_max}
use Rattle.std.proofs.lemmas.Int.{ints, clamps}
use Rattle.grid.proofs.Bounds.{passed}
use Rattle.draw_list.specs.Rows.{pixel_row, least_y, greatest_y}
use Rattle.draw_list.proofs.rows.RowSpan.of.Goals as goal

pub overflow_cast-result : goal.overflow_cast-result
overflow_cast-result c = omega (arith, ints, clamps)

pub returns : goal.returns
returns c =
    let t = c.args.t.now in
    let least_a = passed _ _ c.y.ensures.in_band c.y.ensures.value in
    let least_b = passed _ _ c.y-2.ensures.in_band c.y-2.ensures.value in
    let least_c = passed _ _ c.y-3.ensures.in_band c.y-3.ensures.value in
    let least : c.least.result ≡ least_y t = c.least.ensures.value ∙ (λ i. int_min (int_min (least_a i) (least_b i)) (least_c i)) in
    let first : c.row_of-first.result ≡ pixel_row (least_y t) = c.row_of-first.ensures.value ∙ ap pixel_row (passed _ _ c.least.ensures.in_band least) in
    let first_passed : to_z w32 (of_z w32 c.row_of-first.result) ≡ c.row_of-first.result = omega (arith, ints) in
    let greatest_a = passed _ _ c.y-4.ensures.in_band c.y-4.ensures.value in
    let greatest_b = passed _ _ c.y-5.ensures.in_band c.y-5.ensures.value in
    let greatest_c = passed _ _ c.y-6.ensures.in_band c.y-6.ensures.value in
    let greatest : c.greatest.result ≡ greatest_y t = c.greatest.ensures.value ∙ (λ i. int_max (int_max (greatest_a i) (greatest_b i)) (greatest_c i)) in
    let last : c.row_of-last.result ≡ pixel_row (greatest_y t) = c.row_of-last.ensures.value ∙ ap pixel_row (passed _ _ c.greatest.ensures.in_band greatest) in
    let after : to_z w32 (of_z w32 (to_z w32 (of_z w32 c.row_of-last.result) +ℤ pos 1)) ≡ c.row_of-last.result +ℤ pos 1 = omega (arith, ints) in
    let min_passed : to_z w32 (of_z w32 c.min.result) ≡ c.min.result = omega (arith, ints, c.min.type_inv) in
    let first_cut : c.max.result ≡ int_max (pixel_row (least_y t)) (pos 0) = c.max.ensures.value ∙ ap (λ z. int_max z (pos 0)) (first_passed ∙ first) in
    let last_cut : c.min.result ≡ int_min (pixel_row (greatest_y t) +ℤ pos 1) (pos 4096) =
    c.min.ensures.value ∙ ap (λ z. int_min z (pos 4096)) (after ∙ ap (λ z. z +ℤ pos 1) last) in
    let end_cut : c.max-2.result ≡ int_max (int_min (pixel_row (greatest_y t) +ℤ pos 1) (pos 4096)) (pos 0) =
    c.max-2.ensures.value ∙ ap (λ z. int_max z (pos 0)) (min_passed ∙ last_cut) in
    record {
      first = (omega (arith, ints, c.max.type_inv, c.max.ensures.other_bound)) ∙ first_cut;
      end = (omega (arith, ints, c.max-2.type_inv, c.max-2.ensures.other_bound)) ∙ end_cut;
    }
