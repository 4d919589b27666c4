use Rattle.std.proofs.Common.{◌≡◌, ap, ◌∙◌, arith, ◌^◌, pos, ◌+ℤ◌, ◌-ℤ◌, cond, leb, length, slice_index_or, w64, to_z, of_z}
use Rattle.std.proofs.lemmas.Int.{ints}
use Rattle.grid.specs.Bounds.{IsWithin}
use Rattle.polygons.proofs.MaskLanes.{splat, zipped}
use Rattle.polygons.proofs.SignedLanes.{sum64, difference64, bits_of, number_of, by_sign, sum_of, difference_of, more_if_negative}
use Rattle.polygons.proofs.walk.PartWalk.next.Goals as goal

one : IsWithin (2 ^ 25) (pos 1)
one = record { low = omega (arith, ints); high = omega (arith, ints) }

pub returns : goal.returns
returns c s l =
    let d = c.args.descent.now in
    let columns = c.args.self.now.columns in
    let rests = c.args.self.now.rests in
    let step = c.requires.step in
    let column = slice_index_or columns s (pos 0) in
    let rest = slice_index_or rests s (pos 0) in
    let column_near = c.requires.columns s l in
    let rest_near = c.requires.rests s l in
    let columns_long : length columns ≡ 4 = omega arith in
    let rests_long : length rests ≡ 4 = omega arith in
    let less = zipped 4 difference64 _ _ _ _ (bits_of rests rests_long) (splat 4 (of_z w64 d.part)) in
    let less_is : difference64 (of_z w64 rest) (of_z w64 d.part) ≡ of_z w64 (rest -ℤ d.part) = difference_of rest d.part rest_near step.part in
    let less_near : IsWithin (2 ^ 53) (rest -ℤ d.part) = (let a = rest_near.low in let b = rest_near.high in let e = step.part.low in let f = step.part.high in record { low = omega (arith, ints); high = omega (arith, ints) }) in
    let along = zipped 4 sum64 _ _ _ _ (bits_of columns columns_long) (splat 4 (of_z w64 d.columns)) in
    let along_is : sum64 (of_z w64 column) (of_z w64 d.columns) ≡ of_z w64 (column +ℤ d.columns) = sum_of column d.columns (record { low = (let a = column_near.low in omega (arith, ints)); high = (let b = column_near.high in omega (arith, ints)) }) step.columns in
    let along_near : IsWithin (2 ^ 53) (column +ℤ d.columns) = (let a = column_near.low in let b = column_near.high in let e = step.columns.low in let f = step.columns.high in record { low = omega (arith, ints); high = omega (arith, ints) }) in
    record {
      next_column = number_of _ _ (zipped 4 sum64 _ _ _ _ along (by_sign _ _ _ _ _ _ less (splat 4 1) (splat 4 0))) s l ∙ (λ i. to_z w64 (sum64 (along_is i) (cond (leb (2 ^ 63) (less_is i)) 1 0))) ∙ more_if_negative (rest -ℤ d.part) (column +ℤ d.columns) (pos 1) less_near along_near one;
      next_rest = number_of _ _ (zipped 4 sum64 _ _ _ _ less (by_sign _ _ _ _ _ _ less (splat 4 (of_z w64 d.height)) (splat 4 0))) s l ∙ ap (λ n. to_z w64 (sum64 n (cond (leb (2 ^ 63) n) (of_z w64 d.height) 0))) less_is ∙ more_if_negative (rest -ℤ d.part) (rest -ℤ d.part) d.height less_near less_near step.height;
    }
