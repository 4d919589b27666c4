use Rattle.std.proofs.Common.{◌≡◌, ◌∙◌, sym, ap, arith, ℕ, zero, suc, ◌+◌, ◌*◌, ◌/◌, ◌^◌, ◌<◌, ◌≤◌, ℤ, pos, nat_abs, w32, w64, to_z, of_z, FitsSigned, ◌+ℤ◌, ◌-ℤ◌, ◌*ℤ◌, ◌≤ℤ◌, ◌<ℤ◌}
use Rattle.std.proofs.lemmas.Int.{ints, clamps}
use Rattle.std.proofs.lemmas.Bool.{leb-true, le-leb}
use Rattle.std.specs.Int.{int_max}
use Rattle.grid.specs.Bounds.{IsWithin}
use Rattle.polygons.specs.Screen.{IsPixelInBand}
use Rattle.polygons.proofs.apart.is_right.Goals as goal

right_is : (x f pixel rest column g m : ℤ) (columns k : ℕ) → FitsSigned w32 x → IsPixelInBand column → f ≡ to_z w32 (of_z w32 x) → to_z w64 (of_z w64 f) ≡ pixel *ℤ pos 256 +ℤ rest → pos 0 ≤ℤ rest → IsWithin (2 ^ 50) pixel
    → g ≡ to_z w32 (of_z w32 column) → m ≡ int_max (to_z w64 (of_z w64 (to_z w64 (of_z w64 pixel) -ℤ to_z w64 (of_z w64 g)))) (pos 0) → columns ≤ nat_abs (to_z w64 (of_z w64 m)) / 8 → k < 8 * columns
    → (pos 256 *ℤ column +ℤ pos (256 * (k + 1))) ≤ℤ x
right_is x f pixel rest column g m columns k hx hc fx sum low size gx mx le h =
    let a : to_z w64 (of_z w64 f) ≡ x = omega (arith, ints) in
    let b : to_z w64 (of_z w64 (to_z w64 (of_z w64 pixel) -ℤ to_z w64 (of_z w64 g))) ≡ pixel -ℤ column = omega (arith, ints) in
    let big : pos (k + 1) ≤ℤ m = at_least m (pixel -ℤ column) columns k (mx_is m _ _ b mx) (record { low = omega (arith, ints); high = omega (arith, ints) }) le h in
    last x pixel rest column m k (mx_is m _ _ b mx) a sum low big
  where
    mx_is : (m u v : ℤ) → u ≡ v → m ≡ int_max u (pos 0) → m ≡ int_max v (pos 0)
    mx_is m u v e f = f ∙ ap (λ z. int_max z (pos 0)) e

    at_least : (m v : ℤ) (columns k : ℕ) → m ≡ int_max v (pos 0) → IsWithin (2 ^ 52) v → columns ≤ nat_abs (to_z w64 (of_z w64 m)) / 8 → k < 8 * columns → pos (k + 1) ≤ℤ m
    at_least m v columns k e h l n = omega (arith, ints, clamps)

    last : (x pixel rest column m : ℤ) (k : ℕ) → m ≡ int_max (pixel -ℤ column) (pos 0) → to_z w64 (of_z w64 f) ≡ x → to_z w64 (of_z w64 f) ≡ pixel *ℤ pos 256 +ℤ rest → pos 0 ≤ℤ rest → pos (k + 1) ≤ℤ m → (pos 256 *ℤ column +ℤ pos (256 * (k + 1))) ≤ℤ x
    last x pixel rest column m k e a sum low big = omega (arith, ints, clamps)

-- columns of blocks that all lie left of x
columns_are : (x f pixel rest column g m : ℤ) (columns : ℕ) → FitsSigned w32 x → IsPixelInBand column → f ≡ to_z w32 (of_z w32 x) → to_z w64 (of_z w64 f) ≡ pixel *ℤ pos 256 +ℤ rest → rest <ℤ pos 256 → IsWithin (2 ^ 50) pixel
    → g ≡ to_z w32 (of_z w32 column) → m ≡ int_max (to_z w64 (of_z w64 (to_z w64 (of_z w64 pixel) -ℤ to_z w64 (of_z w64 g)))) (pos 0) → ((k : ℕ) → k < 8 * columns → (pos 256 *ℤ column +ℤ pos (256 * (k + 1))) ≤ℤ x)
    → columns ≤ nat_abs (to_z w64 (of_z w64 m)) / 8
columns_are x f pixel rest column g m zero hx hc fx sum high size gx mx all = omega arith
columns_are x f pixel rest column g m (suc n) hx hc fx sum high size gx mx all =
    let last = all (8 * n + 7) (omega arith) in
    let a : to_z w64 (of_z w64 f) ≡ x = omega (arith, ints) in
    let b : to_z w64 (of_z w64 (to_z w64 (of_z w64 pixel) -ℤ to_z w64 (of_z w64 g))) ≡ pixel -ℤ column = omega (arith, ints) in
    within m (pixel -ℤ column) n (mx ∙ ap (λ z. int_max z (pos 0)) b) (record { low = omega (arith, ints); high = omega (arith, ints) }) (far x pixel rest column n (sym a ∙ sum) high last)
  where
    far : (x pixel rest column : ℤ) (n : ℕ) → x ≡ pixel *ℤ pos 256 +ℤ rest → rest <ℤ pos 256 → (pos 256 *ℤ column +ℤ pos (256 * (8 * n + 7 + 1))) ≤ℤ x → pos (8 * suc n) ≤ℤ (pixel -ℤ column)
    far x pixel rest column n is high last = omega (arith, ints)

    within : (m v : ℤ) (n : ℕ) → m ≡ int_max v (pos 0) → IsWithin (2 ^ 52) v → pos (8 * suc n) ≤ℤ v → suc n ≤ nat_abs (to_z w64 (of_z w64 m)) / 8
    within m v n e h l = omega (arith, ints, clamps)

pub returns : goal.returns
returns c =
    let d = c.divide-pixel.ensures in (
      λ t k h. right_is c.args.x c.from.result c.divide-pixel.result.0 c.divide-pixel.result.1 c.args.column c.from-2.result c.max.result c.args.columns k c.ranges.x c.requires c.from.ensures d.sum d.low d.size c.from-2.ensures c.max.ensures.value (leb-true _ _ t) h,
      λ all. le-leb _ _ (columns_are c.args.x c.from.result c.divide-pixel.result.0 c.divide-pixel.result.1 c.args.column c.from-2.result c.max.result c.args.columns c.ranges.x c.requires c.from.ensures d.sum d.high d.size c.from-2.ensures c.max.ensures.value all),
    )
