use Rattle.std.proofs.Common.{◌≡◌, refl, ap, ◌∙◌, arith, ℕ, ◌-◌, ◌^◌, ◌<◌, suc, ℤ, pos, negsuc, true, false, cond, leb, List, length, get_or, map, replicate, w64, of_z}
use Rattle.std.specs.Int.{int_max}
use Rattle.std.specs.Simd.Lanes.{zip2, sel_l, top}
use Rattle.std.proofs.lemmas.Int.{ints, clamps, to_z_pos}
use Rattle.std.proofs.lemmas.List.{get_or-map}
use Rattle.std.proofs.lemmas.Simd.{Each1-from_get_or}
use borrow.Rule.Simd.Lanes.{act1, Asks1}
use borrow.Table.Row.{s_int}
use mir.Syntax.{cast, signed, unsigned}
use Rattle.grid.specs.Bounds.{IsWithin}
use Rattle.polygons.proofs.MaskLanes.{AreLanes, splat}
use Rattle.polygons.proofs.SignedLanes.{less64, bits_of, by_sign}
use Rattle.polygons.proofs.part_rows.four_in_strip.Goals as goal

-- the bits of a column, or 0
at_least_0 : (zs : List ℤ) → length zs ≡ 4 → AreLanes 4 (sel_l (map (top 63) (zip2 less64 (map (of_z w64) zs) (replicate 4 0))) (replicate 4 0) (map (of_z w64) zs)) (λ s. cond (leb (2 ^ 63) (of_z w64 (get_or zs s (pos 0)))) 0 (of_z w64 (get_or zs s (pos 0))))
at_least_0 zs long = by_sign _ _ _ _ _ _ (bits_of zs long) (splat 4 0) (bits_of zs long)

abbrev cast64 : ℕ → ℕ
cast64 = act1 (cast signed unsigned w64) (s_int w64) (s_int w64)

cast_is : (n : ℕ) → n < 2 ^ 63 → cast64 n ≡ n
cast_is n l = grind arith

cast_fits : (n : ℕ) → n < 2 ^ 63 → Asks1 (cast signed unsigned w64) (s_int w64) n
cast_fits n l = rw (to_z_pos w64 n l) (tt, record { fits = omega arith })

-- what is cast, and that it is the number or 0
small : (z : ℤ) → IsWithin (2 ^ 52) z → cond (leb (2 ^ 63) (of_z w64 z)) 0 (of_z w64 z) < 2 ^ 63
small (pos n) h = (let a = h.high in let low : leb (2 ^ 63) n ≡ false = grind arith in rw low (omega (arith, ints)))
small (negsuc n) h = (let a = h.low in let high : leb (2 ^ 63) (2 ^ 64 - suc n) ≡ true = grind arith in rw high (omega arith))

is_most : (z : ℤ) → IsWithin (2 ^ 52) z → pos (cond (leb (2 ^ 63) (of_z w64 z)) 0 (of_z w64 z)) ≡ int_max z (pos 0)
is_most (pos n) h = (let a = h.high in let low : leb (2 ^ 63) n ≡ false = grind arith in ap (λ t. pos (cond t 0 n)) low ∙ omega (arith, ints, clamps))
is_most (negsuc n) h = (let a = h.low in let high : leb (2 ^ 63) (2 ^ 64 - suc n) ≡ true = grind arith in ap (λ t. pos (cond t 0 (2 ^ 64 - suc n))) high ∙ refl)

pub overflow_cast-result : goal.overflow_cast-result
overflow_cast-result c =
    let long : length c.args.columns.now ≡ 4 = omega arith in
    let lanes = at_least_0 c.args.columns.now long in
    Each1-from_get_or _ _ 0 (λ s h. (let count = lanes.long in let l : s < 4 = omega (arith, count, h) in rw (lanes.each s l) (cast_fits _ (small _ (c.requires s l)))))

pub returns-clause-each : goal.returns-clause-each
returns-clause-each c s l =
    let long : length c.args.columns.now ≡ 4 = omega arith in
    let lanes = at_least_0 c.args.columns.now long in
    let count = lanes.long in
    ap pos (get_or-map cast64 _ s 0 0 (omega (arith, count, l)) ∙ ap cast64 (lanes.each s l) ∙ cast_is _ (small _ (c.requires s l))) ∙ is_most _ (c.requires s l)
