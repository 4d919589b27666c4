-- Four signed numbers of 64 bits in lanes, which hold their bits.
use Rattle.std.proofs.Common.{◌≡◌, inl, inr, sym, ap, ◌∙◌, arith, ℕ, ◌^◌, ◌<◌, ℤ, pos, negsuc, ◌+ℤ◌, ◌-ℤ◌, suc, ◌-◌, true, false, leb, ltb, cond, List, length, get_or, map, replicate, w64, to_z, of_z}
use Rattle.std.specs.Simd.Lanes.{zip2, sel_l, top}
use Rattle.std.proofs.lemmas.Bool.{cases_lt}
use Rattle.std.proofs.lemmas.Int.{ints, to_z_pos}
use Rattle.std.proofs.lemmas.List.{get_or-map}
use Rattle.std.proofs.lemmas.Simd.{length-sel_l, get_or-sel_l}
use lib.ListN.{length-map}
use borrow.Rule.Simd.Lanes.{act2}
use borrow.Table.Row.{s_int}
use mir.Syntax.{wrap_add, wrap_sub, signed, mask, lt}
use Rattle.grid.specs.Bounds.{IsWithin}
use Rattle.polygons.specs.Walking.{if_below}
use Rattle.polygons.proofs.MaskLanes.{AreLanes, splat, zipped}
use Rattle.polygons.proofs.Walks.{below_size}

abbrev pub sum64 : ℕ → ℕ → ℕ
sum64 = act2 wrap_add (s_int w64) (s_int w64) (s_int w64)

abbrev pub difference64 : ℕ → ℕ → ℕ
difference64 = act2 wrap_sub (s_int w64) (s_int w64) (s_int w64)

abbrev pub less64 : ℕ → ℕ → ℕ
less64 = act2 (mask (lt signed)) (s_int w64) (s_int w64) (s_int w64)

-- the bits of four numbers
pub bits_of : (zs : List ℤ) → length zs ≡ 4 → AreLanes 4 (map (of_z w64) zs) (λ s. of_z w64 (get_or zs s (pos 0)))
bits_of zs long = record {
  long = length-map zs (of_z w64) ∙ long;
  each = λ s l. get_or-map (of_z w64) zs s (pos 0) 0 (omega (arith, long, l));
}

-- the number that a lane's bits are
pub number_of : (v : List ℕ) (f : ℕ → ℕ) → AreLanes 4 v f → (s : ℕ) → s < 4 → get_or (map (to_z w64) v) s (pos 0) ≡ to_z w64 (f s)
number_of v f lanes s l = let long = lanes.long in get_or-map (to_z w64) v s 0 (pos 0) (omega (arith, long, l)) ∙ ap (to_z w64) (lanes.each s l)

-- ---- a choice by the sign
-- a comparison with 0 yields the highest bit
under_zero : (n : ℕ) → top 63 (less64 n 0) ≡ leb (2 ^ 63) n
under_zero n =
    elim (cases_lt n (2 ^ 63)) [
      | inl less ↦ rw (to_z_pos w64 n less) (let e : ltb n 0 ≡ false = grind arith in let low : leb (2 ^ 63) n ≡ false = grind arith in rw e (sym low))
      | inr more ↦ (let e : ltb n (2 ^ 63) ≡ false = grind arith in let high : leb (2 ^ 63) n ≡ true = grind arith in rw e (sym high))
    ]

pub by_sign : (v xs ys : List ℕ) (f g h : ℕ → ℕ) → AreLanes 4 v f → AreLanes 4 xs g → AreLanes 4 ys h → AreLanes 4 (sel_l (map (top 63) (zip2 less64 v (replicate 4 0))) xs ys) (λ s. cond (leb (2 ^ 63) (f s)) (g s) (h s))
by_sign v xs ys f g h lanes negative others =
    let tests = zipped 4 less64 v (replicate 4 0) f _ lanes (splat 4 0) in
    let long : length (map (top 63) (zip2 less64 v (replicate 4 0))) ≡ 4 = length-map (zip2 less64 v (replicate 4 0)) (top 63) ∙ tests.long in
    let count = tests.long in
    let p = negative.long in
    let q = others.long in
    record {
      long = length-sel_l _ xs ys (long ∙ sym p) (long ∙ sym q) ∙ long;
      each = λ s l.
          get_or-sel_l _ xs ys s 0 (omega (arith, long, l)) (omega (arith, p, l)) (omega (arith, q, l))
          ∙ (λ i. cond ((get_or-map (top 63) (zip2 less64 v (replicate 4 0)) s 0 false (omega (arith, count, l)) ∙ ap (top 63) (tests.each s l) ∙ under_zero (f s)) i) (negative.each s l i) (others.each s l i));
    }

-- ---- the numbers
back : (z : ℤ) → IsWithin (2 ^ 54) z → to_z w64 (of_z w64 z) ≡ z
back z h = (let a = h.low in let b = h.high in omega (arith, ints))

pub sum_of : (x y : ℤ) → IsWithin (2 ^ 53) x → IsWithin (2 ^ 25) y → sum64 (of_z w64 x) (of_z w64 y) ≡ of_z w64 (x +ℤ y)
sum_of x y hx hy = (let a = hx.low in let b = hx.high in let c = hy.low in let d = hy.high in omega (arith, ints))

pub difference_of : (x y : ℤ) → IsWithin (2 ^ 52) x → IsWithin (2 ^ 25) y → difference64 (of_z w64 x) (of_z w64 y) ≡ of_z w64 (x -ℤ y)
difference_of x y hx hy = (let a = hx.low in let b = hx.high in let c = hy.low in let d = hy.high in omega (arith, ints))

-- a number that is taken if another one is below 0
taken : (x y : ℤ) → IsWithin (2 ^ 53) x → cond (leb (2 ^ 63) (of_z w64 x)) (of_z w64 y) 0 ≡ of_z w64 (if_below x y)
taken (pos n) y h = (let a = h.high in let low : leb (2 ^ 63) n ≡ false = grind arith in ap (λ t. cond t (of_z w64 y) 0) low)
taken (negsuc n) y h = (let a = h.low in let high : leb (2 ^ 63) (2 ^ 64 - suc n) ≡ true = grind arith in ap (λ t. cond t (of_z w64 y) 0) high)

-- a sum and, if another number is below 0, one more
pub more_if_negative : (x y z : ℤ) → IsWithin (2 ^ 53) x → IsWithin (2 ^ 53) y → IsWithin (2 ^ 25) z → to_z w64 (sum64 (of_z w64 y) (cond (leb (2 ^ 63) (of_z w64 x)) (of_z w64 z) 0)) ≡ y +ℤ if_below x z
more_if_negative x y z hx hy hz =
    let small = below_size (2 ^ 25) x z hz in
    ap (λ n. to_z w64 (sum64 (of_z w64 y) n)) (taken x z hx) ∙ ap (to_z w64) (sum_of y (if_below x z) hy small)
    ∙ back (y +ℤ if_below x z) (let a = small.low in let b = small.high in let c = hy.low in let d = hy.high in record { low = omega (arith, ints); high = omega (arith, ints) })
