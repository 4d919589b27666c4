use Rattle.std.proofs.Common.{◌≡◌, ◌∙◌, refl, ap, not, eqb, cond, length, get_or, map, replicate, bit_and, ℕ, List, ◌+◌, ◌*◌, ◌/◌, ◌%◌, ◌^◌, w8, arith}
use Rattle.std.specs.Int.{bit_at}
use Rattle.std.specs.List.{range_with_len}
use Rattle.std.specs.Simd.Lanes.{sel_l, zip2, top}
use Rattle.std.proofs.lemmas.List.FromFn.{get_or-map-range_with_len}
use Rattle.std.proofs.lemmas.Simd.{tops_compared, length-sel_l, length-zip2, get_or-replicate}
use Rattle.polygons.proofs.MaskLanes.{AreLanes, zipped, chosen, bit_of_part, tested_bit, row_of_mask}
use Rattle.polygons.proofs.mask_lanes.lanes_of_mask.Goals as goal

-- the powers of two of a row, eight times
abbrev powers : List ℕ
powers = map (λ (k : ℕ). 2 ^ (k % 8)) (range_with_len 0 64)

powers_are : AreLanes 64 powers (λ p. 2 ^ (p % 8))
powers_are = record { long = refl; each = λ p l. get_or-map-range_with_len (λ (k : ℕ). 2 ^ (k % 8)) 0 64 p p 0 l (omega arith) }

tested : (v : List ℕ) (f : ℕ → ℕ) → AreLanes 64 v f → AreLanes 64 (sel_l (zip2 (λ x y. not (eqb x y)) (zip2 bit_and v powers) (replicate 64 0)) (replicate 64 1) (replicate 64 0)) (λ p. cond (not (eqb (bit_and (f p) (2 ^ (p % 8))) 0)) 1 0)
tested v f h =
    let both = zipped 64 bit_and v powers f _ h powers_are in
    let tests = length-zip2 (λ x y. not (eqb x y)) (zip2 bit_and v powers) (replicate 64 0) both.long ∙ both.long in
    record {
      long = length-sel_l _ (replicate 64 1) (replicate 64 0) tests tests ∙ tests;
      each = λ p l. chosen (λ x y. not (eqb x y)) 64 0 (zip2 bit_and v powers) (replicate 64 1) (replicate 64 0) both.long refl refl p l
          ∙ (λ i. cond (not (eqb (both.each p l i) 0)) (get_or-replicate 64 p 1 0 l i) (get_or-replicate 64 p 0 0 l i));
    }

compared : (v : List ℕ) → map (top 7) (zip2 (λ x y. cond (not (eqb x y)) 255 0) (zip2 bit_and v powers) (replicate 64 0)) ≡ zip2 (λ x y. not (eqb x y)) (zip2 bit_and v powers) (replicate 64 0)
compared v = tops_compared w8 (λ x y. not (eqb x y)) (zip2 bit_and v powers) (replicate 64 0)

pub returns-clause-whole : goal.returns-clause-whole
returns-clause-whole c =
    let v = c.lanes_of_rows-each.result in
    let rows = c.lanes_of_rows-each.ensures in
    ap (λ ms. length {A = ℕ} (sel_l ms (replicate 64 1) (replicate 64 0))) (compared v) ∙ (tested v _ (record { long = rows.whole; each = rows.each })).long

pub returns-clause-each : goal.returns-clause-each
returns-clause-each c p l =
    let mask : ℕ = c.args.mask in
    let v = c.lanes_of_rows-each.result in
    let rows = c.lanes_of_rows-each.ensures in
    let row : get_or c.to_le_bytes-rows.result (p / 8) 0 ≡ mask / 2 ^ (8 * (p / 8)) % 2 ^ 8 = ap (λ xs. get_or xs (p / 8) 0) c.to_le_bytes-rows.ensures ∙ row_of_mask mask (p / 8) (omega (arith, l)) in
    let whole : 8 * (p / 8) + p % 8 ≡ p = omega arith in
    ap (λ ms. get_or (sel_l ms (replicate 64 1) (replicate 64 0)) p 0) (compared v)
    ∙ (tested v _ (record { long = rows.whole; each = rows.each })).each p l
    ∙ ap (λ n. cond (not (eqb (bit_and n (2 ^ (p % 8))) 0)) 1 0) row
    ∙ tested_bit (mask / 2 ^ (8 * (p / 8)) % 2 ^ 8) (p % 8)
    ∙ bit_of_part mask (8 * (p / 8)) 8 (p % 8) (omega arith)
    ∙ ap (bit_at mask) whole
