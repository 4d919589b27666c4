use Rattle.std.proofs.Common.{◌≡◌, ◌∙◌, refl, ap, not, eqb, cond, get_or, map, replicate, bit_and, ℕ, List, ◌++◌, ◌+◌, ◌*◌, ◌/◌, ◌%◌, ◌^◌, w8, arith}
use Rattle.std.specs.Int.{bit_at}
use Rattle.std.specs.List.{range_with_len}
use Rattle.std.specs.Simd.Lanes.{sel_l, zip2}
use Rattle.std.proofs.lemmas.List.{get_or_append_left}
use Rattle.std.proofs.lemmas.List.FromFn.{get_or-map-range_with_len}
use Rattle.std.proofs.lemmas.Simd.{tops_compared, get_or-zip2, get_or-replicate}
use Rattle.blocks.proofs.MaskLanes.{chosen, bit_of_part, tested_bit, row_of_mask}
use Rattle.blocks.proofs.mask_lanes.lanes_of_mask.Goals as goal

pub returns-clause-each : goal.returns-clause-each
returns-clause-each c p l =
    let mask : ℕ = c.args.mask in
    let rows : List ℕ = c.to_le_bytes-rows.result in
    let each : List ℕ = map (λ (k : ℕ). get_or (rows ++ rows) (k / 8) 0) (range_with_len 0 64) in
    let powers : List ℕ = map (λ (k : ℕ). 2 ^ (k % 8)) (range_with_len 0 64) in
    let both : List ℕ = zip2 bit_and each powers in
    let row : get_or rows (p / 8) 0 ≡ mask / 2 ^ (8 * (p / 8)) % 2 ^ 8 = ap (λ xs. get_or xs (p / 8) 0) c.to_le_bytes-rows.ensures ∙ row_of_mask mask (p / 8) (omega (arith, l)) in
    let here : get_or both p 0 ≡ bit_and (mask / 2 ^ (8 * (p / 8)) % 2 ^ 8) (2 ^ (p % 8)) =
    get_or-zip2 bit_and each powers p 0 0 0 (omega (arith, l)) (omega (arith, l))
    ∙ ap (λ x. bit_and x (get_or powers p 0)) (get_or-map-range_with_len (λ (k : ℕ). get_or (rows ++ rows) (k / 8) 0) 0 64 p p 0 l (omega arith) ∙ get_or_append_left rows rows 0 (p / 8) (omega (arith, l)) ∙ row)
    ∙ ap (bit_and (mask / 2 ^ (8 * (p / 8)) % 2 ^ 8)) (get_or-map-range_with_len (λ (k : ℕ). 2 ^ (k % 8)) 0 64 p p 0 l (omega arith)) in
    let whole : 8 * (p / 8) + p % 8 ≡ p = omega arith in
    ap (λ ms. get_or (sel_l ms (replicate 64 1) (replicate 64 0)) p 0) (tops_compared w8 (λ x y. not (eqb x y)) both (replicate 64 0))
    ∙ chosen (λ x y. not (eqb x y)) 64 0 both (replicate 64 1) (replicate 64 0) refl refl refl p l
    ∙ (λ i. cond (not (eqb (here i) 0)) (get_or-replicate 64 p 1 0 l i) (get_or-replicate 64 p 0 0 l i))
    ∙ tested_bit (mask / 2 ^ (8 * (p / 8)) % 2 ^ 8) (p % 8)
    ∙ bit_of_part mask (8 * (p / 8)) 8 (p % 8) (omega arith)
    ∙ ap (bit_at mask) whole
