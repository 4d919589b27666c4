use Rattle.std.proofs.Common.{◌≡◌, ◌∙◌, refl, sym, ap, ◌+◌, ◌/◌, not, eqb, cond, length, get_or, map, replicate, bit_and, ℕ, List, Bool, ◌%◌, ◌^◌, w16, arith}
use Rattle.std.specs.Int.{bit_at}
use Rattle.std.specs.List.{range_with_len}
use Rattle.std.specs.Simd.Lanes.{sel_l, zip2, top}
use Rattle.std.proofs.lemmas.List.FromFn.{get_or-map-range_with_len}
use Rattle.std.proofs.lemmas.Nat.{and_mask}
use Rattle.std.proofs.lemmas.Simd.{tops_compared, length-sel_l, length-zip2, get_or-replicate}
use Rattle.polygons.proofs.MaskLanes.{AreLanes, zipped, splat, chosen, bit_of_part, tested_bit}
use Rattle.polygons.proofs.short_places.set_lanes.Goals as goal

-- the powers of two of sixteen bits
abbrev powers : List ℕ
powers = map (λ (k : ℕ). 2 ^ k) (range_with_len 0 16)

powers_are : AreLanes 16 powers (λ p. 2 ^ p)
powers_are = record { long = refl; each = λ p l. get_or-map-range_with_len (λ (k : ℕ). 2 ^ k) 0 16 p p 0 l (omega arith) }

-- the bits that are set
abbrev marks : ℕ → List Bool
marks n = zip2 (λ x y. not (eqb x y)) (zip2 bit_and (replicate 16 n) powers) (replicate 16 0)

tested : (n : ℕ) → AreLanes 16 (sel_l (zip2 (λ x y. not (eqb x y)) (zip2 bit_and (replicate 16 n) powers) (replicate 16 0)) (replicate 16 1) (replicate 16 0)) (λ p. bit_at n p)
tested n =
    let both = zipped 16 bit_and (replicate 16 n) powers _ _ (splat 16 n) powers_are in
    let tests = length-zip2 (λ x y. not (eqb x y)) (zip2 bit_and (replicate 16 n) powers) (replicate 16 0) both.long ∙ both.long in
    record {
      long = length-sel_l {X = ℕ} (marks n) (replicate 16 1) (replicate 16 0) tests tests ∙ tests;
      each = λ p l. chosen (λ x y. not (eqb x y)) 16 0 (zip2 bit_and (replicate 16 n) powers) (replicate 16 1) (replicate 16 0) both.long refl refl p l
          ∙ (λ i. cond (not (eqb (both.each p l i) 0)) (get_or-replicate 16 p 1 0 l i) (get_or-replicate 16 p 0 0 l i)) ∙ tested_bit n p;
    }

compared : (n : ℕ) → map (top 15) (zip2 (λ x y. cond (not (eqb x y)) 65535 0) (zip2 bit_and (replicate 16 n) powers) (replicate 16 0)) ≡ zip2 (λ x y. not (eqb x y)) (zip2 bit_and (replicate 16 n) powers) (replicate 16 0)
compared n = tops_compared w16 (λ x y. not (eqb x y)) (zip2 bit_and (replicate 16 n) powers) (replicate 16 0)

pub returns-clause-whole : goal.returns-clause-whole
returns-clause-whole c =
    let n : ℕ = bit_and c.args.bits 65535 in
    ap (λ ms. length {A = ℕ} (sel_l ms (replicate 16 1) (replicate 16 0))) (compared n) ∙ (tested n).long

pub returns-clause-each : goal.returns-clause-each
returns-clause-each c p l =
    let whole : c.args.bits / 2 ^ 0 ≡ c.args.bits = omega arith in
    let here : 0 + p ≡ p = omega arith in
    let n : ℕ = bit_and c.args.bits 65535 in
    ap (λ ms. get_or (sel_l ms (replicate 16 1) (replicate 16 0)) p 0) (compared n) ∙ (tested n).each p l
    ∙ ap (λ m. bit_at m p) (and_mask c.args.bits 16) ∙ ap (λ m. bit_at (m % 2 ^ 16) p) (sym whole) ∙ bit_of_part c.args.bits 0 16 p l ∙ ap (bit_at c.args.bits) here
