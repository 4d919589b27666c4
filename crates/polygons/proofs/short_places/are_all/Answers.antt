use Rattle.std.proofs.Common.{◌≡◌, ◌∙◌, sym, ap, arith, ℕ, List, eqb, cond, length, get_or, map, replicate, w16}
use Rattle.std.specs.Simd.Lanes.{zip2, sel_l, top}
use Rattle.std.proofs.lemmas.Bool.{eq-eqb}
use Rattle.polygons.proofs.ByteSums.{none_differ}
use Rattle.polygons.proofs.MaskLanes.{AreLanes, splat}
use Rattle.polygons.proofs.Sixteen.{itself, zipped, selected, top_of}
use Rattle.polygons.proofs.Sixteen.{splat as splat16}
use Rattle.polygons.proofs.short_places.are_all.Goals as goal

-- the numbers whose lane is 1, and this one in the other lanes
chosen : (counted numbers : List ℕ) (number : ℕ) → length counted ≡ 16 → length numbers ≡ 16
    → AreLanes 16 (sel_l (map (top 15) (zip2 (λ x y. cond (eqb x y) 65535 0) counted (replicate 16 1))) numbers (replicate 16 number)) (λ s. cond (eqb (get_or counted s 0) 1) (get_or numbers s 0) number)
chosen counted numbers number p q =
    let h = selected _ numbers (replicate 16 number) _ _ _ (zipped (λ x y. cond (eqb x y) 65535 0) counted (replicate 16 1) _ _ (itself counted p) (splat16 1)) (itself numbers q) (splat16 number) in
    record { long = h.long; each = λ s l. h.each s l ∙ ap (λ b. cond b (get_or numbers s 0) number) (top_of (eqb (get_or counted s 0) 1)) }

pub returns : goal.returns
returns c t s l one =
    let n : ℕ = get_or c.args.numbers s 0 in
    let is = (none_differ w16 16 _ (replicate 16 c.args.number) _ _ (omega arith) (chosen c.args.counted c.args.numbers c.args.number c.requires.counted c.requires.numbers) (splat 16 c.args.number)).0 t s l in
    sym (ap (λ b. cond b n c.args.number) (eq-eqb (get_or c.args.counted s 0) 1 one)) ∙ is
