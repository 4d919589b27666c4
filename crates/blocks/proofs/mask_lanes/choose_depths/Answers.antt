use Rattle.std.proofs.Common.{rules, ◌∙◌, ap, eqb, get_or, replicate, map, cond, w16}
use Rattle.std.specs.Simd.Lanes.{sel_l, zip2, top}
use Rattle.std.proofs.lemmas.List.{map-id}
use Rattle.std.proofs.lemmas.Simd.{tops_compared}
use Rattle.blocks.proofs.MaskLanes.{chosen}
use Rattle.blocks.proofs.mask_lanes.choose_depths.Goals as goal

pub returns : goal.returns
returns c p l =
    let set = c.args.set.now in
    let clear = c.args.clear.now in
    ap (λ ms. get_or (sel_l ms set clear) p 0) (ap (λ v. map (top 15) (zip2 (λ x y. cond (eqb x y) 65535 0) v (replicate 64 1))) (map-id c.args.lanes) ∙ tops_compared w16 eqb c.args.lanes (replicate 64 1))
    ∙ chosen eqb 64 1 c.args.lanes set clear c.requires (search rules) (search rules) p l
