use Rattle.std.proofs.Common.{rules, ◌∙◌, ap, eqb, get_or, replicate, w8}
use Rattle.std.specs.Simd.Lanes.{sel_l}
use Rattle.std.proofs.lemmas.Simd.{tops_compared}
use Rattle.blocks.proofs.MaskLanes.{chosen}
use Rattle.blocks.proofs.mask_lanes.choose_bytes.Goals as goal

pub returns : goal.returns
returns c p l =
    ap (λ ms. get_or (sel_l ms c.args.set.now c.args.clear.now) p 0) (tops_compared w8 eqb c.args.lanes (replicate 64 1))
    ∙ chosen eqb 64 1 c.args.lanes c.args.set.now c.args.clear.now c.requires (search rules) (search rules) p l
