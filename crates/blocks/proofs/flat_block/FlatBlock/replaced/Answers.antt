use Rattle.std.proofs.Common.{rules, refl, inl, inr, ◌⊎◌, ◌≡◌}
use Rattle.blocks.specs.FlatBlocks.{HaveFirst, HaveSecond}
use Rattle.blocks.proofs.flat_block.FlatBlock.replaced.Goals as goal
use Rattle.blocks.proofs.flat_block.FlatBlock.replaced.Goals.{then-eq-via-then-eq, then-eq-via-else-eq+then-are_all}

pub returns-then-eq-clause-some : goal.returns-then-eq-clause-some
returns-then-eq-clause-some c =
    let flat = c.args.self.now in
    let masks = c.args.masks.now in
    let left : HaveFirst c.args.count flat masks ⊎ HaveSecond c.args.count flat masks ⊎ (flat.first ≡ c.args.first) ⊎ (flat.second ≡ c.args.second) =
    elim c.then-eq.branch [
      | then-eq-via-then-eq w ↦ inr (inr (inl (search rules)))
      | then-eq-via-else-eq+then-are_all w ↦ inl (w.are_all.ensures.0 w.if-are_all.true)
    ] in
    (λ _. inr (record { same = search rules; left = left }), λ _. refl)
