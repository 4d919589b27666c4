use Rattle.std.proofs.Common.{◌≡◌, ◌≢◌, ◌∙◌, inl, inr, refl, ap, sym, true, ℕ, ◌<◌, arith}
use Rattle.std.proofs.lemmas.Bool.{false≢true}
use Rattle.lanes.specs.Block.{stored_at}
use Rattle.blocks.specs.declared.way.Way.{Way}
use Rattle.blocks.specs.declared.way.Way.TheVariants.{Cleared, Single, Own}
use Rattle.blocks.specs.Layout.{place_by, is_plain, in_list}
use Rattle.blocks.proofs.FlatBlocks.{seen_one}
use Rattle.blocks.proofs.Ways.{own_not_cleared, own_not_single}
use Rattle.blocks.proofs.flat_block.one_sample.Goals as goal

pub returns-in_default-clause-some : goal.returns-in_default-clause-some
returns-in_default-clause-some c sample one ways =
    let count = c.args.count in
    let k = c.args.k in
    let xs = c.args.samples.now in
    let all : (way : Way) → c.way_of-way.result ≡ way → is_plain way ≡ true → way ≢ Own → (p : ℕ) → p < 64 → stored_at (in_list xs c.place_by.result) p ≡ sample =
    λ way is plain not_own p l.
    ap (λ n. stored_at (in_list xs n) p) (c.place_by.ensures.value ∙ ap (λ w. place_by count w k 0) is) ∙ seen_one count k way xs sample (sym c.way_of-way.ensures ∙ is) plain not_own c.requires.block one p l in
    let same : (p : ℕ) → p < 64 → stored_at (in_list xs c.place_by.result) p ≡ sample =
    elim c.in-Cleared.is [
      | inl cleared ↦ all Cleared cleared refl (λ e. own_not_cleared (sym e))
      | inr single ↦ all Single single refl (λ e. own_not_single (sym e))
    ] in
    absurd (false≢true (sym c.if-is_flat.false ∙ c.is_flat.ensures.1 (λ p l. same p l ∙ sym (same 0 (omega arith)))))
