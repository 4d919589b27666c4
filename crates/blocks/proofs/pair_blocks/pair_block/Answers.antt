use Rattle.std.proofs.Common.{refl, ◌≡◌, ◌∙◌, inl, inr, ap, sym, ℕ, ◌/◌, arith}
use Rattle.grid.specs.Samples.{count_of}
use Rattle.lanes.specs.Block.{stored_at}
use Rattle.blocks.specs.declared.way.Way.TheVariants.{Single, Pair}
use Rattle.blocks.specs.Layout.{block_in_tile, pixel_in_block, in_list, place_by, stored_in_tile, way_in_tile}
use Rattle.blocks.proofs.Places.{middle_sample}
use Rattle.blocks.proofs.Pairs.{chosen_same, put_others, put_other, put_is}
use Rattle.blocks.proofs.TilePlanes.{cases_eq, by_way}
use Rattle.blocks.proofs.pair_blocks.pair_block.Goals as goal

pub returns-clause-kept : goal.returns-clause-kept
returns-clause-kept c i j s h =
    let count = c.args.count in
    let k = c.args.k in
    let single = c.single_block.new.samples in
    let b : ℕ = c.second_place.result in
    let plane = in_list single c.place_by.result in
    let p : ℕ = pixel_in_block i j in
    let four = c.has_pairs.ensures.0 c.if-not-has_pairs.false in
    let long = c.single_block.auto.samples ∙ c.requires.samples in
    let at_single : c.place_by.result ≡ place_by count Single k 0 = c.place_by.ensures.value in
    let first : place_by count Pair k 0 ≡ place_by count Single k 0 = omega arith in
    let mid = (let room = put_is count k (count_of count / 2) b plane single c.second_place.ensures.value (middle_sample count) c.requires.block long in room) in
    elim (cases_eq (block_in_tile i j) k) [
      | inr apart ↦
          c.make_pair.ensures.others i j s h apart
          ∙ put_others count k (count_of count / 2) b plane single c.second_place.ensures.value (middle_sample count) i j s h apart
          ∙ c.single_block.ensures.kept i j s h
      | inl here ↦
          let one : stored_in_tile count single i j s ≡ stored_at (in_list single (place_by count Single k 0)) p =
          by_way count single Single i j s refl (ap (way_in_tile single) here ∙ c.single_block.ensures.single c.if-not-single_block.false)
          ∙ ap (λ m. stored_at (in_list single (place_by count Single m 0)) p) here in
          c.make_pair.ensures.made i j s h here
          ∙ chosen_same _ p _ _
          (ap (λ q. stored_at q p) (mid ∙ ap (in_list single) at_single)
          ∙ sym (ap (λ q. stored_at q p) (put_other count k (count_of count / 2) b plane single c.second_place.ensures.value (middle_sample count) 0 (λ e. omega (arith, e, four))) ∙ ap (λ q. stored_at (in_list single q) p) first))
          ∙ ap (λ q. stored_at q p) (put_other count k (count_of count / 2) b plane single c.second_place.ensures.value (middle_sample count) 0 (λ e. omega (arith, e, four)))
          ∙ ap (λ q. stored_at (in_list single q) p) first
          ∙ sym one
          ∙ c.single_block.ensures.kept i j s h
    ]
