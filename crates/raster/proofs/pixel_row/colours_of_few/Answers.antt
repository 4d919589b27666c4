use Rattle.std.proofs.Common.{◌≡◌, ℕ, [], ◌∙◌, inl, inr, sym, rules, ◌+◌, ◌-◌, ◌*◌, ◌/◌, ◌%◌, take, drop, get_or-take, get_or-drop, slice_index, slice_index_or, arith}
use denote.Enum.Bare.{same_true, same_false}
use Rattle.grid.specs.contracts.sample_count.SampleCount.{the_type}
use Rattle.grid.specs.declared.sample_count.SampleCount.TheVariants.{One, Four}
use Rattle.lanes.specs.declared.block_samples.BlockSamples.{BlockSamples}
use Rattle.raster.specs.Samples.{place_of}
use Rattle.raster.proofs.PixelRow.{one_resolved, four_resolved, four_in_row}
use Rattle.raster.proofs.pixel_row.colours_of_few.Goals as goal
use Rattle.raster.proofs.pixel_row.colours_of_few.Goals.{then-eq, else-eq}

pub returns-clause-colours : goal.returns-clause-colours
returns-clause-colours c = elim c.if-eq.branch [
  | then-eq w ↦
      let one : c.args.tile.now.count ≡ One = same_true the_type (search rules) _ _ (sym c.eq.ensures ∙ w.if-eq.true) in
      rw w.result-is
      (λ i h.
      let bytes = w.interleaved.ensures.bytes i h in
      let from : ℕ = 8 * (c.args.row % 8) in
      let first : BlockSamples = slice_index_or c.args.samples.now w.place_by_count.result (record { z = []; r = []; g = []; b = []; alpha = [] }) in
      one_resolved c.args.tile.now c.args.samples.now c.args.row c.args.column i h one
      (slice_index w.interleaved.result (3 * i)) (slice_index w.interleaved.result (3 * i + 1)) (slice_index w.interleaved.result (3 * i + 2))
      (rw w.place_by_count.ensures.value at (bytes.0 ∙ get_or-take 8 (take (64 - from) (drop from first.r)) i 0 h ∙ get_or-take (64 - from) (drop from first.r) i 0 (omega arith) ∙ get_or-drop from first.r i 0))
      (rw w.place_by_count.ensures.value at (bytes.1 ∙ get_or-take 8 (take (64 - from) (drop from first.g)) i 0 h ∙ get_or-take (64 - from) (drop from first.g) i 0 (omega arith) ∙ get_or-drop from first.g i 0))
      (rw w.place_by_count.ensures.value at (bytes.2 ∙ get_or-take 8 (take (64 - from) (drop from first.b)) i 0 h ∙ get_or-take (64 - from) (drop from first.b) i 0 (omega arith) ∙ get_or-drop from first.b i 0)))
  | else-eq v ↦
      let is_four : c.args.tile.now.count ≡ Four = elim c.requires.few [
        | inl one ↦ absurd (same_false the_type _ _ (sym c.eq.ensures ∙ v.if-eq.false) one)
        | inr four ↦ four
      ] in
      rw v.result-is
      (λ i h.
      let bytes = v.interleaved-else-eq.ensures.bytes i h in
      let all = v.interleaved-else-eq.result in
      let from : ℕ = 8 * (c.args.row % 8) in
      let place = v.place_by_count-place.result in
      let at : ℕ → ℕ = place_of c.args.tile.now (c.args.row / 8) c.args.column in
      let one : place + 1 ≡ at 1 = omega (arith, v.place_by_count-place.ensures.value) in
      let two : place + 2 ≡ at 2 = omega (arith, v.place_by_count-place.ensures.value) in
      let three : place + 3 ≡ at 3 = omega (arith, v.place_by_count-place.ensures.value) in
      four_resolved c.args.tile.now c.args.samples.now c.args.row c.args.column i h is_four
      (slice_index all (3 * i)) (slice_index all (3 * i + 1)) (slice_index all (3 * i + 2))
      (four_in_row _ _ _ _ v.means_of_four-red.result from i _ (rw (one, two, three, v.place_by_count-place.ensures.value) at (v.means_of_four-red.ensures.resolved i h)) bytes.0)
      (four_in_row _ _ _ _ v.means_of_four-green.result from i _ (rw (one, two, three, v.place_by_count-place.ensures.value) at (v.means_of_four-green.ensures.resolved i h)) bytes.1)
      (four_in_row _ _ _ _ v.means_of_four-blue.result from i _ (rw (one, two, three, v.place_by_count-place.ensures.value) at (v.means_of_four-blue.ensures.resolved i h)) bytes.2))
]
