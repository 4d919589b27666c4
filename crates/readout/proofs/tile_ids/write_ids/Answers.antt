use Rattle.std.proofs.Common.{◌≡◌, ◌∙◌, ap, sym, ◌+◌, ◌-◌, ◌*◌, ◌/◌, ◌%◌, ◌<◌, ◌≤◌, ℕ, refl, length, slice_index, arith}
use Rattle.grid.specs.Samples.{count_of}
use Rattle.blocks.specs.Layout.{block_in_tile, pixel_in_block, stored_in_tile, id_of}
use Rattle.readout.proofs.Units.{no_units, more_units, all_units}
use Rattle.readout.proofs.TileEntries.{HasIdsOf, number_in, number_below, block_of_number, index_of_number}
use Rattle.readout.proofs.tile_ids.write_ids.Goals as goal

pub loop-number-init : goal.loop-number-init
loop-number-init c = no_units 64 (λ n ids. HasIdsOf c.args.count c.args.samples.now n ids) c.args.ids.now

pub loop-number-preserved : goal.loop-number-preserved
loop-number-preserved c =
    let count = c.args.count in
    let xs = c.args.samples.now in
    let number : ℕ = c.loop-number.number in
    let ids = c.loop-number.ids in
    let run = c.write_block_ids.new.ids in
    let many : ℕ = c.count-many.result in
    let is : many ≡ count_of count = c.count-many.ensures in
    let from : ℕ = 64 * number in
    let n : ℕ = from + 64 - from in
    let below : number < 64 * many = c.loop-number-test.true in
    let room : from + n ≤ length ids = omega (arith, below, is, c.loop-number.auto.ids, c.requires.ids) in
    let here : (i : ℕ) → i < 1 → HasIdsOf count xs (number + i) (λ k. slice_index run (i * 64 + k)) =
    λ i one column row block.
    let zero_is : i ≡ 0 = omega (arith, one) in
    let entry : i * 64 + pixel_in_block column row ≡ pixel_in_block column row = omega (arith, zero_is) in
    let same : number + i ≡ number = omega (arith, zero_is) in
    ap (λ m. slice_index run m) entry
    ∙ c.write_block_ids.ensures column row (block ∙ ap (λ m. m / count_of count) same ∙ ap (λ m. number / m) (sym is))
    ∙ ap (λ s. id_of (stored_in_tile count xs column row s)) (ap (λ m. number % m) is ∙ ap (λ m. m % count_of count) (sym same)) in
    more_units 64 (λ n ids. HasIdsOf count xs n ids) (λ i f g same p column row block. same (pixel_in_block column row) (omega arith) ∙ p column row block) number 1 from n ids run (omega arith) (omega arith) room (omega (arith, c.write_block_ids.auto.ids, room)) c.loop-number.invariant here (number + 1) refl

pub returns : goal.returns
returns c i j s h =
    let count = c.args.count in
    let xs = c.args.samples.now in
    let q : ℕ = block_in_tile i j in
    let below = number_below count q s (omega arith) h in
    all_units 64 (λ n ids. HasIdsOf count xs n ids) c.loop-number.number (64 * count_of count) c.loop-number.ids
    (omega (arith, c.loop-number-test.false, c.count-many.ensures)) c.loop-number.invariant (number_in count i j s) below i j (sym (block_of_number count q s h))
    ∙ ap (λ t. id_of (stored_in_tile count xs i j t)) (index_of_number count q s h)
