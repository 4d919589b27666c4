use Rattle.std.proofs.Common.{◌≡◌, ◌∙◌, sym, ap, subst, ◌+◌, ◌-◌, ◌*◌, ◌<◌, ℕ, take, drop, slice_index, slice_set, arith}
use Rattle.std.specs.Prelude.{slice_index_or}
use Rattle.grid.specs.Samples.{count_of}
use Rattle.lanes.specs.Block.{stored_at}
use Rattle.blocks.specs.Layout.{block_in_tile, place_in_tile, pixel_in_block, slot_by, in_list, sample_place}
use Rattle.readout.specs.Tiles.{entry_in_tile, with_colour}
use Rattle.blocks.proofs.Cut.{part_of}
use Rattle.blocks.proofs.Places.{none}
use Rattle.blocks.proofs.TilePlanes.{own_place}
use Rattle.readout.proofs.TileEntries.{number_in, number_below, AreRecoloured, none_recoloured, one_recoloured, sample_recoloured}
use Rattle.readout.proofs.tile_colours.store_each.Goals as goal

pub loop-number-init : goal.loop-number-init
loop-number-init c =
    let own : ℕ = 1 + c.count-many.result in
    let start : own ≡ own + 0 = omega arith in
    subst (λ p. AreRecoloured own p (λ p k. slice_index c.args.colours.now (64 * (p - own) + k)) c.fill_tile.new.samples c.fill_tile.new.samples) start (none_recoloured own (λ p k. slice_index c.args.colours.now (64 * (p - own) + k)) c.fill_tile.new.samples)

pub loop-number-preserved : goal.loop-number-preserved
loop-number-preserved c =
    let own : ℕ = 1 + c.count-many.result in
    let number : ℕ = c.loop-number.number in
    let colours = c.args.colours.now in
    let xs = c.loop-number.samples in
    let f : ℕ → ℕ → ℕ = λ p k. slice_index colours (64 * (p - own) + k) in
    let n : ℕ = 64 * number + 64 - 64 * number in
    let colour : (k : ℕ) → k < 64 → slice_index (take n (drop (64 * number) colours)) k ≡ f (own + number) k =
    λ k small. part_of colours (64 * number) n 0 k (omega (arith, small)) ∙ ap (λ m. slice_index colours m) (let same : 64 * number + k ≡ 64 * (own + number - own) + k = omega arith in same) in
    let end : own + number + 1 ≡ own + (number + 1) = omega arith in
    subst (λ p. AreRecoloured own p f c.fill_tile.new.samples (slice_set xs (own + number) c.store_plane.new.plane)) end
    (one_recoloured own (own + number) f c.fill_tile.new.samples xs c.store_plane.new.plane (omega arith) (omega (arith, c.loop-number-test.true, c.count-many.ensures, c.requires.samples, c.loop-number.auto.samples, c.fill_tile.auto.samples))
    (λ k small. c.store_plane.ensures k small ∙ ap (λ m. with_colour m (stored_at (slice_index_or xs (own + number) none) k)) (colour k small)) c.loop-number.invariant)

pub returns : goal.returns
returns c i j s h =
    let count = c.args.count in
    let own : ℕ = 1 + c.count-many.result in
    let number : ℕ = c.loop-number.number in
    let colours = c.args.colours.now in
    let filled = c.fill_tile.new.samples in
    let q : ℕ = block_in_tile i j in
    let f : ℕ → ℕ → ℕ = λ p k. slice_index colours (64 * (p - own) + k) in
    let changed : place_in_tile count (in_list filled) i j s ≡ 1 + (q + 1) * count_of count + s =
    ap (λ way. sample_place count way (in_list filled) q (pixel_in_block i j) s) (c.fill_tile.ensures.own q) in
    let place : place_in_tile count (in_list filled) i j s ≡ own + number_in count i j s = changed ∙ sym (own_place count q s) ∙ ap (λ m. 1 + m + (q * count_of count + s)) (sym c.count-many.ensures) in
    let below = number_below count q s (omega arith) h in
    let entry : 64 * (own + number_in count i j s - own) + pixel_in_block i j ≡ entry_in_tile count i j s = omega arith in
    sample_recoloured count own (own + number) (slice_index colours (entry_in_tile count i j s)) f filled c.loop-number.samples i j s h (omega arith) (omega (arith, place)) (omega (arith, place, below, c.loop-number-test.false, c.count-many.ensures))
    (ap (λ way. f (place_in_tile count (in_list filled) i j s) (slot_by way q (pixel_in_block i j))) (c.fill_tile.ensures.own q) ∙ ap (λ p. f p (pixel_in_block i j)) place ∙ ap (λ m. slice_index colours m) entry) c.loop-number.invariant
    ∙ ap (λ x. with_colour (slice_index colours (entry_in_tile count i j s)) x) (c.fill_tile.ensures.kept i j s h)
