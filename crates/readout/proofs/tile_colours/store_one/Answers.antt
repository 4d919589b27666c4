use Rattle.std.proofs.Common.{ℕ, refl, arith}
use Rattle.blocks.specs.Layout.{block_in_tile, pixel_in_block, own_plane, masks_in, more_in, in_list, way_in_tile}
use Rattle.blocks.proofs.Places.{behind_first}
use Rattle.readout.proofs.TileEntries.{none_recoloured, one_recoloured, sample_recoloured}
use Rattle.readout.proofs.tile_colours.store_one.Goals as goal

pub loop-place-init : goal.loop-place-init
loop-place-init c = none_recoloured 1 (λ p k. c.args.colour) c.args.samples.now

pub loop-place-preserved : goal.loop-place-preserved
loop-place-preserved c =
    one_recoloured 1 c.loop-place.place (λ p k. c.args.colour) c.args.samples.now c.loop-place.samples c.fill_plane.new.plane c.loop-place.auto.place
    (omega (arith, c.loop-place-test.true, c.end_of_planes-place-end.ensures.within, c.requires, c.loop-place.auto.samples)) c.fill_plane.ensures c.loop-place.invariant

pub returns-clause-stored : goal.returns-clause-stored
returns-clause-stored c i j s h =
    let old = c.args.samples.now in
    let k : ℕ = block_in_tile i j in
    let way = way_in_tile old k in
    let behind = behind_first c.args.count way k (own_plane c.args.count way (masks_in c.args.count (in_list old) k) (more_in c.args.count (in_list old) k) (pixel_in_block i j) s) in
    sample_recoloured c.args.count 1 c.loop-place.place c.args.colour (λ p k. c.args.colour) old c.loop-place.samples i j s h (omega arith) (omega (arith, behind))
    (let below = c.end_of_planes-place-end.ensures.read i j s h in omega (arith, below, c.loop-place-test.false)) refl c.loop-place.invariant

pub returns-clause-first : goal.returns-clause-first
returns-clause-first c = c.loop-place.invariant.kept 0 (λ h l. omega (arith, h))
