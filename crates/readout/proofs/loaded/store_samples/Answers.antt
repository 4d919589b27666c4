use Rattle.std.proofs.Common.{◌∙◌, ◌<◌, ◌≤◌, ap, slice_index, arith}
use Rattle.grid.specs.Samples.{count_of}
use Rattle.readout.specs.Loaded.{coloured}
use Rattle.blocks.specs.Layout.{stored_in_tile}
use Rattle.readout.proofs.Changes.{no_sample_changed, one_sample_more, other_pixels}
use Rattle.readout.proofs.loaded.store_samples.Goals.{else-are_all-via-then-are_all+else-single_block, else-are_all-via-else-are_all}
use Rattle.readout.proofs.loaded.store_samples.Goals as goal

pub returns-then-single_block-clause-others : goal.returns-then-single_block-clause-others
returns-then-single_block-clause-others c column row s h other =
    let middle = c.single_block.new.samples in
    other_pixels c.args.count c.args.i c.args.j (λ sample. coloured c.args.format c.args.indices.alpha (λ k. slice_index c.args.pixel.now k) sample) c.args.samples.now middle c.recolour.new.plane c.place_by-place.result
    (rw (c.block_in_tile-block.ensures.value) at c.single_block.ensures.single c.if-single_block.true) c.single_block.ensures.kept (rw (c.block_in_tile-block.ensures.value) at c.place_by-place.ensures.value)
    (omega (arith, c.place_by-place.ensures.within, c.requires.samples, c.single_block.auto.samples)) c.recolour.ensures.kept c.recolour.ensures.stored column row s h
    (λ a b. other a b (c.are_all.ensures c.if-are_all.true s h))

pub loop-s-init : goal.loop-s-init
loop-s-init c =
    no_sample_changed c.args.count c.args.i c.args.j c.args.indices.first (λ sample. coloured c.args.format c.args.indices.alpha (λ k. slice_index c.args.pixel.now k) sample) c.args.samples.now c.fill_block.new.samples
    (rw (c.block_in_tile-block.ensures.value) at c.fill_block.ensures.own)
    (λ column row s h. c.fill_block.ensures.kept column row s h
    ∙ elim c.else-are_all.branch [
      | else-are_all-via-then-are_all+else-single_block w ↦ ap (λ xs. stored_in_tile c.args.count xs column row s) w.samples-is ∙ w.single_block.ensures.kept column row s h
      | else-are_all-via-else-are_all w ↦ ap (λ xs. stored_in_tile c.args.count xs column row s) w.samples-is
    ])

pub loop-s-preserved : goal.loop-s-preserved
loop-s-preserved c =
    let h : c.loop-s.s < count_of c.args.count = omega (arith, c.loop-s-test.true, c.requires.indices.1) in
    one_sample_more c.args.count c.args.i c.args.j c.args.indices.first c.loop-s.s c.loop-s.auto.s h (λ sample. coloured c.args.format c.args.indices.alpha (λ k. slice_index c.args.pixel.now k) sample) c.args.samples.now c.loop-s.samples c.recolour-in-loop-s.new.plane c.place_by-place-in-loop-s.result
    (rw (c.block_in_tile-block.ensures.value) at c.place_by-place-in-loop-s.ensures.value)
    (omega (arith, c.place_by-place-in-loop-s.ensures.within, c.requires.samples, c.loop-s.auto.samples)) c.recolour-in-loop-s.ensures.kept c.recolour-in-loop-s.ensures.stored c.loop-s.invariant

pub returns-clause-pixel : goal.returns-clause-pixel
returns-clause-pixel c s index =
    let below = index.below in
    c.loop-s.invariant.pixel s (omega (arith, below, c.requires.indices.1)) (record { from = index.from; below = omega (arith, below, c.loop-s-test.false) })

pub returns-clause-others : goal.returns-clause-others
returns-clause-others c column row s h other =
    c.loop-s.invariant.others column row s h
    (λ a b index.
    let from = index.from in
    let below = index.below in
    other a b (record { from = index.from; below = (let within : c.loop-s.s ≤ c.args.indices.end = c.loop-s.auto.s-end c.requires.indices.0 in omega (arith, below, within)) }))
