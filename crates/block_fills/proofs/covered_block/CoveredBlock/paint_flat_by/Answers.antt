use Rattle.std.proofs.Common.{◌≡◌, inr, subst}
use Rattle.blocks.specs.Layout.{KeepsOtherSamples}
use Rattle.blocks.specs.FlatBlocks.{HasFlat}
use Rattle.block_fills.specs.Parts.{number_in_tile, IsFlatDrawn, IsInBlock, IsInWords}
use Rattle.block_fills.proofs.FewSamples.{flat_not_kept, flat_not_left, not_flat, not_in_block}
use Rattle.block_fills.proofs.FlatBlocks.{flat_painted}
use Rattle.block_fills.proofs.PairBlocks.{block_painted, words_painted}
use Rattle.block_fills.proofs.covered_block.CoveredBlock.paint_flat_by.Goals as goal
use Rattle.block_fills.proofs.covered_block.CoveredBlock.paint_flat_by.Goals.{in-Some-of+in_default-flat_drawn, in_default-of}

pub returns-in-Some-clause-painted : goal.returns-in-Some-clause-painted
returns-in-Some-clause-painted g c true_is = c.paint_one.ensures

pub returns-in-Some-flat_drawn-clause-painted : goal.returns-in-Some-flat_drawn-clause-painted
returns-in-Some-flat_drawn-clause-painted g c true_is =
    let b = c.args.self.now in
    let tile = b.tile.now in
    let flat = c.in-Some-of.flat in
    let drawn = c.in-Some-flat_drawn.drawn in
    let is = subst (λ n. IsFlatDrawn b.fragment.now n flat c.words-words.result drawn) c.known-count.ensures c.in-Some-flat_drawn.ensures.drawn in
    let old = c.args.samples.now in
    let new = c.store.new.samples in
    let words = c.words-words.result in
    let same : c.number-number.result ≡ number_in_tile tile b.bx b.by = c.number-number.ensures.value in
    words_painted b.fragment.now tile b.bx b.by b.block c.args.masks.now c.args.k (b.allows c.requires.whole) words (λ s h. c.words-words.ensures s (rw c.requires.masks h)) old new
    (flat_painted b.fragment.now tile b.side b.bx b.by b.block words flat drawn is.0 is.1 old new (subst (λ n. HasFlat n (number_in_tile tile b.bx b.by) flat old) c.known-count.ensures (subst (λ k. HasFlat c.known-count.result k flat old) same c.in-Some-of.ensures.flat)) is.2 is.3 is.4
    (subst (λ n. HasFlat n (number_in_tile tile b.bx b.by) drawn new) c.known-count.ensures (subst (λ k. HasFlat c.known-count.result k drawn new) same c.store.ensures.made)) (subst (λ n. KeepsOtherSamples n (number_in_tile tile b.bx b.by) old new) c.known-count.ensures (subst (λ k. KeepsOtherSamples c.known-count.result k old new) same c.store.ensures.others)))

pub returns-clause-painted : goal.returns-clause-painted
returns-clause-painted g c drawn =
    let b = c.args.self.now in
    words_painted b.fragment.now b.tile.now b.bx b.by b.block c.args.masks.now c.args.k (b.allows c.requires.whole) c.words-words.result (λ s h. c.words-words.ensures s (rw c.requires.masks h)) c.args.samples.now c.paint_few.new.samples
    (c.paint_few.ensures.painted drawn)

pub returns-clause-few : goal.returns-clause-few
returns-clause-few g c gave_up =
    let b = c.args.self.now in
    let tile = b.tile.now in
    let old = c.args.samples.now in
    let words = c.words-words.result in
    inr (not_in_block b.fragment.now tile (number_in_tile tile b.bx b.by) old (IsInWords tile b.bx b.by words) (IsInBlock b.fragment.now.state tile b.bx b.by c.args.masks.now c.args.k)
    (λ new. block_painted b.fragment.now tile b.bx b.by b.block c.args.masks.now c.args.k (b.allows c.requires.whole) words (λ s h. c.words-words.ensures s (rw c.requires.masks h)) old new)
    (c.paint_few.ensures.few gave_up))

pub returns-clause-flat : goal.returns-clause-flat
returns-clause-flat g c gave_up =
    let b = c.args.self.now in
    let tile = b.tile.now in
    let old = c.args.samples.now in
    let masks = c.args.masks.now in
    elim c.match-of.branch [
      | in-Some-of+in_default-flat_drawn w ↦
          flat_not_left b.fragment.now tile b.bx b.by masks c.args.k old c.known-count.result c.number-number.result c.known-count.ensures c.number-number.ensures.value w.in-Some-of.flat c.words-words.result w.in-Some-of.ensures.flat
          (λ s h. c.words-words.ensures s (rw c.requires.masks h)) w.in_default-flat_drawn.ensures.some.1
      | in_default-of w ↦
          flat_not_kept b.fragment.now tile b.bx b.by masks c.args.k old c.known-count.result c.number-number.result c.known-count.ensures c.number-number.ensures.value
          (not_flat c.known-count.result c.number-number.result old w.in_default-of.ensures.one w.in_default-of.ensures.some)
    ]

pub returns-then-masks-lt4-clause-flat : goal.returns-then-masks-lt4-clause-flat
returns-then-masks-lt4-clause-flat g c gave_up =
    let b = c.args.self.now in
    let tile = b.tile.now in
    let old = c.args.samples.now in
    let masks = c.args.masks.now in
    elim c.match-of.branch [
      | in-Some-of+in_default-flat_drawn w ↦
          flat_not_left b.fragment.now tile b.bx b.by masks c.args.k old c.known-count.result c.number-number.result c.known-count.ensures c.number-number.ensures.value w.in-Some-of.flat c.words-words.result w.in-Some-of.ensures.flat
          (λ s h. c.words-words.ensures s (rw c.requires.masks h)) w.in_default-flat_drawn.ensures.some.1
      | in_default-of w ↦
          flat_not_kept b.fragment.now tile b.bx b.by masks c.args.k old c.known-count.result c.number-number.result c.known-count.ensures c.number-number.ensures.value
          (not_flat c.known-count.result c.number-number.result old w.in_default-of.ensures.one w.in_default-of.ensures.some)
    ]
