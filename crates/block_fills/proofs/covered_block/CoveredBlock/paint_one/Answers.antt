use Rattle.std.proofs.Common.{refl, ◌≡◌, subst}
use Rattle.blocks.specs.Layout.{KeepsOtherSamples}
use Rattle.blocks.specs.FlatBlocks.{HasFlat, HasOne}
use Rattle.block_fills.specs.Parts.{number_in_tile}
use Rattle.block_fills.proofs.FlatBlocks.{as_two, drawn_in_words, flat_painted, has_two, one_painted, one_replaced}
use Rattle.block_fills.proofs.OnePlane.{full_painted}
use Rattle.block_fills.proofs.PairBlocks.{words_painted}
use Rattle.block_fills.proofs.covered_block.CoveredBlock.paint_one.Goals as goal

pub returns-then-is_full : goal.returns-then-is_full
returns-then-is_full c =
    let b = c.args.self.now in
    let tile = b.tile.now in
    let made = c.drawn-drawn.result in
    let old = c.args.samples.now in
    let new = c.make_flat.new.samples in
    let same : c.number-number.result ≡ number_in_tile tile b.bx b.by = c.number-number.ensures.value in
    full_painted b.fragment.now tile b.side b.bx b.by b.block c.args.masks.now c.args.k (b.allows c.requires.whole) (λ s bit h l. c.is_full.ensures c.if-is_full.true s bit (rw c.requires.masks h) l)
    old old new (λ i j s end h drawn. drawn) (λ i j s h other. refl)
    (one_painted b.fragment.now tile b.side b.bx b.by b.block c.args.sample made old new (subst (λ n. HasOne n (number_in_tile tile b.bx b.by) c.args.sample old) c.requires.count c.requires.one) c.drawn-drawn.ensures
    (subst (λ n. HasOne n (number_in_tile tile b.bx b.by) made new) c.requires.count (subst (λ k. HasOne c.args.count k made new) same c.make_flat.ensures.made)) (subst (λ n. KeepsOtherSamples n (number_in_tile tile b.bx b.by) old new) c.requires.count (subst (λ k. KeepsOtherSamples c.args.count k old new) same c.make_flat.ensures.others)))

pub returns : goal.returns
returns c =
    let b = c.args.self.now in
    let tile = b.tile.now in
    let sample = c.args.sample in
    let made = c.drawn-drawn.result in
    let words = c.words.result in
    let old = c.args.samples.now in
    let new = c.store.new.samples in
    let same : c.number-number.result ≡ number_in_tile tile b.bx b.by = c.number-number.ensures.value in
    let one : HasOne tile.count (number_in_tile tile b.bx b.by) sample old = subst (λ n. HasOne n (number_in_tile tile b.bx b.by) sample old) c.requires.count c.requires.one in
    words_painted b.fragment.now tile b.bx b.by b.block c.args.masks.now c.args.k (b.allows c.requires.whole) words (λ s h. c.words.ensures s (rw c.requires.masks h)) old new
    (flat_painted b.fragment.now tile b.side b.bx b.by b.block words (as_two sample made words) (drawn_in_words sample made words) made made old new (has_two sample made words tile.count (number_in_tile tile b.bx b.by) old one) c.drawn-drawn.ensures c.drawn-drawn.ensures (one_replaced sample made words tile.count)
    (subst (λ n. HasFlat n (number_in_tile tile b.bx b.by) (drawn_in_words sample made words) new) c.requires.count (subst (λ k. HasFlat c.args.count k (drawn_in_words sample made words) new) same c.store.ensures.made)) (subst (λ n. KeepsOtherSamples n (number_in_tile tile b.bx b.by) old new) c.requires.count (subst (λ k. KeepsOtherSamples c.args.count k old new) same c.store.ensures.others)))
