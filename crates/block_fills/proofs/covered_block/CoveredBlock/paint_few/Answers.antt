use Rattle.std.proofs.Common.{◌≡◌, inl, inr, subst, List}
use Rattle.lanes.specs.declared.block_samples.BlockSamples.{BlockSamples}
use Rattle.blocks.specs.Layout.{KeepsOtherSamples}
use Rattle.blocks.specs.Palettes.{HasPalette}
use Rattle.block_fills.specs.Parts.{number_in_tile, IsInWords, IsPaletteDrawn, TilePaints}
use Rattle.block_fills.specs.FewSamples.{IsNotDrawnInFour, IsNotKeptInFour, LeavesNoPalette}
use Rattle.block_fills.proofs.FewSamples.{leaves_many, not_in_four}
use Rattle.block_fills.proofs.FlatBlocks.{palette_painted}
use Rattle.block_fills.proofs.covered_block.CoveredBlock.paint_few.Goals as goal

pub returns-in-Some-palette_drawn-clause-painted : goal.returns-in-Some-palette_drawn-clause-painted
returns-in-Some-palette_drawn-clause-painted g c true_is =
    let b = c.args.self.now in
    let tile = b.tile.now in
    let palette = c.in-Some.palette in
    let made = c.in-Some-palette_drawn.drawn in
    let words = c.args.words.now in
    let old = c.paint_two.new.samples in
    let new = c.store.new.samples in
    let count = c.known-count.ensures in
    let same : c.number-number.result ≡ number_in_tile tile b.bx b.by = c.number-number.ensures.value in
    subst (λ (planes : List BlockSamples). TilePaints b.fragment.now tile (IsInWords tile b.bx b.by words) planes new) (c.paint_two.ensures.unchanged c.if-paint_two.false)
    (palette_painted b.fragment.now tile b.side b.bx b.by b.block words palette made old new
    (subst (λ n. HasPalette n (number_in_tile tile b.bx b.by) palette old) count (subst (λ k. HasPalette c.known-count.result k palette old) same c.in-Some.ensures.palette))
    (subst (λ n. IsPaletteDrawn b.fragment.now n palette words made) count c.in-Some-palette_drawn.ensures.drawn)
    (subst (λ n. HasPalette n (number_in_tile tile b.bx b.by) made new) count (subst (λ k. HasPalette c.known-count.result k made new) same c.store.ensures.made))
    (subst (λ n. KeepsOtherSamples n (number_in_tile tile b.bx b.by) old new) count (subst (λ k. KeepsOtherSamples c.known-count.result k old new) same c.store.ensures.others)))

pub returns-in_default-clause-few : goal.returns-in_default-clause-few
returns-in_default-clause-few g c gave_up =
    let b = c.args.self.now in
    let tile = b.tile.now in
    let old = c.paint_two.new.samples in
    let same : c.number-number.result ≡ number_in_tile tile b.bx b.by = c.number-number.ensures.value in
    subst (λ (planes : List BlockSamples). IsNotDrawnInFour b.fragment.now tile (IsInWords tile b.bx b.by c.args.words.now) (number_in_tile tile b.bx b.by) planes)
    (c.paint_two.ensures.unchanged c.if-paint_two.false)
    (inl (subst (λ n. IsNotKeptInFour n (number_in_tile tile b.bx b.by) old) c.known-count.ensures (subst (λ k. IsNotKeptInFour c.known-count.result k old) same
    (not_in_four c.known-count.result c.number-number.result old c.in_default.ensures.one c.in_default.ensures.some))))

pub returns-in-None-clause-few : goal.returns-in-None-clause-few
returns-in-None-clause-few g c gave_up =
    let b = c.args.self.now in
    let tile = b.tile.now in
    let palette = c.in-Some.palette in
    let words = c.args.words.now in
    let old = c.paint_two.new.samples in
    let count = c.known-count.ensures in
    let same : c.number-number.result ≡ number_in_tile tile b.bx b.by = c.number-number.ensures.value in
    subst (λ (planes : List BlockSamples). IsNotDrawnInFour b.fragment.now tile (IsInWords tile b.bx b.by words) (number_in_tile tile b.bx b.by) planes)
    (c.paint_two.ensures.unchanged c.if-paint_two.false)
    (inr (leaves_many b.fragment.now tile b.side b.bx b.by b.block words palette old
    (subst (λ n. HasPalette n (number_in_tile tile b.bx b.by) palette old) count (subst (λ k. HasPalette c.known-count.result k palette old) same c.in-Some.ensures.palette))
    (subst (λ n. LeavesNoPalette b.fragment.now n palette words) count c.in-None.ensures.none)))
