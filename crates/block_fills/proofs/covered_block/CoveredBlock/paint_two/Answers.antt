use Rattle.std.proofs.Common.{◌≡◌, subst}
use Rattle.blocks.specs.Layout.{KeepsOtherSamples}
use Rattle.blocks.specs.FlatBlocks.{HasFlat}
use Rattle.blocks.specs.Palettes.{HasPalette, IsFlatReplacedInFour}
use Rattle.block_fills.specs.Parts.{number_in_tile}
use Rattle.block_fills.specs.FewSamples.{IsNotKeptFlat}
use Rattle.block_fills.proofs.FewSamples.{not_flat}
use Rattle.block_fills.proofs.FlatBlocks.{as_palette, four_drawn, has_palette, palette_painted}
use Rattle.block_fills.proofs.covered_block.CoveredBlock.paint_two.Goals as goal

pub returns-clause-painted : goal.returns-clause-painted
returns-clause-painted g c true_is =
    let b = c.args.self.now in
    let tile = b.tile.now in
    let flat = c.in-Some.flat in
    let first = c.drawn-first.result in
    let second = c.drawn_beside-second.result in
    let words = c.args.words.now in
    let old = c.args.samples.now in
    let new = c.store.new.samples in
    let made = c.flat_replaced-palette.result in
    let same : c.number-number.result ≡ number_in_tile tile b.bx b.by = c.number-number.ensures.value in
    palette_painted b.fragment.now tile b.side b.bx b.by b.block words (as_palette flat words first second) made old new
    (has_palette flat words first second tile.count (number_in_tile tile b.bx b.by) old
    (subst (λ n. HasFlat n (number_in_tile tile b.bx b.by) flat old) c.known-count.ensures (subst (λ k. HasFlat c.known-count.result k flat old) same c.in-Some.ensures.flat)))
    (four_drawn flat words first second b.fragment.now tile.count made c.drawn-first.ensures c.drawn_beside-second.ensures (subst (λ n. IsFlatReplacedInFour n flat words first second made) c.known-count.ensures c.flat_replaced-palette.ensures.replaced))
    (subst (λ n. HasPalette n (number_in_tile tile b.bx b.by) made new) c.known-count.ensures (subst (λ k. HasPalette c.known-count.result k made new) same c.store.ensures.made))
    (subst (λ n. KeepsOtherSamples n (number_in_tile tile b.bx b.by) old new) c.known-count.ensures (subst (λ k. KeepsOtherSamples c.known-count.result k old new) same c.store.ensures.others))

pub returns-in_default-clause-flat : goal.returns-in_default-clause-flat
returns-in_default-clause-flat g c gave_up =
    let b = c.args.self.now in
    let tile = b.tile.now in
    let old = c.args.samples.now in
    let same : c.number-number.result ≡ number_in_tile tile b.bx b.by = c.number-number.ensures.value in
    subst (λ n. IsNotKeptFlat n (number_in_tile tile b.bx b.by) old) c.known-count.ensures (subst (λ k. IsNotKeptFlat c.known-count.result k old) same
    (not_flat c.known-count.result c.number-number.result old c.in_default.ensures.one c.in_default.ensures.some))
