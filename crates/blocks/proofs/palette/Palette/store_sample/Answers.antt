use Rattle.std.proofs.Common.{◌∙◌, ap, arith}
use Rattle.blocks.specs.Layout.{flat_place}
use Rattle.blocks.proofs.Palettes.{sample_stored}
use Rattle.blocks.proofs.palette.Palette.store_sample.Goals as goal

pub returns : goal.returns
returns c =
    let count = c.args.count in
    let k = c.args.k in
    sample_stored count k c.args.number c.place_by-place.result c.args.self.now.samples c.set.new.self c.args.samples.now (c.place_by-place.ensures.value ∙ ap (flat_place count k) c.place_of_number.ensures.value) c.requires.some c.requires.number
    (omega (arith, c.place_by-place.ensures.within, c.requires.samples)) c.set.ensures.stored c.set.ensures.kept
