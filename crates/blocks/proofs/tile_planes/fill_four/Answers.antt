use Rattle.std.proofs.Common.{◌∙◌, arith}
use Rattle.blocks.specs.Palettes.{palette_sample}
use Rattle.blocks.proofs.TilePlanes.{none_filled, one_filled}
use Rattle.blocks.proofs.tile_planes.fill_four.Goals as goal

pub loop-s-init : goal.loop-s-init
loop-s-init c = none_filled c.args.count c.args.k (λ s p. palette_sample c.stored-palette.result s p) c.args.samples.now

pub loop-s-preserved : goal.loop-s-preserved
loop-s-preserved c =
    one_filled c.args.count c.args.k c.loop-s.s c.place_by.result (λ s p. palette_sample c.stored-palette.result s p) c.plane.result c.args.samples.now c.loop-s.samples c.place_by.ensures.value
    (omega (arith, c.place_by.ensures.within, c.loop-s.auto.samples, c.requires.samples)) (omega (arith, c.loop-s-test.true, c.count-s-end.ensures)) c.plane.ensures c.loop-s.invariant

pub returns-clause-own : goal.returns-clause-own
returns-clause-own c s p h small = c.loop-s.invariant.filled s p (omega (arith, h, c.loop-s-test.false, c.count-s-end.ensures)) small ∙ c.stored-palette.ensures s p h small

pub returns-clause-others : goal.returns-clause-others
returns-clause-others c = c.loop-s.invariant.kept
