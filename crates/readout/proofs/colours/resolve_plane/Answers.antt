use Rattle.std.proofs.Common.{◌∙◌, ◌<◌, slice_index, arith}
use Rattle.readout.specs.Pixels.{pixel_of}
use Rattle.readout.proofs.colours.resolve_plane.Goals as goal

pub returns : goal.returns
returns c i l k small =
    let few : i < 8 = omega (arith, l, c.requires.count) in
    c.write_run.ensures i l k small
    ∙ (λ t. slice_index (pixel_of c.args.format (c.eight_from-red.ensures.each i few t) (c.eight_from-green.ensures.each i few t) (c.eight_from-blue.ensures.each i few t) (c.eight_from-alphas.ensures.each i few t)) k)
