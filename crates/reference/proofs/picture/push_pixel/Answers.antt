use Rattle.std.proofs.Common.{sym, ◌∙◌}
use Rattle.draw_list.proofs.PixelPrefix.{adds_pixel}
use Rattle.draw_list.proofs.Pixels.{pixel_of_colour, pixel_of_depth}
use Rattle.reference.proofs.picture.push_pixel.Goals as goal

pub returns-in-Color : goal.returns-in-Color
returns-in-Color c =
    adds_pixel _ c.args.list.now c.args.px c.args.py _ _ _ (pixel_of_colour _ _ _ _ _ _ (sym c.output.ensures ∙ c.in-Color.is) c.colour_at.ensures) c.push_colour.ensures

pub returns-in-Depth : goal.returns-in-Depth
returns-in-Depth c =
    adds_pixel _ c.args.list.now c.args.px c.args.py _ _ _ (pixel_of_depth _ _ _ c.end_at.result (sym c.output.ensures ∙ c.in-Depth.is) c.end_at.ensures.end) c.push_depth.ensures
