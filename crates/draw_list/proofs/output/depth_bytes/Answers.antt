use Rattle.std.proofs.Common.{◌∙◌}
use Rattle.draw_list.proofs.Pixels.{depth_bytes as in_order}
use Rattle.draw_list.proofs.output.depth_bytes.Goals as goal

pub returns : goal.returns
returns c = c.to_be_bytes.ensures ∙ in_order c.args.depth c.ranges.depth.fits
