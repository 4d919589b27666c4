use Rattle.std.proofs.Common.{◌+◌, ◌*◌}
use Rattle.draw_list.specs.PixelPrefix.{IsPixelPrefix}
use Rattle.reference.proofs.picture.push_row.Given as goal

abbrev pub invariant-loop-px : goal.invariant-loop-px
invariant-loop-px l = IsPixelPrefix l.list 0 0 l.list.width (l.py * l.list.width + l.px) l.bytes.items
