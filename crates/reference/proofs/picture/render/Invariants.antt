use Rattle.std.proofs.Common.{◌*◌}
use Rattle.draw_list.specs.PixelPrefix.{IsPixelPrefix}
use Rattle.reference.proofs.picture.render.Given as goal

abbrev pub invariant-loop-py : goal.invariant-loop-py
invariant-loop-py l = IsPixelPrefix l.list 0 0 l.list.width (l.py * l.list.width) l.bytes.items
