use Rattle.draw_list.proofs.Colours.{AreEnds}
use Rattle.reference.proofs.pixel.colour_at.Given as goal

abbrev pub invariant-loop-s : goal.invariant-loop-s
invariant-loop-s l = AreEnds l.list l.px l.py l.s l.ends
