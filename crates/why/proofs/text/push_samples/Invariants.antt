use Rattle.draw_list.proofs.Colours.{AreEnds}
use Rattle.why.proofs.text.push_samples.Given as goal

abbrev pub invariant-loop-s : goal.invariant-loop-s
invariant-loop-s l = AreEnds l.list l.asked.x l.asked.y l.s l.ends
