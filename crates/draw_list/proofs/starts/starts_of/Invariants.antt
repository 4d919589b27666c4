use Rattle.std.proofs.Common.{◌≡◌, take}
use Rattle.std.specs.List.{sum_by}
use Rattle.draw_list.specs.Starts.{AreStarts}
use Rattle.draw_list.proofs.Numbering.{count_of}
use Rattle.draw_list.proofs.starts.starts_of.Given as goal

abbrev pub invariant-loop-draw : goal.invariant-loop-draw
invariant-loop-draw l = record {
  starts : AreStarts (take l.draw-index l.draws) l.starts.items;
  next : l.next ≡ sum_by count_of (take l.draw-index l.draws);
}
