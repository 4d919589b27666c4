use Rattle.std.proofs.Common.{◌≡◌}
use Rattle.fills.specs.declared.batch.Style.{Style}
use Rattle.fills.specs.Groups.{SaysRowsOf, HasSeen}
use Rattle.fills.proofs.group.Group.take.Given as goal

abbrev pub invariant-loop-number : goal.invariant-loop-number
invariant-loop-number l = record {
  first : l.self.first ≡ l.first;
  end : l.self.end ≡ l.number;
  rows : (style : Style) → SaysRowsOf l.self l.polygons style l.origin l.canvas;
  seen : HasSeen l.self l.polygons;
}
