-- The pen marked what it covers on its way through the points before this one.
use Rattle.std.proofs.Common.{take}
use Rattle.strokes.specs.Tracing.{MarksOnwards}
use Rattle.strokes.proofs.tip.Tip.along.Given as goal

abbrev pub invariant-loop-next : goal.invariant-loop-next
invariant-loop-next l = MarksOnwards l.style l.blocks l.fn.self (take l.next-index l.points) l.tip l.fn.flags l.flags
