use Rattle.std.proofs.Common.{take}
use Rattle.shade.specs.Ending.{Ends}
use Rattle.reference.proofs.pixel.end_of.Given as goal

abbrev pub invariant-loop-number : goal.invariant-loop-number
invariant-loop-number g l =
    Ends (take l.number (g.S.Triangles.listed l.source)) l.count l.px l.py l.s l.fn.start l.sample
