-- What the pen covers from here on is what it covers from the first point on.
use Rattle.std.proofs.Common.{◌↔◌, ◌++◌, drop, List}
use Rattle.grid.specs.Position.{Position}
use Rattle.strokes.specs.Walking.{PenCovers}
use Rattle.strokes.proofs.pen.Pen.along.Given as goal

abbrev pub invariant-loop-next : goal.invariant-loop-next
invariant-loop-next l =
    (rest : List Position) → PenCovers l.style l.initial.pen (l.points ++ rest) l.p ↔ PenCovers l.style l.pen (drop l.next-index l.points ++ rest) l.p
