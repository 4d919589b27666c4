use Rattle.std.specs.List.{AllWithin}
use Rattle.canvas.specs.Window.{CanMove}
use Rattle.canvas.proofs.window.Window.new.Given as goal

abbrev pub invariant-loop-number : goal.invariant-loop-number
invariant-loop-number g l = AllWithin (CanMove l.origin.x l.origin.y) (g.S.Triangles.listed l.source) 0 l.number
