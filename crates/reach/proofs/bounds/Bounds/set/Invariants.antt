use Rattle.reach.specs.Bounds.{AreBounds}
use Rattle.reach.proofs.bounds.Bounds.set.Given as goal

abbrev pub invariant-loop-number : goal.invariant-loop-number
invariant-loop-number g l = AreBounds (g.T.Triangles.listed l.triangles) l.number l.self.columns.firsts l.self.columns.ends l.self.rows.firsts l.self.rows.ends l.self.span
