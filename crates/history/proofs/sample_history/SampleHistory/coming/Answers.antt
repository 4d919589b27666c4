use Rattle.history.proofs.Chained.{next_left}
use Rattle.history.proofs.sample_history.SampleHistory.coming.Goals as goal

-- src/sample_history.rt:93:5
pub returns-clause-some : goal.returns-clause-some
returns-clause-some g c =
    let h = c.self.inside in
    let ts = g.S.Triangles.listed h.source.now in
    rw (← c.self.view_is) (next_left ts h.number c.triangle.result c.triangle.ensures)
