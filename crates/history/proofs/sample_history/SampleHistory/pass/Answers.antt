use Rattle.std.proofs.Common.{refl}
use Rattle.history.proofs.Chained.{first_left, one_past}
use Rattle.history.proofs.sample_history.SampleHistory.pass.Goals as goal

pub returns-clause-past : goal.returns-clause-past
returns-clause-past g c =
    let h = c.self.inside in
    let ts = g.S.Triangles.listed h.source.now in
    let next = rw (← c.self.view_is) at c.requires in
    rw (← c.self.view_is) (one_past _ _ next.0 (first_left ts h.number next.0 next.1) next.2 refl)
