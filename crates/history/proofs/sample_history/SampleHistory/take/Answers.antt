use Rattle.std.proofs.Common.{◌≡◌, drop, refl, slice_get, Some}
use Rattle.history.proofs.Chained.{first_left}
use Rattle.history.proofs.sample_history.SampleHistory.take.Goals as goal

pub returns : goal.returns
returns g c =
    let h = c.self.inside in
    let ts = g.S.Triangles.listed h.source.now in
    let t = c.args.triangle.now in
    let found : slice_get (drop h.number ts) 0 ≡ Some t = rw (← c.self.view_is) at c.requires in
    rw (← c.self.view_is)
    (record { triangle = t; first = first_left ts h.number t found; event = c.event_of-event.ensures.event; before = c.event_of-event.ensures.before; behind = refl })
