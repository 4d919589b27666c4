use Rattle.std.proofs.Common.{◌≡◌, ap, slice_get, refl, Some}
use Rattle.list_history.proofs.Passed.{of_next}
use Rattle.list_history.proofs.walk.ListHistory.take.Goals as goal

pub invariant_of-self : goal.invariant_of-self
invariant_of-self c = of_next _ _ _ _ c.self.invariant c.take.ensures

pub returns : goal.returns
returns c =
    let t = c.args.triangle.now in
    let step = c.take.ensures in
    let found : slice_get c.self.inside.history.left 0 ≡ Some t = rw (← c.self.view_is) at c.requires in
    let some : Some step.triangle ≡ Some t = rw step.first at found in
    let same : t ≡ step.triangle = cc in
    rw (← c.self.view_is)
    (record {
      next = step;
      number = c.number-number.ensures;
      place = c.place.ensures;
      write = ap (λ u. u.state.merge.write) same;
      depth_write = ap (λ u. u.state.merge.depth_write) same;
      same = refl;
    })
