use Rattle.std.proofs.Common.{ℕ, ◌<◌, slice_index, subst, w32}
use Rattle.std.proofs.lemmas.Int.{to_z-of_z}
use Rattle.grid.specs.Position.{Position}
use Rattle.grid.specs.Triangle.{Covers}
use Rattle.shade.specs.Row.{Attribute}
use Rattle.gradients.specs.Group.{position_in}
use Rattle.deep_planes.specs.Depth.{IsDepthAt}
use Rattle.deep_planes.specs.Group.{AreDeepDepths}
use Rattle.deep_planes.proofs.deep_plane.DeepPlane.values.Goals as goal
use Rattle.deep_planes.proofs.deep_plane.DeepPlane.values.Goals.{in-Some, in-None}

pub returns-clause-depths : goal.returns-clause-depths
returns-clause-depths c =
    let p : Position = record { x = c.args.x; y = c.args.y } in
    let t = c.self.inside.triangle in
    let found : AreDeepDepths t.a t.b t.c c.self.inside.z p c.match-self.result =
    elim c.match-self.branch [
      | in-Some w ↦ rw w.result-is (rw (to_z-of_z w32 c.args.x c.ranges.x, to_z-of_z w32 c.args.y c.ranges.y) at w.by_plane.ensures.depths)
      | in-None w ↦ rw w.result-is (rw (to_z-of_z w32 c.args.x c.ranges.x, to_z-of_z w32 c.args.y c.ranges.y) at w.one_by_one.ensures.depths)
    ] in
    subst (λ (d : Attribute). (i : ℕ) → i < 16 → Covers d.a d.b d.c (position_in p i) → IsDepthAt d.a d.b d.c (position_in p i) d.u d.v d.w (slice_index c.match-self.result i)) c.self.view_is found
