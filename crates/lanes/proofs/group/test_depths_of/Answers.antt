use Rattle.std.proofs.Common.{◌+◌, ◌∙◌, get_or, sym, subst, w32}
use Rattle.std.proofs.lemmas.Int.{to_z-of_z}
use Rattle.std.proofs.lemmas.Simd.{get_or-replicate}
use Rattle.shade.proofs.Values.{quotient-unique}
use Rattle.gradients.specs.Group.{position_in}
use Rattle.lanes.specs.Sources.{GivesDepth}
use Rattle.lanes.proofs.Groups.{untested_lane, tested_as}
use Rattle.lanes.proofs.group.test_depths_of.Goals.{in-Unused, in-Flat, in-Plane}
use Rattle.lanes.proofs.group.test_depths_of.Goals as goal

pub returns-clause-set : goal.returns-clause-set
returns-clause-set c i z source l set =
    let p = position_in (record { x = c.args.x; y = c.args.y }) i in
    let m = c.args.merge.now in
    elim c.match-source.branch [
      | in-Unused w ↦
          rw (w.stored-is, w.result-is) (untested_lane m z (get_or c.args.stored.now (c.args.at + i) 0) (get_or c.args.mask i 0) (subst (λ d. GivesDepth m d p z) w.in-Unused.is source) set)
      | in-Flat w ↦
          let same = get_or-replicate 16 i w.in-Flat.z 0 l ∙ sym (subst (λ d. GivesDepth m d p z) w.in-Flat.is source) in
          rw (w.stored-is, w.result-is) (tested_as m z _ _ _ _ same (w.test_depths.ensures.set i l set))
      | in-Plane w ↦
          let x = to_z-of_z w32 c.args.x c.ranges.x in
          let y = to_z-of_z w32 c.args.y c.ranges.y in
          let plane = subst (λ d. GivesDepth m d p z) w.in-Plane.is source in
          let here = rw (x, y) at (w.values.ensures.values i plane.is_plane l (rw (x, y) plane.covered)) in
          rw (w.stored-is, w.result-is) (tested_as m z _ _ _ _ (quotient-unique _ _ _ _ here plane.is) (w.test_depths-in-Plane.ensures.set i l set))
    ]
