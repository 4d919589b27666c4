use Rattle.std.proofs.Common.{◌<◌, ◌^◌, ℕ, get_or, slice_index, w32, w64, Fits, arith, rules}
use Rattle.std.proofs.lemmas.Int.{to_z-of_z}
use Rattle.std.proofs.lemmas.Simd.{Each1-get_or}
use Rattle.std.specs.Simd.Lanes.{Each1}
use Rattle.grid.specs.Position.{Position}
use Rattle.deep_planes.proofs.Heights.{AreAbove, are_above, wholes_near, wholes_sure}
use Rattle.deep_planes.proofs.deep_plane.by_plane.Goals as goal
use Rattle.deep_planes.proofs.deep_plane.by_plane.Goals.{then-are_sure, else-are_sure}

pub returns-clause-bits : goal.returns-clause-bits
returns-clause-bits c i l =
    let h = c.heights-heights.result in
    let each : Each1 (Fits w64) h = search rules in
    let fits = Each1-get_or (Fits w64) h i 0 (omega (arith, l, c.heights-heights.ensures.length)) each in
    let whole : slice_index c.wholes-found.result i < 2 ^ 24 = omega (arith, fits.fits, c.wholes-found.ensures.each i l) in
    elim c.if-are_sure.branch [
      | then-are_sure w ↦ rw w.result-is whole
      | else-are_sure w ↦ rw w.result-is (omega (arith, w.corrected.ensures.at_most i l, whole))
    ]

pub returns-clause-depths : goal.returns-clause-depths
returns-clause-depths c =
    let t = c.args.t.now in
    let z = c.args.z in
    let p : Position = record { x = c.args.x; y = c.args.y } in
    let h = c.heights-heights.result in
    let each : Each1 (Fits w64) h = search rules in
    let fits : (i : ℕ) → i < 16 → get_or h i 0 < 2 ^ 64 = λ i l. (Each1-get_or (Fits w64) h i 0 (omega (arith, l, c.heights-heights.ensures.length)) each).fits in
    let is = c.requires.plane in
    let at = rw (to_z-of_z w32 c.args.x c.ranges.x, to_z-of_z w32 c.args.y c.ranges.y) at c.heights-heights.ensures.each in
    let above : AreAbove t.a t.b t.c z p h = are_above t.a t.b t.c p z h is.slope c.args.plane.now.plane is.is_slope is.is_plane is.bits c.requires.screen fits at in
    elim c.if-are_sure.branch [
      | then-are_sure b ↦ rw b.result-is (wholes_sure t.a t.b t.c p z h c.wholes-found.result above c.wholes-found.ensures.each (c.are_sure.ensures b.if-are_sure.true))
      | else-are_sure b ↦
          rw b.result-is ((rw (to_z-of_z w32 c.args.x c.ranges.x, to_z-of_z w32 c.args.y c.ranges.y) at b.corrected.ensures.depths) (wholes_near t.a t.b t.c p z h c.wholes-found.result above c.wholes-found.ensures.each))
    ]
