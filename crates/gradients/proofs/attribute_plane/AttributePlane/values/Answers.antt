use Rattle.std.proofs.Common.{◌≤◌, ◌%◌, ◌^◌, ◌<◌, ℕ, refl, inl, inr, get_or, w32}
use Rattle.std.proofs.lemmas.Int.{to_z-of_z}
use Rattle.grid.specs.Position.{Position}
use Rattle.gradients.proofs.AttributePlanes.{wholes_near, wholes_sure, bytes_kept}
use Rattle.gradients.proofs.attribute_plane.AttributePlane.values.Goals as goal
use Rattle.gradients.proofs.attribute_plane.AttributePlane.values.Goals.{then-are_sure, else-are_sure}

pub returns-clause-each : goal.returns-clause-each
returns-clause-each c is i less covered =
    let t = c.args.t.now in
    let k = c.args.fraction in
    let v = c.args.values in
    let p : Position = record { x = c.args.x; y = c.args.y } in
    let are = (rw (to_z-of_z w32 c.args.x c.ranges.x, to_z-of_z w32 c.args.y c.ranges.y) at c.candidates-candidates.ensures.each) k t.a t.b t.c v is in
    elim c.if-are_sure.branch [
      | then-are_sure w ↦
          let sure : (j : ℕ) → j < 16 → 3 ≤ get_or c.candidates-candidates.result j 0 % 2 ^ k =
          λ j l. rw (c.fractions.ensures.each j k l (elim c.requires.fraction [ inl e ↦ rw e refl | inr e ↦ rw e refl ])) at (c.are_sure.ensures w.if-are_sure.true j l) in
          rw w.result-is (wholes_sure k t.a t.b t.c p v c.candidates-candidates.result c.wholes-found.result is.narrow are c.wholes-found.ensures.each sure i less covered)
      | else-are_sure w ↦
          let near = wholes_near k t.a t.b t.c p v c.candidates-candidates.result c.wholes-found.result is.narrow are c.wholes-found.ensures.each in
          rw w.result-is ((rw (to_z-of_z w32 c.args.x c.ranges.x, to_z-of_z w32 c.args.y c.ranges.y) at w.corrected.ensures.each) near i less covered)
    ]

pub returns-clause-bytes : goal.returns-clause-bytes
returns-clause-bytes c e =
    elim c.if-are_sure.branch [
      | then-are_sure w ↦ rw w.result-is (c.wholes-found.ensures.bytes e)
      | else-are_sure w ↦ rw w.result-is (bytes_kept _ _ w.corrected.ensures.length c.wholes-found.ensures.length w.corrected.ensures.at_most (c.wholes-found.ensures.bytes e))
    ]
