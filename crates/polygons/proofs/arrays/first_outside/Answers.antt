use Rattle.std.proofs.Common.{arith, refl, rules, pos}
use Rattle.std.proofs.lemmas.List.{get_or-map, length-map, take_all}
use Rattle.std.proofs.lemmas.List.Elements.{All-more}
use Rattle.grid.specs.Position.{IsInGuardBand}
use Rattle.polygons.specs.declared.corner.Corner.{Corner}
use Rattle.polygons.specs.Rings.{position_of, AreCornersInBand}
use Rattle.polygons.proofs.arrays.first_outside.Goals as goal

abbrev zeros : Corner
zeros = record { x = pos 0; y = pos 0 }

pub loop-k-preserved : goal.loop-k-preserved
loop-k-preserved c =
    All-more (λ k. IsInGuardBand (position_of k)) c.args.corners.now c.loop-k.k zeros c.loop-k-test.true c.loop-k.invariant (c.point.ensures.some.0 (search rules))

pub returns-clause-none : goal.returns-clause-none
returns-clause-none c same =
    let cs = c.args.corners.now in
    let all : AreCornersInBand cs = rw (take_all c.loop-k.k cs (omega (arith, c.loop-k-test.false))) at c.loop-k.invariant in
    all

pub returns-then-is_in_band-clause-none : goal.returns-then-is_in_band-clause-none
returns-then-is_in_band-clause-none c same k d h =
    let cs = c.args.corners.now in
    let long = length-map cs position_of in
    let inside = c.if-is_in_band.ensures refl _ (c.requires k (position_of d) (omega (arith, h, long))) in
    rw (get_or-map position_of cs k d (position_of d) h) at inside
