use Rattle.std.proofs.Common.{refl, arith, rules, ◌+◌, ◌-◌, ◌≤◌, map, take, drop, length}
use Rattle.std.specs.List.{All}
use Rattle.grid.specs.Position.{IsInGuardBand}
use Rattle.polygons.specs.Arrays.{first_corner}
use Rattle.polygons.specs.Rings.{position_of, corners_between, AreCornersInBand, IsInClosedExtent}
use Rattle.polygons.proofs.BoxesOfPolygons.{corners_rise, corners_within, polygon_held}
use Rattle.polygons.proofs.Seen.{in_band_at, in_band_of}
use Rattle.polygons.proofs.arrays.Polygons.extent.Goals as goal

pub slice_bounds-corners-count : goal.slice_bounds-corners-count
slice_bounds-corners-count c =
    let p = c.args.self.now in
    let rises = corners_rise p.corners.now p.ring_ends.now p.polygon_ends.now p.checked.rings p.checked.polygons c.args.number (c.args.number + 1) (omega arith) (omega (arith, c.requires)) in
    omega (arith, rises, c.first_corner-first.ensures, c.first_corner-behind.ensures)

pub slice_bounds-corners-start : goal.slice_bounds-corners-start
slice_bounds-corners-start c =
    let p = c.args.self.now in
    let within = corners_within p.corners.now p.ring_ends.now p.polygon_ends.now p.checked.rings p.checked.polygons (c.args.number + 1) (omega (arith, c.requires)) in
    let rises = corners_rise p.corners.now p.ring_ends.now p.polygon_ends.now p.checked.rings p.checked.polygons c.args.number (c.args.number + 1) (omega arith) (omega (arith, c.requires)) in
    let from : c.first_corner-first.result ≤ c.first_corner-behind.result = omega (arith, rises, c.first_corner-first.ensures, c.first_corner-behind.ensures) in
    let fits : c.first_corner-behind.result ≤ length p.corners.now = omega (arith, c.first_corner-behind.ensures, within) in
    search rules

pub returns-in-None-clause-some : goal.returns-in-None-clause-some
returns-in-None-clause-some c =
    let p = c.args.self.now in
    let number = c.args.number in
    let all : All IsInGuardBand (corners_between p.corners.now c.first_corner-first.result c.first_corner-behind.result) = in_band_of (take (c.first_corner-behind.result - c.first_corner-first.result) (drop c.first_corner-first.result p.corners.now)) (c.in-None.ensures.none refl) in
    let seen : All IsInGuardBand (corners_between p.corners.now (first_corner p.ring_ends.now p.polygon_ends.now number) (first_corner p.ring_ends.now p.polygon_ends.now (number + 1))) = rw (← c.first_corner-first.ensures, ← c.first_corner-behind.ensures) all in
    ((λ yes. seen), (λ s. refl))

pub returns-in-None-clause-least : goal.returns-in-None-clause-least
returns-in-None-clause-least c = rw (← c.first_corner-first.ensures, ← c.first_corner-behind.ensures) c.of-extent.ensures

pub returns-in-None-clause-holds : goal.returns-in-None-clause-holds
returns-in-None-clause-holds c =
    let p = c.args.self.now in
    let number = c.args.number in
    let held : All (IsInClosedExtent c.of-extent.result) (corners_between p.corners.now (first_corner p.ring_ends.now p.polygon_ends.now number) (first_corner p.ring_ends.now p.polygon_ends.now (number + 1))) =
    rw (← c.first_corner-first.ensures, ← c.first_corner-behind.ensures) c.of-extent.ensures.held in
    polygon_held p.corners.now p.ring_ends.now p.polygon_ends.now p.checked.rings p.checked.polygons c.of-extent.result number number (number + 1) (omega arith) (omega arith) (omega (arith, c.requires)) held

pub returns-in-Some-clause-some : goal.returns-in-Some-clause-some
returns-in-Some-clause-some c =
    let p = c.args.self.now in
    let number = c.args.number in
    let part = take (c.first_corner-behind.result - c.first_corner-first.result) (drop c.first_corner-first.result p.corners.now) in
    let first = c.in-Some.ensures.some in (
      (λ no. cc),
      (λ seen.
          let all : All IsInGuardBand (map position_of part) = rw (c.first_corner-first.ensures, c.first_corner-behind.ensures) seen in
          let band : AreCornersInBand part = in_band_at part all in
          absurd (first.outside (band c.in-Some.field-0 _ first.inside))),
    )
