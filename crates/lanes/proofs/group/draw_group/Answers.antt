use Rattle.std.proofs.Common.{ℕ, refl, ap, w32}
use Rattle.std.proofs.lemmas.Int.{to_z-of_z}
use Rattle.shade.specs.declared.sample.CanvasSample.{CanvasSample}
use Rattle.lanes.proofs.Groups.{combined, undrawn}
use Rattle.lanes.proofs.group.draw_group.Goals as goal

pub returns-then-is_clear-clause-set : goal.returns-then-is_clear-clause-set
returns-then-is_clear-clause-set g c i l set f depth colour =
    let x = to_z-of_z w32 c.args.x c.ranges.x in
    let y = to_z-of_z w32 c.args.y c.ranges.y in
    undrawn c.args.merge.now f _ _ _ (c.test_depths_of-drawn.ensures.set i f.z (rw (x, y) depth) l set)
    (c.is_clear.ensures c.if-is_clear.true i l) refl refl refl refl

pub returns-clause-set : goal.returns-clause-set
returns-clause-set g c i l set f depth colour =
    let x = to_z-of_z w32 c.args.x c.ranges.x in
    let y = to_z-of_z w32 c.args.y c.ranges.y in
    let v = c.values-c.ensures in
    let drawn = c.draw_colours.ensures in
    rw drawn.depth
    (combined c.args.merge.now f _ _ _ _ _ _ _ (c.test_depths_of-drawn.ensures.set i f.z (rw (x, y) depth) l set)
    (λ writes. v.red f i writes (rw (x, y) colour) l) (λ writes. v.green f i writes (rw (x, y) colour) l) (λ writes. v.blue f i writes (rw (x, y) colour) l) (λ reads. v.alpha f i reads (rw (x, y) colour) l)
    (record { set = λ full. (drawn.set i l full).red; clear = λ none. ap red (drawn.clear i l none) })
    (record { set = λ full. (drawn.set i l full).green; clear = λ none. ap green (drawn.clear i l none) })
    (record { set = λ full. (drawn.set i l full).blue; clear = λ none. ap blue (drawn.clear i l none) })
    (record { set = rw drawn.alpha at (c.draw_alpha.ensures.set i l); clear = rw drawn.alpha at (c.draw_alpha.ensures.clear i l) }))
  where
    red : CanvasSample → ℕ
    red s = s.r

    green : CanvasSample → ℕ
    green s = s.g

    blue : CanvasSample → ℕ
    blue s = s.b
