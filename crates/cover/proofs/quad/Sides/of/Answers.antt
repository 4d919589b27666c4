use Rattle.std.proofs.Common.{Bool, ap, subst, inl, inr}
use Rattle.std.specs.Prelude.{MatchBool}
use Rattle.grid.specs.Quad.{TurnsRight, TurnsLeft}
use Rattle.cover.proofs.FourSides.{clockwise_sides, counterclockwise_sides}
use Rattle.cover.proofs.quad.Sides.of.Goals as goal

pub returns-then-is_clockwise : goal.returns-then-is_clockwise
returns-then-is_clockwise c =
    let q = c.args.quad.now in
    let turns : TurnsRight q.a q.b q.c q.d = subst (λ (b : Bool). MatchBool b (TurnsRight q.a q.b q.c q.d) (TurnsLeft q.a q.b q.c q.d)) c.if-is_clockwise.true c.is_clockwise.ensures in
    record {
      sides = clockwise_sides q c.corners-a.result.0 c.corners-a.result.1 c.corners-a.result.2 c.corners-a.result.3 _ (ap (λ corners. corners.0) c.corners-a.ensures) (ap (λ corners. corners.1) c.corners-a.ensures) (ap (λ corners. corners.2) c.corners-a.ensures) (ap (λ corners. corners.3) c.corners-a.ensures) turns
          c.new.ensures c.new-then-is_clockwise.ensures c.new-then-is_clockwise-2.ensures c.new-then-is_clockwise-3.ensures;
      convex = inl turns;
    }

pub returns-else-is_clockwise : goal.returns-else-is_clockwise
returns-else-is_clockwise c =
    let q = c.args.quad.now in
    let turns : TurnsLeft q.a q.b q.c q.d = subst (λ (b : Bool). MatchBool b (TurnsRight q.a q.b q.c q.d) (TurnsLeft q.a q.b q.c q.d)) c.if-is_clockwise.false c.is_clockwise.ensures in
    record {
      sides = counterclockwise_sides q c.corners-a.result.0 c.corners-a.result.1 c.corners-a.result.2 c.corners-a.result.3 _ (ap (λ corners. corners.0) c.corners-a.ensures) (ap (λ corners. corners.1) c.corners-a.ensures) (ap (λ corners. corners.2) c.corners-a.ensures) (ap (λ corners. corners.3) c.corners-a.ensures) turns
          c.new-else-is_clockwise.ensures c.new-else-is_clockwise-2.ensures c.new-else-is_clockwise-3.ensures c.new-else-is_clockwise-4.ensures;
      convex = inr turns;
    }
