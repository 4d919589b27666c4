use Rattle.std.proofs.Common.{rules, refl, arith, ◌-◌, ◌<◌, ◌≤◌}
use Rattle.fills.specs.declared.group.Span.{Span}
use Rattle.fills.specs.Batches.{shape_in, HasCornersInBand}
use Rattle.fills.specs.Parts.{LiesInRows}
use Rattle.fills.proofs.Groups.{group_next}
use Rattle.fills.proofs.group.Group.take.Goals as goal

pub loop-number-preserved : goal.loop-number-preserved
loop-number-preserved c =
    let self = c.loop-number.self in
    let number = c.loop-number.number in
    let polygons = c.args.polygons.now in
    let v = c.loop-number.invariant in
    let from : self.first ≤ number = omega (arith, v.first, c.loop-number.auto.number) in
    let small : number - self.first < 4096 = omega (arith, v.first, c.loop-number-test.true, c.loop-number.auto.number, c.min-number-end.ensures) in
    record {
      first = v.first;
      end = refl;
      rows = λ style fit. group_next (λ k (s : Span). LiesInRows (shape_in polygons style k) c.args.origin.now c.args.canvas.now s.top s.bottom) self number c.args.first c.rows_of.result v.first v.end from (search rules) (v.rows style fit)
          (c.rows_of.ensures.rows fit style);
      seen = group_next (λ k (s : Span). s.top < s.bottom → HasCornersInBand polygons k) self number c.args.first c.rows_of.result v.first v.end from (search rules) v.seen c.rows_of.ensures.seen;
    }

pub returns-then-is_large-2-clause-rows : goal.returns-then-is_large-2-clause-rows
returns-then-is_large-2-clause-rows c style fit =
    let self = c.loop-number.self in
    let number = c.loop-number.number in
    let v = c.loop-number.invariant in
    let from : self.first ≤ number = omega (arith, v.first, c.loop-number.auto.number) in
    let small : number - self.first < 4096 = omega (arith, v.first, c.loop-number-test.true, c.loop-number.auto.number, c.min-number-end.ensures) in
    group_next (λ k (s : Span). LiesInRows (shape_in c.args.polygons.now style k) c.args.origin.now c.args.canvas.now s.top s.bottom) self number c.args.first c.rows_of.result v.first v.end from (search rules) (v.rows style fit)
    (c.rows_of.ensures.rows fit style)

pub returns-then-is_large-2-clause-seen : goal.returns-then-is_large-2-clause-seen
returns-then-is_large-2-clause-seen c =
    let self = c.loop-number.self in
    let number = c.loop-number.number in
    let v = c.loop-number.invariant in
    let from : self.first ≤ number = omega (arith, v.first, c.loop-number.auto.number) in
    let small : number - self.first < 4096 = omega (arith, v.first, c.loop-number-test.true, c.loop-number.auto.number, c.min-number-end.ensures) in
    group_next (λ k (s : Span). s.top < s.bottom → HasCornersInBand c.args.polygons.now k) self number c.args.first c.rows_of.result v.first v.end from (search rules) v.seen c.rows_of.ensures.seen
