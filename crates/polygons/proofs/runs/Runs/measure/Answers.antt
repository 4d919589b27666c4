use Rattle.std.proofs.Common.{refl, ap, ◌∙◌, arith, ◌+◌, ◌-◌, ◌*◌, ◌<◌, ◌≤◌, min, rules}
use Rattle.polygons.specs.Rings.{end_of}
use Rattle.polygons.proofs.RunBoxes.{one_box_more, few_runs}
use Rattle.polygons.proofs.runs.Runs.measure.Goals as goal

pub loop-run-preserved : goal.loop-run-preserved
loop-run-preserved c =
    let rings = c.args.rings.now in
    let self = c.loop-run.self in
    let first = rings.start + c.loop-run.run * self.length in
    let long : c.div_ceil.result ≤ c.max-self.result = omega (arith, c.max-self.ensures) in
    let some : 0 < c.max-self.result = omega (arith, c.max-self.ensures) in
    let few = few_runs (c.end-end.result - rings.start) c.max-self.result some (omega (arith, c.div_ceil.ensures, long)) in
    let small : c.loop-run.run < 1024 = omega (arith, few, c.div_ceil-count.ensures, c.loop-run-test.true) in
    record {
      length = c.loop-run.invariant.length;
      held = one_box_more self.boxes c.loop-run.run rings.corners.now rings.start self.length (end_of rings.start rings.ends.now) first c.min-behind.result c.of.result
          (search rules) refl (c.min-behind.ensures ∙ ap (min (first + self.length + 1)) c.end-end.ensures.value) (omega (arith, c.end-end.ensures.value, c.end-end.ensures.within)) c.of.ensures.held c.loop-run.invariant.held;
    }

pub invariant_of-self-2 : goal.invariant_of-self-2
invariant_of-self-2 c =
    let long : c.div_ceil.result ≤ c.max-self.result = omega (arith, c.max-self.ensures) in
    let some : 0 < c.max-self.result = omega (arith, c.max-self.ensures) in
    let few = few_runs (c.end-end.result - c.args.rings.now.start) c.max-self.result some (omega (arith, c.div_ceil.ensures, long)) in
    record {
      some = c.loop-run.self.some;
      short = c.loop-run.self.short;
      few = omega (arith, few, c.div_ceil-count.ensures);
    }
