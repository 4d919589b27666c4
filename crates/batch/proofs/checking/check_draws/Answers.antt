use Rattle.std.proofs.Common.{◌<◌, length}
use Rattle.batch.specs.OwnIndices.{indices_given}
use Rattle.batch.proofs.Draws.{fails_here, fails_later, passes_here}
use Rattle.batch.proofs.checking.check_draws.Goals as goal

pub returns-in-Err : goal.returns-in-Err
returns-in-Err g c =
    let within : c.loop-number.number < length c.args.draws.now = c.loop-number-test.true in
    rw c.in_draw.ensures (c.loop-number.invariant.faults _ (fails_here c.args.origin.now.x c.args.origin.now.y c.args.draws.now c.loop-number.number _ within c.loop-number.next_ids (g.V.Vertices.listed c.loop-number.vertices_left) (indices_given c.loop-number.indices_left) c.in-Err.fault c.in-Err.ensures))

pub loop-number-preserved : goal.loop-number-preserved
loop-number-preserved g c =
    let within : c.loop-number.number < length c.args.draws.now = c.loop-number-test.true in
    let pass = c.in_default.ensures.0 in
    record {
      passed = λ rest. c.loop-number.invariant.passed (passes_here c.args.origin.now.x c.args.origin.now.y c.args.draws.now c.loop-number.number _ within c.loop-number.next_ids (g.V.Vertices.listed c.loop-number.vertices_left) (indices_given c.loop-number.indices_left) pass
          (rw (c.after-next_ids.ensures, c.triangles_of_draw.ensures, c.behind-indices_left.ensures, c.behind-vertices_left.ensures) at rest));
      faults = λ fault first. c.loop-number.invariant.faults fault (fails_later c.args.origin.now.x c.args.origin.now.y c.args.draws.now c.loop-number.number _ within c.loop-number.next_ids (g.V.Vertices.listed c.loop-number.vertices_left) (indices_given c.loop-number.indices_left) fault pass
          (rw (c.after-next_ids.ensures, c.triangles_of_draw.ensures, c.behind-indices_left.ensures, c.behind-vertices_left.ensures) at first));
    }
