use Rattle.std.proofs.Common.{rules}
use Rattle.polygons.proofs.RunBoxes.{run_ends}
use Rattle.polygons.proofs.polygon_runs.PolygonRuns.run_of.Goals as goal

pub overflow_mul-result : goal.overflow_mul-result
overflow_mul-result c =
    let self = c.args.self.now in
    let r = run_ends c.args.number self.length self.some in
    let low = r.0 in
    let next = r.1 in
    let short = self.short in
    search rules
