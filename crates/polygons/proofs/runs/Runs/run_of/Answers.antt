use Rattle.std.proofs.Common.{rules}
use Rattle.polygons.proofs.RunBoxes.{run_ends}
use Rattle.polygons.proofs.runs.Runs.run_of.Goals as goal

pub overflow_add-result : goal.overflow_add-result
overflow_add-result c = let r = run_ends c.args.corner c.args.self.now.length c.args.self.now.some in search rules

pub overflow_mul-result : goal.overflow_mul-result
overflow_mul-result c = let r = run_ends c.args.corner c.args.self.now.length c.args.self.now.some in let small = c.args.self.now.short in let a = r.0 in let b = r.1 in search rules

pub overflow_add-result-2 : goal.overflow_add-result-2
overflow_add-result-2 c = let r = run_ends c.args.corner c.args.self.now.length c.args.self.now.some in let small = c.args.self.now.short in let a = r.0 in let b = r.1 in search rules
