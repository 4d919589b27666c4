use Rattle.std.proofs.Common.{sym, ◌≤◌, arith}
use Rattle.batch.proofs.Ranges.{count_from, drop_from}
use Rattle.batch.proofs.strided.StridedVertices.behind.Goals as goal

pub overflow_add-result : goal.overflow_add-result
overflow_add-result c =
    let s = c.args.self.now in
    omega (arith, c.requires, s.few, count_from s.stride s.bytes.now s.begin s.count)

pub overflow_sub-result : goal.overflow_sub-result
overflow_sub-result c =
    let s = c.args.self.now in
    omega (arith, c.requires, count_from s.stride s.bytes.now s.begin s.count)

pub invariant_of-result : goal.invariant_of-result
invariant_of-result c =
    let s = c.args.self.now in
    let fewer : c.args.count ≤ s.count = omega (arith, c.requires, count_from s.stride s.bytes.now s.begin s.count) in
    record {
      few = omega (arith, fewer, s.few);
      inside = λ k less. s.inside k (omega (arith, fewer, less));
    }

pub returns : goal.returns
returns c =
    let s = c.args.self.now in
    sym (drop_from s.stride s.bytes.now s.begin s.count c.args.count)
