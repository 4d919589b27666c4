use Rattle.std.proofs.Common.{sym, ◌≤◌, arith}
use Rattle.std.proofs.lemmas.List.FromFn.{take-map-range_with_len}
use Rattle.batch.specs.Strides.{vertex_in}
use Rattle.batch.proofs.Ranges.{count_from}
use Rattle.batch.proofs.strided.StridedVertices.first.Goals as goal

pub invariant_of-result : goal.invariant_of-result
invariant_of-result c =
    let s = c.args.self.now in
    let fewer : c.args.count ≤ s.count = omega (arith, c.requires, count_from s.stride s.bytes.now s.begin s.count) in
    record {
      few = omega (arith, fewer, s.few);
      inside = λ k less. s.inside k (omega (arith, fewer, less));
    }

pub returns-clause-value : goal.returns-clause-value
returns-clause-value c =
    let s = c.args.self.now in
    let fewer : c.args.count ≤ s.count = omega (arith, c.requires, count_from s.stride s.bytes.now s.begin s.count) in
    sym (take-map-range_with_len (vertex_in s.stride s.bytes.now) s.begin s.count c.args.count fewer)
