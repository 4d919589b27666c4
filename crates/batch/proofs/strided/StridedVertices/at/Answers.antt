use Rattle.std.proofs.Common.{◌∙◌, sym, refl, ◌+◌, ◌*◌, ◌<◌, ◌≤◌, length, arith}
use Rattle.std.proofs.lemmas.List.FromFn.{get_or-map-range_with_len}
use Rattle.batch.specs.Strides.{vertex_in}
use Rattle.batch.proofs.Ranges.{count_from}
use Rattle.batch.proofs.strided.StridedVertices.at.Goals as goal

pub overflow_add-at : goal.overflow_add-at
overflow_add-at c =
    let s = c.args.self.now in
    omega (arith, c.requires, s.few, count_from s.stride s.bytes.now s.begin s.count)

pub overflow_mul-at : goal.overflow_mul-at
overflow_mul-at c =
    let s = c.args.self.now in
    let less : c.args.index < s.count = omega (arith, c.requires, count_from s.stride s.bytes.now s.begin s.count) in
    let fits : (s.begin + c.args.index) * s.stride + 16 ≤ length s.bytes.now = s.inside (s.begin + c.args.index) (omega (arith, less)) in
    let h = c.well_formed in
    omega (arith, fits)

pub overflow_add-at-2 : goal.overflow_add-at-2
overflow_add-at-2 c =
    let s = c.args.self.now in
    let less : c.args.index < s.count = omega (arith, c.requires, count_from s.stride s.bytes.now s.begin s.count) in
    let fits : (s.begin + c.args.index) * s.stride + 16 ≤ length s.bytes.now = s.inside (s.begin + c.args.index) (omega (arith, less)) in
    let h = c.well_formed in
    omega (arith, fits)

pub slice_bounds-of_bytes-end : goal.slice_bounds-of_bytes-end
slice_bounds-of_bytes-end c =
    let s = c.args.self.now in
    let less : c.args.index < s.count = omega (arith, c.requires, count_from s.stride s.bytes.now s.begin s.count) in
    s.inside (s.begin + c.args.index) (omega (arith, less))

pub returns : goal.returns
returns c =
    let s = c.args.self.now in
    let less : c.args.index < s.count = omega (arith, c.requires, count_from s.stride s.bytes.now s.begin s.count) in
    c.of_bytes.ensures ∙ sym (get_or-map-range_with_len (vertex_in s.stride s.bytes.now) s.begin s.count c.args.index (s.begin + c.args.index) _ less refl)
