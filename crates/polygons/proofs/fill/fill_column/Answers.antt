use Rattle.std.proofs.Common.{subst, ◌∙◌, arith, ℕ, slice_index}
use Rattle.polygons.specs.Spreading.{IsCarry, IsFilled, IsNextCarry}
use Rattle.polygons.proofs.Filling.{one_more_element, element-other, changed_or_not}
use Rattle.polygons.proofs.fill.fill_column.Goals as goal

pub loop-i-preserved : goal.loop-i-preserved
loop-i-preserved c =
    let v = c.loop-i.invariant in
    let n = c.loop-i.i in
    let f = c.fill_rows-filled.ensures in
    let w = v.words_rest n (omega arith) in
    let k = v.carry_rest n (omega arith) in
    let filled = subst (λ (x : ℕ). IsFilled x (slice_index c.args.carry.now n) c.fill_rows-filled.result.0) w (subst (λ (x : ℕ). IsFilled (slice_index c.loop-i.words n) x c.fill_rows-filled.result.0) k f.filled) in
    let next = subst (λ (x : ℕ). IsNextCarry x (slice_index c.args.carry.now n) c.fill_rows-filled.result.1) w (subst (λ (x : ℕ). IsNextCarry (slice_index c.loop-i.words n) x c.fill_rows-filled.result.1) k f.next) in
    record {
      filled = one_more_element (λ i x. IsFilled (slice_index c.args.words.now i) (slice_index c.args.carry.now i) x) c.loop-i.words n c.fill_rows-filled.result.0 (omega arith) v.filled filled;
      next = one_more_element (λ i x. IsNextCarry (slice_index c.args.words.now i) (slice_index c.args.carry.now i) x) c.loop-i.carry n c.fill_rows-filled.result.1 (omega arith) v.next next;
      carry = λ i h. changed_or_not IsCarry c.loop-i.carry n i c.fill_rows-filled.result.1 (omega arith) f.carry (v.carry i h);
      words_rest = λ i h. element-other c.loop-i.words n i c.fill_rows-filled.result.0 h ∙ v.words_rest i (omega arith);
      carry_rest = λ i h. element-other c.loop-i.carry n i c.fill_rows-filled.result.1 h ∙ v.carry_rest i (omega arith);
    }
