use Rattle.std.proofs.Common.{◌≡◌, inl, inr, sym, subst, ap, ◌∙◌, arith, ℕ, ◌+◌, ◌*◌, ◌/◌, ◌<◌, slice_index}
use Rattle.std.proofs.lemmas.Bool.{cases_eq}
use Rattle.std.specs.Int.{bit_at}
use Rattle.polygons.specs.declared.marks.Marks.{Marks}
use Rattle.polygons.specs.Summing.{run, number_in, marks_of_word, nonzero_bit, HasFirstMarked}
use Rattle.polygons.proofs.Plotted.{before_of}
use Rattle.polygons.proofs.sum.sum_each.Goals as goal

pub sum_at-requires : goal.sum_at-requires
sum_at-requires c =
    let v = c.loop-i.invariant in
    let i = c.loop-i.i in
    let b = v.begun in
    let t = c.loop-i-test.true in
    let rest = v.rest i (λ a l. omega arith) in
    let here : i / 4 ≡ c.args.row = omega arith in
    record {
      word = omega (arith, t, c.requires.row);
      marked = subst HasFirstMarked (sym rest.0) (c.requires.marked i here);
      level = λ r j h l. ap (λ w. bit_at w (8 * r + j)) rest.1 ∙ c.requires.levels i here r j h l ∙ ap nonzero_bit (sym (v.sums_rest (8 * i + r) (λ a l. omega arith)));
    }

pub loop-i-preserved : goal.loop-i-preserved
loop-i-preserved c =
    let v = c.loop-i.invariant in
    let n = c.loop-i.i in
    let begun = v.begun in
    let p = c.sum_at.ensures in
    let rest = v.rest n (λ a l. omega arith) in
    let new = c.sum_at.new in
    let numbers = λ (i : ℕ). number_in (marks_of_word c.args.downs.now c.args.ups.now c.args.more.now i) c.args.counters.now i in
    let sums = c.args.sums.now in
    let same : (r m : ℕ) → r < 8 → run (number_in (marks_of_word c.loop-i.downs c.loop-i.ups c.loop-i.more n) c.args.counters.now n) (8 * r) (slice_index c.loop-i.sums (8 * n + r)) m ≡ run (numbers n) (8 * r) (slice_index sums (8 * n + r)) m = (λ r m h.
    λ j. run (number_in (rest.0 j) c.args.counters.now n) (8 * r) (v.sums_rest (8 * n + r) (λ a l. omega arith) j) m) in
    record {
      begun = omega arith;
      inside = omega arith;
      bits = λ i r j from h lr lj. elim (cases_eq i n) [
        | inl e ↦
            ap (λ m. bit_at (slice_index new.downs m) (8 * r + j)) e ∙ p.bits r j lr lj ∙ ap nonzero_bit (same r (j + 1) lr) ∙ ap (λ m. nonzero_bit (run (numbers m) (8 * r) (slice_index sums (8 * m + r)) (j + 1))) (sym e)
        | inr e ↦ ap (λ (m : Marks). bit_at m.downs (8 * r + j)) (p.others i e).0 ∙ v.bits i r j from (before_of i n h e) lr lj
      ];
      next = λ i r from h lr. elim (cases_eq i n) [
        | inl e ↦ ap (λ m. slice_index new.sums (8 * m + r)) e ∙ p.next r lr ∙ same r 8 lr ∙ ap (λ m. run (numbers m) (8 * r) (slice_index sums (8 * m + r)) 8) (sym e)
        | inr e ↦ p.other_sums (8 * i + r) (λ x. e (omega arith)) ∙ v.next i r from (before_of i n h e) lr
      ];
      clear = λ i from h. elim (cases_eq i n) [
        | inl e ↦ (ap (slice_index new.ups) e ∙ p.clear.0, ap (slice_index new.more) e ∙ p.clear.1)
        | inr e ↦
            let o = (p.others i e).0 in
            let z = v.clear i from (before_of i n h e) in
            (ap (λ (m : Marks). m.ups) o ∙ z.0, ap (λ (m : Marks). m.more) o ∙ z.1)
      ];
      levels_done = λ i from h r j lr lj. elim (cases_eq i n) [
        | inl e ↦ ap (λ m. bit_at (slice_index new.levels m) (8 * r + j)) e ∙ p.level r j lr lj ∙ ap (λ m. nonzero_bit (slice_index new.sums (8 * m + r))) (sym e)
        | inr e ↦ ap (λ w. bit_at w (8 * r + j)) (p.others i e).1 ∙ v.levels_done i from (before_of i n h e) r j lr lj ∙ ap nonzero_bit (sym (p.other_sums (8 * i + r) (λ x. e (omega arith))))
      ];
      rest = λ i h.
          let o = p.others i (λ x. h (omega arith) (omega arith)) in
          let w = v.rest i (λ a l. h a (omega arith)) in
          (o.0 ∙ w.0, o.1 ∙ w.1);
      sums_rest = λ q h. p.other_sums q (λ x. h (omega arith) (omega arith)) ∙ v.sums_rest q (λ a l. h a (omega arith));
    }

pub returns : goal.returns
returns c =
    let v = c.loop-i.invariant in
    let f = c.loop-i-test.false in
    record {
      levels = λ i e. v.levels_done i (omega arith) (omega arith);
      bits = λ i r j e lr lj. v.bits i r j (omega arith) (omega arith) lr lj;
      next = λ i r e lr. v.next i r (omega arith) (omega arith) lr;
      clear = λ i e. v.clear i (omega arith) (omega arith);
      others = λ i n. v.rest i (λ a l. n (let m = v.inside in omega arith));
      other_sums = λ q n. v.sums_rest q (λ a l. n (let m = v.inside in omega arith));
    }
