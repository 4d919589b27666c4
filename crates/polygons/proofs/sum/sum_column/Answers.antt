use Rattle.std.proofs.Common.{◌≡◌, inl, inr, sym, subst, ap, ◌∙◌, arith, ℕ, ◌+◌, ◌*◌, ◌/◌, ◌<◌, slice_index}
use Rattle.std.proofs.lemmas.Bool.{cases_eq, cases_lt}
use Rattle.std.specs.Int.{bit_at}
use Rattle.polygons.specs.declared.marks.Marks.{Marks}
use Rattle.polygons.specs.Summing.{run, number_in, marks_of_word, nonzero_bit, HasFirstMarked}
use Rattle.polygons.proofs.Plotted.{before_of}
use Rattle.polygons.proofs.RunningSums.{past_end}
use Rattle.polygons.proofs.sum.sum_column.Goals as goal

pub sum_row-requires : goal.sum_row-requires
sum_row-requires c =
    let v = c.loop-row.invariant in
    let t = c.loop-row-test.true in
    record {
      row = t;
      marked = λ i e. subst HasFirstMarked (sym (v.rest i (omega arith)).0) (c.requires.marked i (omega arith));
      levels = λ i e r j h l. ap (λ w. bit_at w (8 * r + j)) (v.rest i (omega arith)).1 ∙ c.requires.levels i (omega arith) r j h l ∙ ap nonzero_bit (sym (v.sums_rest (8 * i + r) (omega arith)));
    }

pub loop-row-preserved : goal.loop-row-preserved
loop-row-preserved c =
    let v = c.loop-row.invariant in
    let n = c.loop-row.row in
    let p = c.sum_row.ensures in
    let numbers = λ (i : ℕ). number_in (marks_of_word c.args.downs.now c.args.ups.now c.args.more.now i) c.args.counters.now i in
    let sums = c.args.sums.now in
    let same : (i r m : ℕ) → i / 4 ≡ n → r < 8 → run (number_in (marks_of_word c.loop-row.downs c.loop-row.ups c.loop-row.more i) c.args.counters.now i) (8 * r) (slice_index c.loop-row.sums (8 * i + r)) m ≡ run (numbers i) (8 * r) (slice_index sums (8 * i + r)) m = (λ i r m e h.
    λ j. run (number_in ((v.rest i (omega arith)).0 j) c.args.counters.now i) (8 * r) (v.sums_rest (8 * i + r) (omega arith) j) m) in
    record {
      bits = λ i r j h lr lj. elim (cases_eq (i / 4) n) [
        | inl e ↦ p.bits i r j e lr lj ∙ ap nonzero_bit (same i r (j + 1) e lr)
        | inr e ↦ ap (λ (m : Marks). bit_at m.downs (8 * r + j)) (p.others i e).0 ∙ v.bits i r j (before_of (i / 4) n h e) lr lj
      ];
      next = λ i r h lr. elim (cases_eq (i / 4) n) [
        | inl e ↦ p.next i r e lr ∙ same i r 8 e lr
        | inr e ↦ p.other_sums (8 * i + r) (λ x. e (omega arith)) ∙ v.next i r (before_of (i / 4) n h e) lr
      ];
      clear = λ i h. elim (cases_eq (i / 4) n) [
        | inl e ↦ p.clear i e
        | inr e ↦
            let o = (p.others i e).0 in
            let z = v.clear i (before_of (i / 4) n h e) in
            (ap (λ (m : Marks). m.ups) o ∙ z.0, ap (λ (m : Marks). m.more) o ∙ z.1)
      ];
      levels_done = λ i h r j lr lj. elim (cases_eq (i / 4) n) [
        | inl e ↦ p.levels i e r j lr lj
        | inr e ↦ ap (λ w. bit_at w (8 * r + j)) (p.others i e).1 ∙ v.levels_done i (before_of (i / 4) n h e) r j lr lj ∙ ap nonzero_bit (sym (p.other_sums (8 * i + r) (λ x. e (omega arith))))
      ];
      rest = λ i h.
          let o = p.others i (λ x. omega arith) in
          let w = v.rest i (omega arith) in
          (o.0 ∙ w.0, o.1 ∙ w.1);
      sums_rest = λ q h. p.other_sums q (λ x. omega arith) ∙ v.sums_rest q (omega arith);
    }

pub returns : goal.returns
returns c =
    let v = c.loop-row.invariant in
    let f = c.loop-row-test.false in
    record {
      levels = λ i h. v.levels_done i (omega arith);
      bits = λ i r j h lr lj. v.bits i r j (omega arith) lr lj;
      next = λ i r h lr. v.next i r (omega arith) lr;
      clear = λ i. elim (cases_lt (i / 4) c.loop-row.row) [
        | inl l ↦ v.clear i l
        | inr l ↦ (ap (λ (m : Marks). m.ups) (v.rest i l).0 ∙ past_end c.args.ups.now i (omega (arith, c.told-ups, f, l)), ap (λ (m : Marks). m.more) (v.rest i l).0 ∙ past_end c.args.more.now i (omega (arith, c.told-more, f, l)))
      ];
    }
