use Rattle.std.proofs.Common.{◌≡◌, refl, sym, ap, ◌∙◌, arith, ℕ, ◌+◌, ◌*◌, ◌<◌, bit_or, List, length, slice_index}
use Rattle.std.specs.Int.{bit_at}
use Rattle.polygons.specs.Summing.{marks_of_word, nonzero_bit}
use Rattle.polygons.proofs.NoFlags.{more_none, right_none, still}
use Rattle.polygons.proofs.RunningSums.{set_same, set_apart}
use Rattle.polygons.proofs.sum.sum_at.Goals as goal

same_marks : (downs ups more downs' ups' more' : List ℕ) (i : ℕ) → slice_index downs' i ≡ slice_index downs i → slice_index ups' i ≡ slice_index ups i → slice_index more' i ≡ slice_index more i
    → marks_of_word downs' ups' more' i ≡ marks_of_word downs ups more i
same_marks downs ups more downs' ups' more' i d u m = λ j. record { downs = d j; ups = u j; more = m j }

pub returns-then-firsts-eq0 : goal.returns-then-firsts-eq0
returns-then-firsts-eq0 c =
    let word = c.args.word in
    let downs = c.args.downs.now in
    let level = slice_index c.args.levels.now word in
    let marks = marks_of_word downs c.args.ups.now c.args.more.now word in
    let sum = λ (r : ℕ). slice_index c.args.sums.now (8 * word + r) in
    let inside : word < length downs = omega (arith, c.told-downs, c.requires.word) in
    let none : bit_or marks.downs marks.ups ≡ 0 = sym c.firsts.ensures ∙ c.if-firsts-eq0.true in
    let sum_still = λ (r n : ℕ). still marks c.args.counters.now word (sum r) r n c.requires.marked none (c.fits-sums (8 * word + r)) in
    record {
      bits = λ r j h l. ap (λ w. bit_at w (8 * r + j)) (set_same downs word level word inside refl) ∙ c.requires.level r j h l ∙ ap nonzero_bit (sym (sum_still r (j + 1) h (omega arith)));
      next = λ r h. sym (sum_still r 8 h (omega arith));
      level = c.requires.level;
      clear = (right_none marks.downs marks.ups none, more_none marks c.requires.marked none (c.fits-more word));
      others = λ i n. (same_marks downs c.args.ups.now c.args.more.now _ c.args.ups.now c.args.more.now i (set_apart downs word level i n) refl refl, refl);
      other_sums = λ q n. refl;
    }

pub returns : goal.returns
returns c =
    let word = c.args.word in
    let downs = c.args.downs.now in
    let p = c.sum_word-mask.ensures in
    let in_downs : word < length downs = omega (arith, c.told-downs, c.requires.word) in
    let in_ups : word < length c.args.ups.now = omega (arith, c.told-ups, c.requires.word) in
    let in_more : word < length c.args.more.now = omega (arith, c.told-more, c.requires.word) in
    let in_levels : word < length c.args.levels.now = omega (arith, c.told-levels, c.requires.word) in
    record {
      bits = λ r j h l. ap (λ w. bit_at w (8 * r + j)) (set_same downs word _ word in_downs refl) ∙ p.bits r j h l;
      next = p.next;
      level = λ r j h l. ap (λ w. bit_at w (8 * r + j)) (set_same c.args.levels.now word _ word in_levels refl) ∙ c.level_of.ensures r j h l ∙ p.bits r 7 h (omega arith) ∙ ap nonzero_bit (sym (p.next r h));
      clear = (set_same c.args.ups.now word 0 word in_ups refl, set_same c.args.more.now word 0 word in_more refl);
      others = λ i n. (
        same_marks downs c.args.ups.now c.args.more.now _ _ _ i (set_apart downs word _ i n) (set_apart c.args.ups.now word 0 i n) (set_apart c.args.more.now word 0 i n),
        set_apart c.args.levels.now word _ i n,
      );
      other_sums = p.other_sums;
    }
