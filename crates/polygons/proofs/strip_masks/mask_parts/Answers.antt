use Rattle.std.proofs.Common.{◌≡◌, inl, inr, refl, sym, subst, ap, ◌∙◌, arith, ℕ, ◌+◌, ◌-◌, ◌*◌, ◌<◌, ◌≤◌, List, length, take, drop}
use Rattle.std.proofs.lemmas.Bool.{cases_eq}
use Rattle.grid.specs.Samples.{parts_of}
use Rattle.polygons.specs.Cells.{part_columns, columns_in, HasCounters, AreMarked, AreSumMasks, AreZerosFrom}
use Rattle.polygons.proofs.Parts.{put, put_long, put_part, put_other, part_room, part_long}
use Rattle.polygons.proofs.strip_masks.mask_parts.Goals as goal

-- the columns of a part that is put back, and of the others
module _ (n part parts m : ℕ) (old mid new : List (List ℕ)) (h : part < parts) (is : m ≡ n) (room : parts * n ≤ length old) (same_len : length mid ≡ length old) (len : length new ≡ length (take m (drop (part * n) mid)))
    (rest : (j : ℕ) → part ≤ j → part_columns mid n j ≡ part_columns old n j) where
  part_fits : part * n + n ≤ length mid
  part_fits = omega (arith, part_room part parts n h, room, same_len)

  long : length new ≡ n
  long = len ∙ ap (λ k. length (take k (drop (part * n) mid))) is ∙ part_long mid n part parts h (omega (arith, room, same_len))

  old_part : take m (drop (part * n) mid) ≡ part_columns old n part
  old_part = ap (λ k. take k (drop (part * n) mid)) is ∙ rest part (omega arith)

  here : part_columns (put mid new (part * n) m) n part ≡ new
  here = put_part mid new part n (part * n) m refl is part_fits long

  other : (j : ℕ) → (j ≡ part → ⊥) → part_columns (put mid new (part * n) m) n j ≡ part_columns mid n j
  other j apart = put_other mid new part n (part * n) m refl is part_fits long j apart

  all_long : length (put mid new (part * n) m) ≡ length old
  all_long = rw is (put_long mid new (part * n) n part_fits long) ∙ same_len

  rest_more : (j : ℕ) → part + 1 ≤ j → part_columns (put mid new (part * n) m) n j ≡ part_columns old n j
  rest_more j l = other j (λ e. omega (arith, e, l)) ∙ rest j (omega (arith, l))

-- a part as the call has it
part_is : (cells : List (List ℕ)) (n part m : ℕ) → m ≡ n → take m (drop (part * n) cells) ≡ part_columns cells n part
part_is cells n part m is = ap (λ k. take k (drop (part * n) cells)) is

pub mask_part-requires : goal.mask_part-requires
mask_part-requires c =
    let part = c.loop-part.part in
    let rule = c.args.rule in
    let n = c.args.flagged in
    let k = c.args.counted in
    let h : part < parts_of c.args.count = omega (arith, c.loop-part-test.true, c.parts-part-end.ensures) in
    let f = sym (part_is c.loop-part.flags n part (part * n + n - part * n) (omega arith) ∙ c.loop-part.invariant.flags_rest part (omega arith)) in
    let d = sym (part_is c.args.counters.now k part (part * k + k - part * k) (omega arith)) in
    record {
      columns = subst (λ xs. HasCounters rule xs (take (part * k + k - part * k) (drop (part * k) c.args.counters.now))) f (subst (HasCounters rule (part_columns c.args.flags.now n part)) d (c.requires.columns part h));
      marked = subst (λ xs. AreMarked rule xs (take (part * k + k - part * k) (drop (part * k) c.args.counters.now))) f (subst (AreMarked rule (part_columns c.args.flags.now n part)) d (c.requires.marked part h));
    }

pub loop-part-preserved : goal.loop-part-preserved
loop-part-preserved c =
    let v = c.loop-part.invariant in
    let part = c.loop-part.part in
    let rule = c.args.rule in
    let n = c.args.flagged in
    let k = c.args.counted in
    let m : ℕ = part * n + n - part * n in
    let l : ℕ = part * k + k - part * k in
    let m_is : m ≡ n = omega arith in
    let l_is : l ≡ k = omega arith in
    let parts = parts_of c.args.count in
    let h : part < parts = omega (arith, c.loop-part-test.true, c.parts-part-end.ensures) in
    let f = c.args.flags.now in let fs = c.loop-part.flags in let f' = c.mask_part.new.flags in
    let d = c.args.counters.now in
    let e = c.mask_part.ensures in
    let f_here = here n part parts m f fs f' h m_is c.requires.flags v.flags_len e.len v.flags_rest in
    let f_other = other n part parts m f fs f' h m_is c.requires.flags v.flags_len e.len v.flags_rest in
    let f_old = old_part n part parts m f fs f' h m_is c.requires.flags v.flags_len e.len v.flags_rest in
    let d_old = part_is d k part l l_is in
    let f_new : List (List ℕ) = put fs f' (part * n) m in
    let this : AreSumMasks rule (part_columns f n part) (part_columns d k part) (part_columns f_new n part) =
    subst (AreSumMasks rule (part_columns f n part) (part_columns d k part)) (sym f_here)
    (subst (λ xs. AreSumMasks rule xs (part_columns d k part) f') f_old (subst (λ xs. AreSumMasks rule (take m (drop (part * n) fs)) xs f') d_old e.bits)) in
    let these : AreZerosFrom (columns_in rule (part_columns f n part) (part_columns d k part)) (part_columns f_new n part) =
    subst (AreZerosFrom (columns_in rule (part_columns f n part) (part_columns d k part))) (sym f_here)
    (subst (λ xs. AreZerosFrom (columns_in rule xs (part_columns d k part)) f') f_old (subst (λ xs. AreZerosFrom (columns_in rule (take m (drop (part * n) fs)) xs) f') d_old e.others)) in
    record {
      flags_len = all_long n part parts m f fs f' h m_is c.requires.flags v.flags_len e.len v.flags_rest;
      bits = λ j less. elim (cases_eq j part) [
        | inl is ↦ subst (λ i. AreSumMasks rule (part_columns f n i) (part_columns d k i) (part_columns f_new n i)) (sym is) this
        | inr apart ↦ subst (AreSumMasks rule (part_columns f n j) (part_columns d k j)) (sym (f_other j apart)) (v.bits j (omega (arith, less, apart)))
      ];
      others = λ j less. elim (cases_eq j part) [
        | inl is ↦ subst (λ i. AreZerosFrom (columns_in rule (part_columns f n i) (part_columns d k i)) (part_columns f_new n i)) (sym is) these
        | inr apart ↦ subst (AreZerosFrom (columns_in rule (part_columns f n j) (part_columns d k j))) (sym (f_other j apart)) (v.others j (omega (arith, less, apart)))
      ];
      flags_rest = rest_more n part parts m f fs f' h m_is c.requires.flags v.flags_len e.len v.flags_rest;
    }
