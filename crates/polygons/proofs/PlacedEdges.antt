-- A short edge at the samples of a part, where flags of one block are flipped.
use Rattle.std.proofs.Common.{◌≡◌, inl, inr, refl, sym, subst, ap, ◌∙◌, arith, ℕ, ◌+◌, ◌*◌, ◌<◌, Bool, List, length, slice_index, pos, ◌+ℤ◌, ◌≤ℤ◌}
use Rattle.std.proofs.lemmas.Bool.{cases_eq}
use Rattle.std.proofs.lemmas.Nat.Bits.{bit_at-lt}
use Rattle.std.specs.Int.{bit_at}
use Rattle.grid.specs.Position.{Position}
use Rattle.grid.specs.Samples.{part_size, parts_of}
use Rattle.polygons.specs.declared.edge.Edge.{Edge}
use Rattle.polygons.specs.declared.rule.Rule.{Rule}
use Rattle.polygons.specs.declared.rule.Rule.TheVariants.{EvenOdd, NonZero}
use Rattle.polygons.specs.declared.short_crossings.ShortCrossings.{ShortCrossings}
use Rattle.polygons.specs.declared.strip.Strip.{Strip}
use Rattle.polygons.specs.Blocks.{down}
use Rattle.polygons.specs.Cells.{flag_of, running_sum, columns_in, modulus, signed, added_by, IsAlike, IsAdded, AreMarked, IsPlotted}
use Rattle.polygons.specs.Crossed.{AreCrossed}
use Rattle.polygons.specs.Rows.{direction, from_column}
use Rattle.polygons.specs.Short.{IsShortEdge}
use Rattle.polygons.specs.Strip.{start_of, strip_sample}
use Rattle.polygons.proofs.Counters.{direction-from}
use Rattle.polygons.proofs.FourFlips.{sums_of_sample, IsSampleFlipped}
use Rattle.polygons.proofs.Plotted.{alike_none, part_small, signed_none, added_as, added_all}
use Rattle.polygons.proofs.Samples.{few_parts, in_part}
use Rattle.polygons.proofs.ShortEdges.{other_row, missed_row}

module _ (rule : Rule) (strip : Strip) (part : ℕ) (e : Edge) (forward : Bool) (f c f' : List (List ℕ)) (cr : ShortCrossings) (short : IsShortEdge e) (runs_down : e.a.y ≤ℤ e.b.y) (there : part < parts_of strip.count)
    (crossings : AreCrossed strip e cr) (long : length f' ≡ length f)
    (flipped : (s : ℕ) → s < 4 → bit_at cr.bits (4 * part + s) ≡ 1 → IsSampleFlipped rule s (slice_index cr.rows (4 * part + s)) (cr.column +ℤ pos (slice_index cr.columns (4 * part + s))) forward f c f')
    (kept : (s : ℕ) → s < 4 → bit_at cr.bits (4 * part + s) ≡ 0 → (j k : ℕ) → flag_of f' s j k ≡ flag_of f s j k) where
  -- a sample that is crossed
  crossed : (s row k : ℕ) → s < 4 → bit_at cr.bits (4 * part + s) ≡ 1 → row < 64 → k < 8 * columns_in rule f c
      → IsAlike (modulus rule) (running_sum rule f' c s row k) (running_sum rule f c s row k +ℤ signed forward (direction e (strip_sample strip (4 * part + s) row k)))
  crossed s row k l one low m =
      let place = 4 * part + s in
      let start : Position = start_of strip place in
      let n = slice_index cr.rows place in
      let at = crossings.crossed place (crossings.held place (few_parts strip.count part s there l) one) one in
      let v = flipped s l one in
      let added = added_all rule s n (n + 1) (added_by e forward start) f c v.once c l
      (λ j i h. signed_none forward _ (other_row e start n j i short runs_down at.through (λ q. omega (arith, q, h))))
      (λ j i h _. signed_none forward _ (other_row e start n j i short runs_down at.through (λ q. omega (arith, q, h))))
      (added_as rule s n (n + 1) _ (added_by e forward start) f c v.once c
      (λ j i h g. (let same : n ≡ j = omega arith in ap (signed forward) (sym (direction-from e (down start n) _ i at.through at.first)) ∙ ap (λ r. added_by e forward start r i) same)) v.added) in
      subst (λ z. IsAlike (modulus rule) z (running_sum rule f c s row k +ℤ signed forward (direction e (strip_sample strip place row k)))) (sym (sums_of_sample rule v.once c f' s v.same row k)) (added.here row k (omega arith) low m)

  -- and one that is not
  missed : (s row k : ℕ) → s < part_size strip.count → s < 4 → bit_at cr.bits (4 * part + s) ≡ 0 → row < 64
      → IsAlike (modulus rule) (running_sum rule f' c s row k) (running_sum rule f c s row k +ℤ signed forward (direction e (strip_sample strip (4 * part + s) row k)))
  missed s row k h l zero low =
      alike_none (modulus rule) _ _ _ (sums_of_sample rule f c f' s (kept s l zero) row k)
      (signed_none forward _ (missed_row e (start_of strip (4 * part + s)) row k runs_down (crossings.missed (4 * part + s) (in_part strip.count part s there h) zero) low))

  pub placed : IsPlotted rule strip part (λ p. signed forward (direction e p)) f c f' c
  placed = record {
    flags_len = long;
    counters_len = refl;
    totals = λ s row k h low m. let few = part_small strip.count in let l : s < 4 = omega (arith, h, few) in elim (cases_eq (bit_at cr.bits (4 * part + s)) 1) [
      | inl one ↦ crossed s row k l one low m
      | inr other ↦ missed s row k h l (let small = bit_at-lt cr.bits (4 * part + s) in omega (arith, small, other)) low
    ];
    marked = by_rule rule refl;
  }
    where
      by_rule : (q : Rule) → q ≡ rule → AreMarked q f c → AreMarked q f' c
      by_rule EvenOdd is h = h
      by_rule NonZero is h = λ s j k x y z d u. elim (cases_eq (bit_at cr.bits (4 * part + s)) 1) [
        | inl one ↦
            let v = flipped s x one in
            let n = slice_index cr.rows (4 * part + s) in
            let marked = (subst (λ r. IsAdded r s n (n + 1) (λ _ i. signed forward (from_column (cr.column +ℤ pos (slice_index cr.columns (4 * part + s))) (pos 1) i)) f c v.once c) (sym is) v.added).marked h in
            v.same j (k + 16 * length c) ∙ marked s j k x y z (sym (v.same j k) ∙ d) (sym (v.same j (k + 8 * length c)) ∙ u)
        | inr other ↦
            let zero : bit_at cr.bits (4 * part + s) ≡ 0 = (let small = bit_at-lt cr.bits (4 * part + s) in omega (arith, small, other)) in
            let same = kept s x zero in
            same j (k + 16 * length c) ∙ h s j k x y z (sym (same j k) ∙ d) (sym (same j (k + 8 * length c)) ∙ u)
      ]
