use Rattle.std.proofs.Common.{◌≡◌, inl, inr, refl, sym, subst, ap, ◌∙◌, arith, ℕ, ◌+◌, ◌*◌, ◌/◌, ◌%◌, ◌^◌, ◌<◌, ◌≤◌, List, [], length, slice_index}
use Rattle.std.proofs.lemmas.Bool.{cases_eq, cases_lt}
use Rattle.std.proofs.lemmas.List.{get_or_past}
use Rattle.grid.specs.Samples.{parts_of}
use Rattle.polygons.specs.ManyRows.{row_of}
use Rattle.polygons.specs.declared.rule.Rule.{Rule}
use Rattle.polygons.specs.declared.rule.Rule.TheVariants.{EvenOdd, NonZero}
use Rattle.polygons.specs.Blocks.{IsBlockMask}
use Rattle.polygons.specs.Polygon.{polygon_edges, corner_count}
use Rattle.polygons.specs.Rings.{rings_from}
use Rattle.polygons.specs.Strip.{strip_sample}
use Rattle.polygons.specs.Cells.{flags_by, columns_in, part_columns, mask_at, HasCounters}
use Rattle.polygons.proofs.Masks.{marked_zeros, masks_of_part}
use Rattle.polygons.proofs.Parts.{part_room, part_long, row_in_part, zero_part}
use Rattle.polygons.proofs.Plotted.{same_columns}
use Rattle.polygons.proofs.RingParts.{few_corners}
use Rattle.polygons.proofs.Samples.{part_of_sample}
use Rattle.polygons.proofs.strip_masks.cover_parts.Goals as goal
use Rattle.polygons.proofs.strip_masks.cover_parts.Goals.{in-EvenOdd, in-NonZero}

pub mask_parts-requires-clause-marked : goal.mask_parts-requires-clause-marked
mask_parts-requires-clause-marked c part h =
    let flags : c.flags-1.given.0 ≡ c.plot_parts.new.cells.flags.now = c.flags-1.given.1.1 (sym c.plot_parts.ensures.same_flags) in
    let counters : c.counters-1.given.0 ≡ c.plot_parts.new.cells.counters.now = c.counters-1.given.1.1 (sym c.plot_parts.ensures.same_counters) in
    let p = c.plot_parts.ensures.plotted.plotted part h in
    rw (flags, counters) (p.marked (marked_zeros c.args.rule _ _ (zero_part c.args.flags.now _ part c.requires.flags)))

-- how many columns of blocks a part has
blocks_of : (rule : Rule) (f c : List (List ℕ)) (columns n k : ℕ) → length f ≡ n → n ≡ flags_by rule * columns → (rule ≡ NonZero → length c ≡ k) → (rule ≡ NonZero → k ≡ columns) → columns_in rule f c ≡ columns
blocks_of EvenOdd f c columns n k long is counted all = omega arith
blocks_of NonZero f c columns n k long is counted all = counted refl ∙ all refl

narrow : (rule : Rule) (columns column n : ℕ) → n ≡ flags_by rule * columns → column < columns → column < n
narrow EvenOdd columns column n is h = omega arith
narrow NonZero columns column n is h = omega arith

no : EvenOdd ≡ NonZero → ⊥
no e = cc

-- the counters of all parts
counters_room : (parts columns flags counters : ℕ) → flags ≡ parts * (3 * columns) → flags ≡ 3 * counters → parts * columns ≤ counters
counters_room parts columns flags counters h l = let e : parts * (3 * columns) ≡ 3 * (parts * columns) = grind arith in omega (arith, e, h, l)

blocks_in : (rule : Rule) (f c : List (List ℕ)) (parts part columns n k : ℕ) → part < parts → n ≡ flags_by rule * columns → (rule ≡ NonZero → k ≡ columns) → length f ≡ parts * (flags_by rule * columns) → HasCounters rule f c
    → columns_in rule (part_columns f n part) (part_columns c k part) ≡ columns
blocks_in EvenOdd f c parts part columns n k h is all long counted =
    let same = ap (λ m. parts * m) is in
    blocks_of EvenOdd (part_columns f n part) (part_columns c k part) columns n k (part_long f n part parts h (omega (arith, long, same))) is (λ e. absurd (no e)) all
blocks_in NonZero f c parts part columns n k h is all long counted =
    let same = ap (λ m. parts * m) is in
    let every = all refl in
    let room = counters_room parts columns (length f) (length c) long counted in
    let same_counters = ap (λ m. parts * m) every in
    blocks_of NonZero (part_columns f n part) (part_columns c k part) columns n k (part_long f n part parts h (omega (arith, long, same))) is (λ e. part_long c k part parts h (omega (arith, room, same_counters))) all

pub returns-clause-masks : goal.returns-clause-masks
returns-clause-masks c s row column h l m =
    let flags : c.flags-1.given.0 ≡ c.plot_parts.new.cells.flags.now = c.flags-1.given.1.1 (sym c.plot_parts.ensures.same_flags) in
    let counters : c.counters-1.given.0 ≡ c.plot_parts.new.cells.counters.now = c.counters-1.given.1.1 (sym c.plot_parts.ensures.same_counters) in
    let rule = c.args.rule in
    let strip = c.args.strip.now in
    let columns = c.args.columns in
    let n : ℕ = c.flags.result * columns in
    let n_is : n ≡ flags_by rule * columns = ap (λ k. k * columns) c.flags.ensures.value in
    let shape = c.args.rings.now in
    let rings = rings_from shape.corners.now shape.start shape.ends.now in
    let few : corner_count rings < 2 ^ 32 = omega (arith, few_corners shape.corners.now shape.start shape.ends.now shape.rising, shape.few) in
    let part : ℕ = s / 4 in
    let i : ℕ = s % 4 in
    let place = part_of_sample strip.count s h in
    let index : 4 * part + i ≡ s = omega arith in
    let small : i < 4 = omega arith in
    let plotted = c.plot_parts.ensures.plotted in
    let blocks : columns_in rule (part_columns c.args.flags.now n part) (part_columns c.args.counters.now c.match-rule.counted part) ≡ columns = blocks_in rule c.args.flags.now c.args.counters.now (parts_of strip.count) part columns n c.match-rule.counted place.0 n_is all_counted c.requires.parts c.requires.counted in
    let mask =
    masks_of_part rule rings strip part s i columns row column _ _ _ _ (part_columns c.mask_parts.new.flags n part) few blocks index place.1 small l m (zero_part c.args.flags.now n part c.requires.flags)
    (plotted.plotted part place.0) (rw (flags, counters) at (c.mask_parts.ensures.bits part place.0)) in
    let there = subst (λ (words : List ℕ). IsBlockMask rule (polygon_edges rings) (strip_sample strip s (8 * row) (8 * column)) (slice_index words (4 * row + i))) (row_in_part c.mask_parts.new.flags n part column (narrow rule columns column n n_is m)) mask in
    subst (λ k. IsBlockMask rule (polygon_edges rings) (strip_sample strip s (8 * row) (8 * column)) (mask_at c.mask_parts.new.flags k column row s)) n_is there
  where
    all_counted : c.args.rule ≡ NonZero → c.match-rule.counted ≡ c.args.columns
    all_counted e = elim c.match-rule.branch [ in-EvenOdd w ↦ absurd (no (sym w.in-EvenOdd.is ∙ e)) | in-NonZero w ↦ w.counted-is ]

pub returns-clause-others : goal.returns-clause-others
returns-clause-others c part column i h l =
    let flags : c.flags-1.given.0 ≡ c.plot_parts.new.cells.flags.now = c.flags-1.given.1.1 (sym c.plot_parts.ensures.same_flags) in
    let counters : c.counters-1.given.0 ≡ c.plot_parts.new.cells.counters.now = c.counters-1.given.1.1 (sym c.plot_parts.ensures.same_counters) in
    let rule = c.args.rule in
    let columns = c.args.columns in
    let parts = parts_of c.args.strip.now.count in
    let n : ℕ = c.flags.result * columns in
    let n_is : n ≡ flags_by rule * columns = ap (λ k. k * columns) c.flags.ensures.value in
    let long : length c.mask_parts.new.flags ≡ parts * n = c.mask_parts.ensures.len ∙ ap (λ (xs : List (List ℕ)). length xs) flags ∙ c.plot_parts.ensures.plotted.same.flags_len ∙ c.requires.parts ∙ ap (λ k. parts * k) (sym n_is) in
    let zero : slice_index (row_of c.mask_parts.new.flags (part * n + column)) i ≡ 0 = elim (cases_lt part parts) [
      | inl less ↦
          let p = c.plot_parts.ensures.plotted.plotted part less in
          let blocks = same_columns rule _ _ _ _ p.flags_len p.counters_len ∙ blocks_in rule c.args.flags.now c.args.counters.now parts part columns n c.match-rule.counted less n_is all_counted c.requires.parts c.requires.counted in
          let others = rw (flags, counters) at (c.mask_parts.ensures.others part less) in
          ap (λ (ws : List ℕ). slice_index ws i) (sym (row_in_part c.mask_parts.new.flags n part column (omega (arith, l, n_is)))) ∙ others column i (omega (arith, h, blocks))
      | inr past ↦
          let room = parts_behind parts part n past in
          ap (λ (ws : List ℕ). slice_index ws i) (get_or_past c.mask_parts.new.flags (part * n + column) [] (omega (arith, room, long)))
    ] in
    subst (λ k. slice_index (row_of c.mask_parts.new.flags (part * k + column)) i ≡ 0) n_is zero
  where
    all_counted : c.args.rule ≡ NonZero → c.match-rule.counted ≡ c.args.columns
    all_counted e = elim c.match-rule.branch [ in-EvenOdd w ↦ absurd (no (sym w.in-EvenOdd.is ∙ e)) | in-NonZero w ↦ w.counted-is ]

    parts_behind : (parts part n : ℕ) → parts ≤ part → parts * n ≤ part * n
    parts_behind parts part n h = elim (cases_eq part parts) [
      | inl e ↦ let same = ap (λ k. k * n) e in omega (arith, same)
      | inr other ↦ let room = part_room parts part n (omega (arith, h, other)) in omega (arith, room)
    ]
