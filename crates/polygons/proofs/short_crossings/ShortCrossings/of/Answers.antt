use Rattle.std.proofs.Common.{◌≡◌, ◌∙◌, refl, sym, subst, ap, inl, inr, arith, ◌⊎◌, Bool, true, false, ℕ, ◌+◌, ◌-◌, ◌/◌, ◌%◌, ◌^◌, ◌<◌, ◌≤◌, slice_index, ℤ, pos, ◌+ℤ◌, ◌-ℤ◌, ◌*ℤ◌, ◌<ℤ◌, ◌≤ℤ◌, nat_abs, w32, to_z, of_z}
use Rattle.std.proofs.lemmas.Int.{ints}
use Rattle.std.proofs.lemmas.Bool.{cases_lt}
use Rattle.std.proofs.lemmas.Nat.Bits.{bit_at-zero}
use Rattle.std.specs.Int.{bit_at, int_min}
use Rattle.grid.specs.Bounds.{IsWithin}
use Rattle.grid.specs.Position.{Position, IsInBand}
use Rattle.grid.specs.Samples.{count_of}
use Rattle.polygons.specs.declared.edge.Edge.{Edge}
use Rattle.polygons.specs.declared.short_crossings.ShortCrossings.{ShortCrossings}
use Rattle.polygons.specs.declared.strip.Strip.{Strip}
use Rattle.polygons.specs.Blocks.{down}
use Rattle.polygons.specs.Screen.{IsPixelInBand}
use Rattle.polygons.specs.Short.{IsShortEdge}
use Rattle.polygons.specs.Strip.{start_of}
use Rattle.polygons.specs.Crossed.{AreCrossed, IsCrossedFrom, IsMissed}
use Rattle.polygons.proofs.Samples.{few_samples, offset_y}
use Rattle.polygons.proofs.ShortEdges.{not_negative}
use Rattle.polygons.proofs.ShortRows.{IsDepth, IsPassing, passing, row_of, row_small, below_end, IsAcross, across_right, across_left, column_found}
use Rattle.polygons.proofs.short_crossings.ShortCrossings.of.Goals as goal

abbrev kept : ℤ → ℤ
kept z = to_z w32 (of_z w32 z)

-- the depth as the code forms it
abbrev formed : ℤ → ℤ → ℤ
formed y row = kept (kept (kept y +ℤ pos 255) -ℤ kept (pos 256 *ℤ kept row))

formed_is : (y row ay : ℤ) → IsInBand y → IsPixelInBand row → y ≡ ay → formed y row ≡ (ay +ℤ pos 255) -ℤ pos 256 *ℤ row
formed_is y row ay h k e = omega (arith, ints)

depth_of : (e : Edge) (start : Position) (y row : ℤ) (below d : ℕ) → IsInBand y → IsPixelInBand row → y ≡ e.a.y → start.y +ℤ pos below ≡ pos 256 *ℤ row +ℤ pos 256 → pos 0 ≤ℤ formed y row → d ≡ below + nat_abs (formed y row) → IsDepth e start d
depth_of e start y row below d h k is end low sum =
    let f = formed_is y row e.a.y h k is in
    let n = not_negative (formed y row) low in
    omega (arith, ints)

module _ (e : Edge) (start : Position) (y row : ℤ) (o : ℕ) (short : IsShortEdge e) (h : IsInBand y) (k : IsPixelInBand row) (is : y ≡ e.a.y) (place : start.y ≡ pos 256 *ℤ row +ℤ pos o) (small : o < 256) where
  too_high : formed y row <ℤ pos 0 → IsMissed e start
  too_high less j few through =
      let f = formed_is y row e.a.y h k is in
      let b = through.bottom in
      let s = short.down in
      absurd (omega (arith, ints))

  too_low : pos 16639 ≤ℤ formed y row → IsMissed e start
  too_low more j few through =
      let f = formed_is y row e.a.y h k is in
      let t = through.top in
      absurd (omega (arith, ints))

no_bits : (strip : Strip) (e : Edge) (c : ShortCrossings) → c.bits ≡ 0 → ((s : ℕ) → s < count_of strip.count → IsMissed e (start_of strip s)) → AreCrossed strip e c
no_bits strip e c none missed = record {
  missed = λ s l zero. missed s l;
  held = λ s l one. let zero = unset s in absurd (omega arith);
  crossed = λ s l one. let zero = unset s in absurd (omega arith);
}
  where
    unset : (s : ℕ) → bit_at c.bits s ≡ 0
    unset s = ap (λ n. bit_at n s) none ∙ bit_at-zero s

missed_of : (e : Edge) (start : Position) (d h rest : ℕ) → IsShortEdge e → IsDepth e start d → pos h ≡ e.b.y -ℤ e.a.y → rest ≡ d % 256 → ((256 ≤ d) × (d < 16640) × (256 ≤ rest + h) → ⊥) → IsMissed e start
missed_of e start d h rest short depth height is none row few through =
    let p = passing e start d h row short depth height few through in
    let c = p.2 in
    none (p.0, p.1, omega (arith, is))

same_passing : (d h rest : ℕ) → rest ≡ d % 256 → (256 ≤ d) × (d < 16640) × (256 ≤ rest + h) → IsPassing d h
same_passing d h rest is p = let c = p.2 in (p.0, p.1, omega (arith, is))

-- where the column before the first one of a sample lies
place_of : (x column left pixel : ℤ) (right rest d : ℕ) → IsPixelInBand pixel → IsInBand left → IsWithin (2 ^ 17) column → x +ℤ pos right ≡ pos 256 *ℤ pixel +ℤ pos 256 → pos 256 *ℤ column +ℤ pos rest ≡ (kept left +ℤ pos 255) -ℤ pos 256 *ℤ kept pixel → d ≡ right + rest
    → x +ℤ pos 256 *ℤ (kept (kept column -ℤ pos 1) +ℤ pos (d / 256)) ≡ left +ℤ pos (255 - d % 256)
place_of x column left pixel right rest d h k size end sum is =
    let l : kept left ≡ left = omega (arith, ints) in
    let p : kept pixel ≡ pixel = omega (arith, ints) in
    let c : kept (kept column -ℤ pos 1) ≡ column -ℤ pos 1 = omega (arith, ints) in
    omega (arith, ints)

either : (b : Bool) → (b ≡ true) ⊎ (b ≡ false)
either true = inl refl
either false = inr refl

pub returns-then-depth-lt0 : goal.returns-then-depth-lt0
returns-then-depth-lt0 c =
    let strip = c.args.starts.now.strip in
    no_bits strip c.args.edge.now c.none.result c.none.ensures (λ s l.
    too_high c.args.edge.now (start_of strip s) c.y.result strip.row _ c.requires.short c.y.ensures.in_band strip.below c.y.ensures.value refl (offset_y strip.count s) (omega (arith, ints, c.if-depth-lt0.true)))

pub returns-then-depth-ge16639 : goal.returns-then-depth-ge16639
returns-then-depth-ge16639 c =
    let strip = c.args.starts.now.strip in
    no_bits strip c.args.edge.now c.none-then-depth-ge16639.result c.none-then-depth-ge16639.ensures (λ s l.
    too_low c.args.edge.now (start_of strip s) c.y.result strip.row _ c.requires.short c.y.ensures.in_band strip.below c.y.ensures.value refl (offset_y strip.count s) (omega (arith, ints, c.if-depth-ge16639.true)))

pub returns-then-bits-eq0 : goal.returns-then-bits-eq0
returns-then-bits-eq0 c =
    let starts = c.args.starts.now in
    let strip = starts.strip in
    let e = c.args.edge.now in
    no_bits strip e c.none-then-bits-eq0.result c.none-then-bits-eq0.ensures (λ s l.
    let few : s < 16 = omega (arith, l, few_samples strip.count) in
    let depth = depth_of e (start_of strip s) c.y.result strip.row (slice_index starts.below s) (slice_index c.moved-down.result s) c.y.ensures.in_band strip.below c.y.ensures.value (starts.downwards s l) (omega (arith, ints, c.if-depth-lt0.false)) (c.moved-down.ensures.each s few) in
    missed_of e (start_of strip s) (slice_index c.moved-down.result s) c.height-height.result (slice_index c.rests.result s) c.requires.short depth c.height-height.ensures.value (c.rests.ensures.each s few)
    (λ p. let one = (c.passing-bits.ensures s few).1 p in let zero = ap (λ n. bit_at n s) c.if-bits-eq0.true ∙ bit_at-zero s in absurd (omega arith)))

across_of : (e : Edge) (p : Position) (column : ℤ) (r l h w rest : ℕ) (b : Bool) → (p.x +ℤ pos 256 *ℤ column) ≡ int_min e.a.x e.b.x +ℤ pos r → r < 256 → pos h ≡ e.b.y -ℤ e.a.y → p.y -ℤ e.a.y ≡ pos (255 - rest) → rest < 256 → 256 ≤ rest + h
    → (b ≡ true → e.a.x ≤ℤ e.b.x) → (b ≡ false → e.b.x <ℤ e.a.x) → (e.a.x ≤ℤ e.b.x → pos w ≡ e.b.x -ℤ e.a.x) → (e.b.x <ℤ e.a.x → pos w ≡ e.a.x -ℤ e.b.x) → (b ≡ true → l ≡ 255 - rest) → (b ≡ false → l ≡ rest + h - 255)
    → IsAcross e p column r l h w
across_of e p column r l h w rest b place few height y small over on_right on_left to_right to_left ahead behind = elim (either b) [
  | inl right ↦ across_right e p column r l h w (on_right right) place few (to_right (on_right right)) height (y ∙ ap pos (sym (ahead right)))
  | inr left ↦ let is = behind left in across_left e p column r l h w (on_left left) place few (to_left (on_left left)) height (omega (arith, ints))
]

rest_small : (rest d : ℕ) → rest ≡ d % 256 → rest < 256
rest_small rest d is = omega arith

number_small : (number right rest d : ℕ) → right ≤ 32768 → rest < 256 → d ≡ right + rest → number ≡ d / 256 → number < 256
number_small number right rest d h k sum is = omega arith

length_small : (l rest h : ℕ) (b : Bool) → rest < 256 → h ≤ 256 → (b ≡ true → l ≡ 255 - rest) → (b ≡ false → l ≡ rest + h - 255) → l ≤ 256
length_small l rest h b small k ahead behind = elim (either b) [
  | inl on_right ↦ let is = ahead on_right in omega arith
  | inr on_left ↦ let is = behind on_left in omega arith
]

at_place : (x before left least : ℤ) (number rest d : ℕ) → left ≡ least → number ≡ d / 256 → rest ≡ d % 256 → x +ℤ pos 256 *ℤ (before +ℤ pos (d / 256)) ≡ left +ℤ pos (255 - d % 256) → x +ℤ pos 256 *ℤ (before +ℤ pos number) ≡ least +ℤ pos (255 - rest)
at_place x before left least number rest d l n r is = omega (arith, ints)

pub returns : goal.returns
returns c = record {
  missed = λ s l zero.
      let few : s < 16 = omega (arith, l, few_samples c.args.starts.now.strip.count) in
      let depth = depth_of c.args.edge.now (start_of c.args.starts.now.strip s) c.y.result c.args.starts.now.strip.row (slice_index c.args.starts.now.below s) (slice_index c.moved-down.result s) c.y.ensures.in_band c.args.starts.now.strip.below c.y.ensures.value (c.args.starts.now.downwards s l) (omega (arith, ints, c.if-depth-lt0.false)) (c.moved-down.ensures.each s few) in
      missed_of c.args.edge.now (start_of c.args.starts.now.strip s) (slice_index c.moved-down.result s) c.height-height.result (slice_index c.rests.result s) c.requires.short depth c.height-height.ensures.value (c.rests.ensures.each s few)
      (λ p. let one = (c.passing-bits.ensures s few).1 p in absurd (omega (arith, zero, one)));
  held = λ s l one. elim (cases_lt s (count_of c.args.starts.now.strip.count)) [
    | inl m ↦ m
    | inr m ↦
        let p = (c.passing-bits.ensures s l).0 one in
        let far = c.args.starts.now.absent s m l in
        let sum = c.moved-down.ensures.each s l in
        let most = p.1 in
        absurd (omega arith)
  ];
  crossed = λ s l one.
      let few : s < 16 = omega (arith, l, few_samples c.args.starts.now.strip.count) in
      let depth = depth_of c.args.edge.now (start_of c.args.starts.now.strip s) c.y.result c.args.starts.now.strip.row (slice_index c.args.starts.now.below s) (slice_index c.moved-down.result s) c.y.ensures.in_band c.args.starts.now.strip.below c.y.ensures.value (c.args.starts.now.downwards s l) (omega (arith, ints, c.if-depth-lt0.false)) (c.moved-down.ensures.each s few) in
      let p = same_passing (slice_index c.moved-down.result s) c.height-height.result (slice_index c.rests.result s) (c.rests.ensures.each s few) ((c.passing-bits.ensures s few).0 one) in
      let through = row_of c.args.edge.now (start_of c.args.starts.now.strip s) (slice_index c.moved-down.result s) c.height-height.result depth c.height-height.ensures.value p in
      let low = p.0 in
      let number : slice_index c.pixels.result s < 256 = number_small _ _ _ _ (c.args.starts.now.right_room s few) c.whole_and_rest-column.ensures.small (c.moved-right.ensures.each s few) (c.pixels.ensures.each s few) in
      let long : slice_index c.ahead_or_behind-lengths.result s ≤ 256 = length_small _ (slice_index c.rests-2.result s) c.height-height.result c.runs_right.result (rest_small _ _ (c.rests-2.ensures.each s few)) c.height-height.ensures.small
      (λ on_right. c.ahead_or_behind-lengths.ensures.ahead on_right s few (rest_small _ _ (c.rests-2.ensures.each s few)))
      (λ on_left. c.ahead_or_behind-lengths.ensures.behind on_left s few (rest_small _ _ (c.rests-2.ensures.each s few)) (let over = p.2 in let is = c.rests-2.ensures.each s few in omega (arith, over, is))) in
      let some : 0 < slice_index c.pixels-2.result s = let n = c.pixels-2.ensures.each s few in omega arith in
      let row : slice_index c.moved-down.result s / 256 - 1 ≡ slice_index c.lessened.result s = sym (c.lessened.ensures.each s few some ∙ ap (λ n. n - 1) (c.pixels-2.ensures.each s few)) in
      subst (λ (n : ℕ). IsCrossedFrom c.args.edge.now (start_of c.args.starts.now.strip s) n ((kept (kept c.whole_and_rest-column.result.0 -ℤ pos 1)) +ℤ pos (slice_index c.advanced-columns.result s))) row (record {
        within = row_small (slice_index c.moved-down.result s) c.height-height.result p;
        through = through;
        first = column_found c.args.edge.now (down (start_of c.args.starts.now.strip s) (slice_index c.moved-down.result s / 256 - 1)) (kept (kept c.whole_and_rest-column.result.0 -ℤ pos 1)) (255 - slice_index c.rests-3.result s) (slice_index c.ahead_or_behind-lengths.result s) c.height-height.result c.width.result (slice_index c.pixels.result s) (slice_index c.advanced-columns.result s)
            c.requires.short through
            (across_of c.args.edge.now (down (start_of c.args.starts.now.strip s) (slice_index c.moved-down.result s / 256 - 1)) ((kept (kept c.whole_and_rest-column.result.0 -ℤ pos 1)) +ℤ pos (slice_index c.pixels.result s)) (255 - slice_index c.rests-3.result s) (slice_index c.ahead_or_behind-lengths.result s) c.height-height.result c.width.result (slice_index c.rests-2.result s) c.runs_right.result
            (at_place (start_of c.args.starts.now.strip s).x (kept (kept c.whole_and_rest-column.result.0 -ℤ pos 1)) c.left.result _ _ _ (slice_index c.moved-right.result s) c.left.ensures.value (c.pixels.ensures.each s few) (c.rests-3.ensures.each s few)
            (place_of (start_of c.args.starts.now.strip s).x c.whole_and_rest-column.result.0 c.left.result c.args.starts.now.strip.column (slice_index c.args.starts.now.right s) c.whole_and_rest-column.result.1 (slice_index c.moved-right.result s) c.args.starts.now.strip.across c.left.ensures.in_band c.whole_and_rest-column.ensures.size (c.args.starts.now.rightwards s l) c.whole_and_rest-column.ensures.sum (c.moved-right.ensures.each s few)))
            (omega arith) c.height-height.ensures.value
            (below_end c.args.edge.now (start_of c.args.starts.now.strip s) (slice_index c.moved-down.result s) depth low ∙ ap (λ n. pos (255 - n)) (sym (c.rests-2.ensures.each s few)))
            (rest_small _ _ (c.rests-2.ensures.each s few)) (let over = p.2 in let is = c.rests-2.ensures.each s few in omega (arith, over, is))
            c.runs_right.ensures.yes c.runs_right.ensures.no c.width.ensures.right c.width.ensures.left
            (λ on_right. c.ahead_or_behind-lengths.ensures.ahead on_right s few (rest_small _ _ (c.rests-2.ensures.each s few)))
            (λ on_left. c.ahead_or_behind-lengths.ensures.behind on_left s few (rest_small _ _ (c.rests-2.ensures.each s few)) (let over = p.2 in let is = c.rests-2.ensures.each s few in omega (arith, over, is))))
            (λ less. c.advanced-columns.ensures.more s few number (rest_small _ _ (c.rests-3.ensures.each s few)) long less)
            (λ more. c.advanced-columns.ensures.same s few number (rest_small _ _ (c.rests-3.ensures.each s few)) long more);
      });
}
