use Rattle.std.proofs.Common.{◌≡◌, inl, inr, refl, sym, subst, ◌∙◌, ap, arith, ℕ, ◌+◌, ◌<◌, ◌≤◌, ℤ, pos, ◌+ℤ◌, ◌*ℤ◌, ◌<ℤ◌, w32, to_z, of_z, List, length, length-set, set, slice_index_or}
use Rattle.std.proofs.lemmas.Bool.{cases_eq}
use Rattle.std.proofs.lemmas.Int.{ints}
use Rattle.std.proofs.lemmas.Simd.{get_or-replicate}
use Rattle.std.proofs.lemmas.List.{get_or-set_same, get_or-set_other}
use Rattle.grid.specs.Position.{Position, IsInBand}
use Rattle.grid.proofs.Bounds.{passed}
use Rattle.polygons.specs.Screen.{IsPixelInBand}
use Rattle.polygons.specs.Strip.{start_of}
use Rattle.polygons.proofs.Plotted.{before_of}
use Rattle.polygons.proofs.Samples.{few_samples, offset_x, offset_y}
use Rattle.polygons.proofs.starts.Starts.new.Goals as goal

-- an element more
one_more : {X : Type 0} (R : ℕ → X → Type 0) (xs : List X) (n : ℕ) (x d : X) → n < length xs → ((i : ℕ) → i < n → R i (slice_index_or xs i d)) → R n x → (i : ℕ) → i < n + 1 → R i (slice_index_or (set xs n x) i d)
one_more {X} R xs n x d room before here i h = elim (cases_eq i n) [
  | inl e ↦ subst (λ (j : ℕ). R j (slice_index_or (set xs n x) j d)) (sym e) (subst (R n) (sym (get_or-set_same xs n x d room)) here)
  | inr other ↦ subst (R i) (sym (get_or-set_other xs n i x d other)) (before i (before_of i n h other))
]

-- an element that is replaced
replaced : {X : Type 0} (P : X → Type 0) (xs : List X) (n : ℕ) (x d : X) → n < length xs → P x → (i : ℕ) → P (slice_index_or xs i d) → P (slice_index_or (set xs n x) i d)
replaced {X} P xs n x d room new i old = elim (cases_eq i n) [
  | inl e ↦ subst (λ (j : ℕ). P (slice_index_or (set xs n x) j d)) (sym e) (subst P (sym (get_or-set_same xs n x d room)) new)
  | inr other ↦ subst P (sym (get_or-set_other xs n i x d other)) old
]

kept : (y : ℤ) → IsInBand y → IsInBand (to_z w32 (of_z w32 y))
kept y h = record { low = omega (arith, ints); high = omega (arith, ints) }

-- how far a pixel ends behind a place, by what was read
moved : (z start pixel : ℤ) (n : ℕ) → IsPixelInBand pixel → z ≡ start → IsInBand z → to_z w32 (of_z w32 z) +ℤ pos n ≡ pos 256 *ℤ to_z w32 (of_z w32 pixel) +ℤ pos 256 → start +ℤ pos n ≡ pos 256 *ℤ pixel +ℤ pos 256
moved z start pixel n p is h sum = omega (arith, ints)

within : (z : ℤ) (o : ℕ) (pixel : ℤ) → IsPixelInBand pixel → o < 256 → z ≡ pos 256 *ℤ pixel +ℤ pos o → IsInBand z → to_z w32 (of_z w32 z) <ℤ (pos 256 *ℤ to_z w32 (of_z w32 pixel) +ℤ pos 256)
within z o pixel p small is h = omega (arith, ints)

pub to_end-requires-clause-high : goal.to_end-requires-clause-high
to_end-requires-clause-high c =
    let strip = c.args.strip.now in
    within _ _ strip.row strip.below (offset_y strip.count c.loop-s.s) (c.y-in-loop-s.ensures.value ∙ ap (λ (p : Position). p.y) c.start-start.ensures) c.y-in-loop-s.ensures.in_band

pub to_end-requires-in-loop-s-clause-high : goal.to_end-requires-in-loop-s-clause-high
to_end-requires-in-loop-s-clause-high c =
    let strip = c.args.strip.now in
    within _ _ strip.column strip.across (offset_x strip.count c.loop-s.s) (c.x.ensures.value ∙ ap (λ (p : Position). p.x) c.start-start.ensures) c.x.ensures.in_band

pub loop-s-preserved : goal.loop-s-preserved
loop-s-preserved c =
    let v = c.loop-s.invariant in
    let s = c.loop-s.s in
    let strip = c.args.strip.now in
    let small : s < 16 = omega (arith, c.loop-s-test.true, c.count-s-end.ensures, few_samples strip.count) in
    let y = c.y.ensures in
    let height = passed c.y.result _ y.in_band (y.value ∙ ap (λ (p : Position). p.y) c.start-start.ensures) in
    let below = c.to_end.ensures in
    let right = c.to_end-in-loop-s.ensures in
    record {
      below_len = length-set c.loop-s.below s c.to_end.result ∙ v.below_len;
      right_len = length-set c.loop-s.right s c.to_end-in-loop-s.result ∙ v.right_len;
      downwards = one_more (λ i (n : ℕ). (start_of strip i).y +ℤ pos n ≡ pos 256 *ℤ strip.row +ℤ pos 256) c.loop-s.below s _ 0 (omega (arith, small, v.below_len)) v.downwards
          (moved _ _ _ _ strip.below (c.y-in-loop-s.ensures.value ∙ ap (λ (p : Position). p.y) c.start-start.ensures) c.y-in-loop-s.ensures.in_band below.value);
      rightwards = one_more (λ i (n : ℕ). (start_of strip i).x +ℤ pos n ≡ pos 256 *ℤ strip.column +ℤ pos 256) c.loop-s.right s _ 0 (omega (arith, small, v.right_len)) v.rightwards
          (moved _ _ _ _ strip.across (c.x.ensures.value ∙ ap (λ (p : Position). p.x) c.start-start.ensures) c.x.ensures.in_band right.value);
      absent = λ i h l. get_or-set_other c.loop-s.below s i c.to_end.result 0 (λ e. omega (arith, e, h)) ∙ v.absent i (omega (arith, h)) l;
      below_room = λ i h. replaced (λ n. n ≤ 32768) c.loop-s.below s _ 0 (omega (arith, small, v.below_len)) (let b = below.small in omega (arith, b)) i (v.below_room i h);
      right_room = λ i h. replaced (λ n. n ≤ 32768) c.loop-s.right s _ 0 (omega (arith, small, v.right_len)) (let b = right.small in omega (arith, b)) i (v.right_room i h);
      points_len = length-set c.loop-s.points s c.start-start.result ∙ v.points_len;
      heights_len = length-set c.loop-s.heights s (to_z w32 (of_z w32 c.y.result)) ∙ v.heights_len;
      held = one_more (λ i (p : Position). p ≡ start_of strip i) c.loop-s.points s _ _ (omega (arith, small, v.points_len)) v.held c.start-start.ensures;
      level = one_more (λ i z. z ≡ (start_of strip i).y) c.loop-s.heights s _ _ (omega (arith, small, v.heights_len)) v.level height;
      in_band = λ i h. replaced IsInBand c.loop-s.heights s _ _ (omega (arith, small, v.heights_len)) (kept _ y.in_band) i (v.in_band i h);
    }

pub bounds-below-s : goal.bounds-below-s
bounds-below-s c = omega (arith, c.loop-s-test.true, c.count-s-end.ensures, few_samples c.args.strip.now.count)

pub bounds-right-s : goal.bounds-right-s
bounds-right-s c = omega (arith, c.loop-s-test.true, c.count-s-end.ensures, few_samples c.args.strip.now.count)

pub loop-s-init : goal.loop-s-init
loop-s-init c = record {
  points_len = refl;
  heights_len = refl;
  held = λ s h. absurd (omega arith);
  level = λ s h. absurd (omega arith);
  below_len = refl;
  right_len = refl;
  downwards = λ s h. absurd (omega arith);
  rightwards = λ s h. absurd (omega arith);
  absent = λ s h l. get_or-replicate {A = ℕ} 16 s 32768 0 l;
  below_room = λ s l. rw (get_or-replicate {A = ℕ} 16 s 32768 0 l) (omega arith);
  right_room = λ s l. rw (get_or-replicate {A = ℕ} 16 s 0 0 l) (omega arith);
  in_band = λ s l. rw (get_or-replicate {A = ℤ} 16 s (pos 0) (pos 0) l) (record { low = omega (arith, ints); high = omega (arith, ints) });
}
