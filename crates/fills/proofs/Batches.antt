-- Polygons that are drawn one after another.
use Rattle.std.proofs.Common.{◌≡◌, refl, sym, subst, ap, ◌∙◌, arith, ℕ, zero, suc, ◌+◌, ◌<◌, ◌≤◌, List, [], ◌∷◌, ◌++◌, map, ℤ, pos, ◌+ℤ◌}
use Rattle.std.specs.List.{range_with_len}
use Rattle.std.proofs.lemmas.List.FromFn.{map-range_with_len_more}
use Rattle.grid.specs.declared.sample_count.SampleCount.{SampleCount}
use Rattle.shade.specs.declared.sample.CanvasSample.{CanvasSample}
use Rattle.lanes.specs.declared.block_samples.BlockSamples.{BlockSamples}
use Rattle.canvas.specs.declared.canvas.Canvas.{Canvas}
use Rattle.canvas.specs.declared.window.Origin.{Origin}
use Rattle.canvas.specs.Layout.{rows_of, stored}
use Rattle.fills.specs.Painting.{Shape, MeetsSample, PaintAll, ArePainted}
use Rattle.fills.specs.Parts.{LiesInRows}

paint_more : (ps : List Shape) (p : Shape) (count : SampleCount) (i j : ℤ) (s : ℕ) (start mid end : CanvasSample) → PaintAll ps count i j s start mid → PaintAll (p ∷ []) count i j s mid end → PaintAll (ps ++ p ∷ []) count i j s start end
paint_more [] p count i j s start mid end same one = subst (λ (x : CanvasSample). PaintAll (p ∷ []) count i j s x end) same one
paint_more (q ∷ qs) p count i j s start mid end all one = (all.0, all.1, paint_more qs p count i j s all.0 mid end all.2 one)

pub painted_none : (origin : Origin) (c : Canvas) (first end : ℕ) (old : List BlockSamples) → ArePainted [] origin c first end old old
painted_none origin c first end old i j s h = refl

pub painted_more : (f : ℕ → Shape) (k n : ℕ) (origin : Origin) (c : Canvas) (first end : ℕ) (old mid new : List BlockSamples)
    → ArePainted (map f (range_with_len k n)) origin c first end old mid → ArePainted (f (k + n) ∷ []) origin c first end mid new → ArePainted (map f (range_with_len k (n + 1))) origin c first end old new
painted_more f k n origin c first end old mid new before one =
    let more : map f (range_with_len k (n + 1)) ≡ map f (range_with_len k n) ++ f (k + n) ∷ [] = map-range_with_len_more f k n (k + n) refl in
    subst (λ (ps : List Shape). ArePainted ps origin c first end old new) (sym more)
    (λ i j s h. paint_more (map f (range_with_len k n)) (f (k + n)) c.count _ _ s _ _ _ (before i j s h) (one i j s h))

-- some polygons, and others behind them
pub paint_both : (ps qs : List Shape) (count : SampleCount) (i j : ℤ) (s : ℕ) (start mid end : CanvasSample) → PaintAll ps count i j s start mid → PaintAll qs count i j s mid end → PaintAll (ps ++ qs) count i j s start end
paint_both [] qs count i j s start mid end same rest = subst (λ (x : CanvasSample). PaintAll qs count i j s x end) same rest
paint_both (p ∷ ps) qs count i j s start mid end all rest = (all.0, all.1, paint_both ps qs count i j s all.0 mid end all.2 rest)

shapes_joined : (f : ℕ → Shape) (k m n : ℕ) → map f (range_with_len k (m + n)) ≡ map f (range_with_len k m) ++ map f (range_with_len (k + m) n)
shapes_joined f k zero n =
    let e : k ≡ k + 0 = omega arith in
    let z : 0 + n ≡ n = omega arith in
    ap (λ m. map f (range_with_len k m)) z ∙ ap (λ a. map f (range_with_len a n)) e
shapes_joined f k (suc m) n =
    let e : (k + 1) + m ≡ k + suc m = omega arith in
    let z : suc m + n ≡ suc (m + n) = omega arith in
    ap (λ l. map f (range_with_len k l)) z ∙ ap (λ (ps : List Shape). f k ∷ ps) (shapes_joined f (k + 1) m n ∙ ap (λ a. map f (range_with_len (k + 1) m) ++ map f (range_with_len a n)) e)

pub painted_both : (f : ℕ → Shape) (m n : ℕ) (origin : Origin) (c : Canvas) (first end : ℕ) (old mid new : List BlockSamples)
    → ArePainted (map f (range_with_len 0 m)) origin c first end old mid → ArePainted (map f (range_with_len m n)) origin c first end mid new → ArePainted (map f (range_with_len 0 (m + n))) origin c first end old new
painted_both f m n origin c first end old mid new before rest =
    let z : 0 + m ≡ m = omega arith in
    let whole : map f (range_with_len 0 (m + n)) ≡ map f (range_with_len 0 m) ++ map f (range_with_len m n) = shapes_joined f 0 m n ∙ ap (λ k. map f (range_with_len 0 m) ++ map f (range_with_len k n)) z in
    subst (λ (ps : List Shape). ArePainted ps origin c first end old new) (sym whole)
    (λ i j s h. paint_both (map f (range_with_len 0 m)) (map f (range_with_len m n)) c.count _ _ s _ _ _ (before i j s h) (rest i j s h))

-- polygons that meet no sample of the canvas
pub none_met : (f : ℕ → Shape) (k n : ℕ) (origin : Origin) (c : Canvas) (first end : ℕ) (old : List BlockSamples) → end ≤ rows_of c → ((i : ℕ) → k ≤ i → i < k + n → LiesInRows (f i) origin c 0 0) → ArePainted (map f (range_with_len k n)) origin c first end old old
none_met f k zero origin c first end old few lies i j s h = refl
none_met f k (suc n) origin c first end old few lies i j s h =
    let below = h.below in
    let none : MeetsSample (f k) c.count (pos i +ℤ origin.x) (pos j +ℤ origin.y) s → ⊥ = λ m.
    let inside = lies k (omega arith) (omega arith) i j s (record { column = h.column; from = omega arith; below = omega (arith, few, below); is_sample = h.is_sample }) m in
    omega (arith, inside.1) in (
      stored c first old i j s,
      record { met = λ m. absurd (none m); missed = λ m. refl },
      none_met f (k + 1) n origin c first end old few (λ l from to. lies l (omega (arith, from)) (omega (arith, to))) i j s h,
    )
