-- Tile rows that are painted one after another, and the whole of what the polygon makes.
use Rattle.std.proofs.Common.{◌≡◌, inl, inr, refl, sym, subst, ap, ◌∙◌, arith, ℕ, ◌+◌, ◌-◌, ◌*◌, ◌/◌, ◌<◌, ◌≤◌, List, [], ◌∷◌, length, take, drop, slice_index, pos, ◌+ℤ◌}
use Rattle.std.proofs.lemmas.Bool.{cases_lt}
use Rattle.std.proofs.lemmas.List.{get_or-take, get_or_past, length-take}
use Rattle.lanes.specs.declared.block_samples.BlockSamples.{BlockSamples}
use Rattle.shade.specs.declared.sample.CanvasSample.{CanvasSample}
use Rattle.lanes.specs.Fragment.{FlatFragment, Takes}
use Rattle.polygons.specs.Rings.{HoldsInside, rings_from}
use Rattle.polygons.specs.Polygon.{polygon_edges}
use Rattle.polygons.specs.declared.extent.Extent.{Extent}
use Rattle.polygons.specs.ManyRows.{row_of}
use Rattle.polygons.specs.Cells.{AreZeros}
use Rattle.canvas.specs.declared.canvas.Canvas.{Canvas}
use Rattle.canvas.specs.declared.window.Origin.{Origin}
use Rattle.canvas.specs.Layout.{IsStoredIn, rows_of, planes_of_row, stored}
use Rattle.blocks.proofs.Cut.{put, put_here, put_elsewhere}
use Rattle.canvas.proofs.Places.{row_of as in_row, row_put, row_kept}
use Rattle.fills.specs.declared.polygon.Polygon.{Polygon}
use Rattle.fills.specs.declared.window.Window.{Window}
use Rattle.fills.specs.Painting.{ArePainted, MeetsSample, PaintAll, Shape, fragment_of, shape_of}
use Rattle.block_fills.specs.Parts.{RowsPaint}
use Rattle.fills.specs.Parts.{seen_fragment, LiesInRows, MeetsHere, HoldsSamples}
use Rattle.block_fills.proofs.Joined.{rows_joined}
use Rattle.fills.proofs.ByAlpha.{by_alpha}
use Rattle.block_fills.proofs.Strips.{cases_eq}

-- ---- one tile row of several
module _ (c : Canvas) (first end row : ℕ) (from : first ≤ row) (mid part : List BlockSamples) (n a : ℕ) (room : a + n ≤ length mid) (long : length part ≡ n) (many : n ≡ planes_of_row c)
    (at : a ≡ (row - first) * planes_of_row c) (i j s : ℕ) (h : IsStoredIn c first end i j s) where
  here : j / 64 ≡ row → IsStoredIn c row (row + 1) i j s
  here same = record { column = h.column; from = omega (arith, same); below = omega (arith, same); is_sample = h.is_sample }

  old_is : j / 64 ≡ row → stored c row (take n (drop a mid)) i j s ≡ stored c first mid i j s
  old_is same = in_row c i j s row first mid n a same many (at ∙ ap (λ k. (k - first) * planes_of_row c) (sym same)) h.column h.is_sample

  new_is : j / 64 ≡ row → stored c row part i j s ≡ stored c first (put mid part a n) i j s
  new_is same = sym (row_put c i j s mid part n a room long first row many at from h.from h.column h.is_sample same)

  elsewhere : (j / 64 ≡ row → ⊥) → stored c first (put mid part a n) i j s ≡ stored c first mid i j s
  elsewhere apart = row_kept c i j s mid part n a room long first row many at from h.from h.column h.is_sample apart

-- the samples before tile row `next` are painted, and the others are unchanged
pub record ArePaintedBefore (shapes : List Shape) (origin : Origin) (c : Canvas) (first end next : ℕ) (old new : List BlockSamples) : Type 0 where
  pub done : (i j s : ℕ) → IsStoredIn c first end i j s → j / 64 < next → PaintAll shapes c.count (pos i +ℤ origin.x) (pos j +ℤ origin.y) s (stored c first old i j s) (stored c first new i j s)
  pub left : (i j s : ℕ) → IsStoredIn c first end i j s → next ≤ j / 64 → stored c first new i j s ≡ stored c first old i j s

pub no_rows : (shapes : List Shape) (origin : Origin) (c : Canvas) (first end : ℕ) (old : List BlockSamples) → ArePaintedBefore shapes origin c first end first old old
no_rows shapes origin c first end old = record {
  done = λ i j s h l. let k = h.from in absurd (omega (arith, k, l));
  left = λ i j s h l. refl;
}

pub all_rows : (shapes : List Shape) (origin : Origin) (c : Canvas) (first end next : ℕ) (old new : List BlockSamples) → end ≤ next → ArePaintedBefore shapes origin c first end next old new → ArePainted shapes origin c first end old new
all_rows shapes origin c first end next old new past v i j s h = v.done i j s h (let k = h.below in omega (arith, k, past))

pub one_row_painted : (shapes : List Shape) (origin : Origin) (c : Canvas) (first end row : ℕ) (from : first ≤ row) (old mid part : List BlockSamples) (n a : ℕ) (room : a + n ≤ length mid) (long : length part ≡ n) (many : n ≡ planes_of_row c)
    (at : a ≡ (row - first) * planes_of_row c) → ArePaintedBefore shapes origin c first end row old mid → ArePainted shapes origin c row (row + 1) (take n (drop a mid)) part → ArePaintedBefore shapes origin c first end (row + 1) old (put mid part a n)
one_row_painted shapes origin c first end row from old mid part n a room long many at v one = record {
  done = λ i j s h l. elim (cases_lt (j / 64) row) [
    | inl less ↦
        let apart : j / 64 ≡ row → ⊥ = λ e. omega (arith, e, less) in
        subst (λ (x : CanvasSample). PaintAll shapes c.count (pos i +ℤ origin.x) (pos j +ℤ origin.y) s (stored c first old i j s) x) (sym (elsewhere c first end row from mid part n a room long many at i j s h apart)) (v.done i j s h less)
    | inr more ↦
        let same : j / 64 ≡ row = omega (arith, more, l) in
        let was : stored c row (take n (drop a mid)) i j s ≡ stored c first old i j s = old_is c first end row from mid part n a room long many at i j s h same ∙ v.left i j s h more in
        subst (λ (x : CanvasSample). PaintAll shapes c.count (pos i +ℤ origin.x) (pos j +ℤ origin.y) s x (stored c first (put mid part a n) i j s)) was
        (subst (λ (y : CanvasSample). PaintAll shapes c.count (pos i +ℤ origin.x) (pos j +ℤ origin.y) s (stored c row (take n (drop a mid)) i j s) y) (new_is c first end row from mid part n a room long many at i j s h same)
        (one i j s (here c first end row from mid part n a room long many at i j s h same)))
  ];
  left = λ i j s h l. elsewhere c first end row from mid part n a room long many at i j s h (λ e. omega (arith, e, l)) ∙ v.left i j s h (omega (arith, l));
}

-- a polygon that meets nothing in a tile row
pub row_not_met : (shape : Shape) (origin : Origin) (c : Canvas) (row top bottom : ℕ) (old : List BlockSamples) → row < rows_of c → LiesInRows shape origin c top bottom → ((top ≤ row) × (row < bottom) → ⊥) → ArePainted (shape ∷ []) origin c row (row + 1) old old
row_not_met shape origin c row top bottom old few lies apart i j s h =
    let from = h.from in
    let below = h.below in
    let none : MeetsSample shape c.count (pos i +ℤ origin.x) (pos j +ℤ origin.y) s → ⊥ = λ m.
    let inside = lies i j s (record { column = h.column; from = omega arith; below = omega (arith, few, below); is_sample = h.is_sample }) m in
    apart (omega (arith, inside.0, below), omega (arith, inside.1, from)) in
    (stored c row old i j s, record { met = λ m. absurd (none m); missed = λ n. refl }, refl)

module _ (f : FlatFragment) (c : Canvas) (first end row : ℕ) (from : first ≤ row) (Q : ℕ → ℕ → ℕ → Type 0) (mid part : List BlockSamples) (n a : ℕ) (room : a + n ≤ length mid) (long : length part ≡ n) (many : n ≡ planes_of_row c)
    (at : a ≡ (row - first) * planes_of_row c) (paints : RowsPaint f c row (row + 1) Q (take n (drop a mid)) part) where
  module _ (i j s : ℕ) (h : IsStoredIn c first end i j s) where
    met : j / 64 ≡ row → Q i j s → Takes f (stored c first mid i j s) (stored c first (put mid part a n) i j s)
    met same q =
        subst (λ (x : CanvasSample). Takes f x (stored c first (put mid part a n) i j s)) (old_is c first end row from mid part n a room long many at i j s h same)
        (subst (λ (y : CanvasSample). Takes f (stored c row (take n (drop a mid)) i j s) y) (new_is c first end row from mid part n a room long many at i j s h same) (paints.met i j s (here c first end row from mid part n a room long many at i j s h same) q))

    missed : ¬ ((j / 64 ≡ row) × Q i j s) → stored c first (put mid part a n) i j s ≡ stored c first mid i j s
    missed other =
        elim (cases_eq (j / 64) row) [
          | inl same ↦ sym (new_is c first end row from mid part n a room long many at i j s h same) ∙ paints.missed i j s (here c first end row from mid part n a room long many at i j s h same) (λ q. other (same, q)) ∙ old_is c first end row from mid part n a room long many at i j s h same
          | inr apart ↦ elsewhere c first end row from mid part n a room long many at i j s h apart
        ]

  row_in_rows : RowsPaint f c first end (λ i j s. (j / 64 ≡ row) × Q i j s) mid (put mid part a n)
  row_in_rows = record { met = λ i j s h q. met i j s h q.0 q.1; missed = missed }

  -- the rows before this one have been painted
  abbrev pub Before : ℕ → ℕ → ℕ → ℕ → Type 0
  Before next i j s = (j / 64 < next) × Q i j s

  pub one_row_more : (old : List BlockSamples) → RowsPaint f c first end (Before row) old mid → RowsPaint f c first end (Before (row + 1)) old (put mid part a n)
  one_row_more old before =
      rows_joined f c first end (Before row) (λ i j s. (j / 64 ≡ row) × Q i j s) (Before (row + 1)) old mid (put mid part a n) before row_in_rows
      (λ i j s h p q. let l = p.0 in let e = q.0 in omega (arith, l, e))
      (λ i j s h r. elim (cases_lt (j / 64) row) [ inl less ↦ inl (less, r.1) | inr more ↦ inr (omega (arith, more, r.0), r.1) ])
      (λ i j s h p. (omega (arith, p.0), p.1))
      (λ i j s h q. (omega (arith, q.0), q.1))

-- ---- what is in the window
module _ (polygon : Polygon) (origin : Origin) (c : Canvas) (extent : Extent) (w : Window)
    (holds : HoldsInside extent (polygon_edges (rings_from polygon.rings.corners.now polygon.rings.start polygon.rings.ends.now))) (window : HoldsSamples w extent origin c) where
  pub in_window : (first end i j s : ℕ) → end ≤ rows_of c → IsStoredIn c first end i j s → MeetsHere polygon origin c.count i j s → (w.left ≤ i / 8) × (i / 8 < w.right) × (w.top ≤ j / 64) × (j / 64 < w.bottom)
  in_window first end i j s few h m =
      let below = h.below in
      window i j s h.column (omega (arith, few, below)) (holds polygon.rule _ m.covered)

-- ---- the samples as the polygon makes them
pub polygon_painted : (polygon : Polygon) (origin : Origin) (c : Canvas) (first end : ℕ) (old new : List BlockSamples)
    → RowsPaint (seen_fragment polygon origin) c first end (MeetsHere polygon origin c.count) old new → ArePainted (shape_of polygon ∷ []) origin c first end old new
polygon_painted polygon origin c first end old new paints i j s h = (
  stored c first new i j s,
  record {
    met = λ m. by_alpha polygon.state.merge (fragment_of (shape_of polygon)) _ _ (paints.met i j s h m);
    missed = λ n. paints.missed i j s h n;
  },
  refl,
)

-- ---- parts of scratch memory
pub zeros_of_part : (xs : List (List ℕ)) (n : ℕ) → AreZeros xs → AreZeros (take n xs)
zeros_of_part xs n h column i =
    elim (cases_lt column n) [
      | inl less ↦ ap (λ (row : List ℕ). slice_index row i) (get_or-take n xs column [] less) ∙ h column i
      | inr past ↦ ap (λ (row : List ℕ). slice_index row i) (get_or_past (take n xs) column [] (omega (arith, past, length-take n xs)))
    ]

pub zeros_put : (xs part : List (List ℕ)) (n : ℕ) → n ≤ length xs → length part ≡ n → AreZeros xs → AreZeros part → AreZeros (put xs part 0 n)
zeros_put xs part n fits long h k column i =
    elim (cases_lt column n) [
      | inl less ↦
          let place : column ≡ 0 + column = omega arith in
          ap (λ m. slice_index (row_of (put xs part 0 n) m) i) place ∙ ap (λ (row : List ℕ). slice_index row i) (put_here xs part 0 n [] (omega (arith, fits)) long column less) ∙ k column i
      | inr past ↦ ap (λ (row : List ℕ). slice_index row i) (put_elsewhere xs part 0 n [] (omega (arith, fits)) long column (λ s l e. omega (arith, past, l, e))) ∙ h column i
    ]
