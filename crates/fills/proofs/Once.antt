-- Polygons make exactly one sample of each, on whatever canvas it is.
use Rattle.std.proofs.Common.{◌≡◌, ◌↔◌, ◌∙◌, inl, inr, refl, sym, subst, arith, Bool, true, false, IsTrue, ℕ, ◌/◌, ◌%◌, ◌^◌, ℤ, pos, ◌+ℤ◌, List, [], ◌∷◌}
use Rattle.std.proofs.lemmas.Bool.{false≢true}
use Rattle.std.proofs.lemmas.Int.{ints}
use Rattle.grid.specs.Position.{Position}
use Rattle.grid.specs.declared.pixels.PixelBox.{PixelBox}
use Rattle.grid.specs.declared.sample_count.SampleCount.{SampleCount}
use Rattle.shade.specs.declared.sample.CanvasSample.{CanvasSample}
use Rattle.shade.proofs.Decided.{IsDecided, passes}
use Rattle.lanes.specs.declared.block_samples.BlockSamples.{BlockSamples}
use Rattle.polygons.specs.declared.edge.Edge.{Edge}
use Rattle.polygons.specs.declared.rule.Rule.{Rule}
use Rattle.polygons.specs.Crossing.{is_inside, IsInside}
use Rattle.polygons.specs.Polygon.{polygon_edges}
use Rattle.polygons.specs.Screen.{screen_sample}
use Rattle.polygons.proofs.Outline.{inside_is_true}
use Rattle.polygons.proofs.Triangle.{above_or_not}
use Rattle.canvas.specs.declared.canvas.Canvas.{Canvas}
use Rattle.canvas.specs.declared.window.Origin.{Origin}
use Rattle.canvas.specs.Layout.{IsStoredIn, stored}
use Rattle.canvas.specs.Window.{IsSamePixel}
use Rattle.blocks.proofs.TilePlanes.{cases_eq}
use Rattle.fills.specs.Painting.{Shape, fragment_of, IsInScissor, MeetsSample, Paints, PaintAll, ArePainted}
use Rattle.block_fills.proofs.FewSamples.{applied_once}

-- ---- whether a polygon meets a sample is decided
by_truth : (b : Bool) (P : Type 0) → (IsTrue b ↔ P) → IsDecided P
by_truth true P h = inl (h.0 refl)
by_truth false P h = inr (λ p. false≢true (h.1 p))

covered_or_not : (rule : Rule) (es : List Edge) (p : Position) → IsDecided (IsInside rule es p)
covered_or_not rule es p = by_truth (is_inside rule es p) (IsInside rule es p) (inside_is_true rule es p)

in_scissor_or_not : (r : PixelBox) (i j : ℤ) → IsDecided (IsInScissor r i j)
in_scissor_or_not r i j =
    elim (above_or_not i r.x0) [
      | inl out ↦ inr (λ h. let k = h.left in omega (arith, ints))
      | inr left ↦ elim (above_or_not i r.x1) [
        | inr out ↦ inr (λ h. let k = h.right in omega (arith, ints))
        | inl right ↦ elim (above_or_not j r.y0) [
          | inl out ↦ inr (λ h. let k = h.top in omega (arith, ints))
          | inr top ↦ elim (above_or_not j r.y1) [
            | inr out ↦ inr (λ h. let k = h.bottom in omega (arith, ints))
            | inl bottom ↦ inl (record { left = left; right = right; top = top; bottom = bottom })
          ]
        ]
      ]
    ]

meets_or_not : (shape : Shape) (count : SampleCount) (i j : ℤ) (s : ℕ) → IsDecided (MeetsSample shape count i j s)
meets_or_not shape count i j s =
    elim (covered_or_not shape.rule (polygon_edges shape.rings) (screen_sample i j s count)) [
      | inr out ↦ inr (λ h. out h.covered)
      | inl covered ↦ elim (in_scissor_or_not shape.state.scissor i j) [
        | inr out ↦ inr (λ h. out h.in_scissor)
        | inl inside ↦ elim (cases_eq (shape.state.sample_mask / 2 ^ s % 2) 1) [
          | inr out ↦ inr (λ h. out h.in_mask)
          | inl set ↦ inl (record { covered = covered; in_scissor = inside; in_mask = set })
        ]
      ]
    ]

-- ---- so there is one sample that polygons make
painted_once : (shape : Shape) (count : SampleCount) (i j : ℤ) (s : ℕ) (old new other : CanvasSample) → IsDecided (MeetsSample shape count i j s) → Paints shape count i j s old new → Paints shape count i j s old other → new ≡ other
painted_once shape count i j s old new other (inl m) h k =
    let f = fragment_of shape in
    applied_once shape.state.merge f old new other (passes shape.state.merge.test f.z old.z) (h.met m) (k.met m)
painted_once shape count i j s old new other (inr n) h k = h.missed n ∙ sym (k.missed n)

pub all_once : (shapes : List Shape) (count : SampleCount) (i j : ℤ) (s : ℕ) (start end other : CanvasSample) → PaintAll shapes count i j s start end → PaintAll shapes count i j s start other → end ≡ other
all_once [] count i j s start end other h k = h ∙ sym k
all_once (p ∷ ps) count i j s start end other h k =
    let same = painted_once p count i j s start h.0 k.0 (meets_or_not p count i j s) h.1 k.1 in
    all_once ps count i j s h.0 end other h.2 (subst (λ (x : CanvasSample). PaintAll ps count i j s x other) (sym same) k.2)

-- the same at equal arguments
paint_at : (shapes : List Shape) (n n' : SampleCount) (i i' j j' : ℤ) (s : ℕ) (start start' end : CanvasSample) → n' ≡ n → i ≡ i' → j ≡ j' → start' ≡ start → PaintAll shapes n' i' j' s start' end → PaintAll shapes n i j s start end
paint_at shapes n n' i i' j j' s start start' end counts across down begins h = rw (← counts, across, down, ← begins) h

pub canvases_alike : (shapes : List Shape) (o o' : Origin) (c c' : Canvas) (first end first' end' : ℕ) (old new old' new' : List BlockSamples) → c'.count ≡ c.count
    → ArePainted shapes o c first end old new → ArePainted shapes o' c' first' end' old' new'
    → (i j i' j' s : ℕ) → IsStoredIn c first end i j s → IsStoredIn c' first' end' i' j' s → IsSamePixel o o' i j i' j'
    → stored c' first' old' i' j' s ≡ stored c first old i j s → stored c' first' new' i' j' s ≡ stored c first new i j s
canvases_alike shapes o o' c c' first end first' end' old new old' new' counts painted painted' i j i' j' s h h' same start =
    let here = paint_at shapes c.count c'.count (pos i +ℤ o.x) (pos i' +ℤ o'.x) (pos j +ℤ o.y) (pos j' +ℤ o'.y) s _ _ _ counts same.across same.down start (painted' i' j' s h') in
    all_once shapes c.count (pos i +ℤ o.x) (pos j +ℤ o.y) s (stored c first old i j s) _ _ here (painted i j s h)
