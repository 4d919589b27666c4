-- Polygons that are drawn together, one after another, and the tile rows that they can meet.
use Rattle.std.proofs.Common.{◌≡◌, ◌≢◌, inl, inr, sym, ap, subst, arith, ℕ, ◌+◌, ◌-◌, ◌<◌, ◌≤◌, List, [], ◌∷◌, map, length, set, get_or, get_or-set_same, get_or-set_other}
use Rattle.std.specs.List.{range_with_len}
use Rattle.std.proofs.lemmas.Bool.{cases_lt}
use Rattle.lanes.specs.declared.block_samples.BlockSamples.{BlockSamples}
use Rattle.canvas.specs.declared.canvas.Canvas.{Canvas}
use Rattle.canvas.specs.declared.window.Origin.{Origin}
use Rattle.polygons.specs.declared.arrays.Polygons.{Polygons}
use Rattle.polygons.proofs.Seen.{polygon_seen}
use Rattle.fills.specs.declared.group.Group.{Group}
use Rattle.fills.specs.declared.group.Span.{Span}
use Rattle.fills.specs.Batches.{AreFit, HasCornersInBand}
use Rattle.fills.specs.Groups.{span_of}
use Rattle.fills.specs.Painting.{Shape, ArePainted}
use Rattle.fills.specs.Parts.{LiesInRows}

-- ---- the rows of one polygon more
abbrev pub none : Span
none = record { top = 0; bottom = 0 }

pub spans_next : (Says : ℕ → Span → Type 0) (first number : ℕ) (span : Span) (spans : List Span) → first ≤ number → number - first < length spans → ((k : ℕ) → first ≤ k → k < number → Says k (get_or spans (k - first) none))
    → Says number span → (k : ℕ) → first ≤ k → k < number + 1 → Says k (get_or (set spans (number - first) span) (k - first) none)
spans_next Says first number span spans from room before here k l m = elim (cases_lt k number) [
  | inl less ↦
      let apart : k - first ≢ number - first = λ e. omega (arith, e, l, less, from) in
      subst (Says k) (sym (get_or-set_other spans (number - first) (k - first) span none apart)) (before k l less)
  | inr more ↦
      let same : number ≡ k = omega (arith, m, more) in
      subst (λ n. Says n (get_or (set spans (number - first) span) (n - first) none)) same (subst (Says number) (sym (get_or-set_same spans (number - first) span none room)) here)
]

-- the same of a group, which ends where the next polygon stands
pub group_next : (Says : ℕ → Span → Type 0) (group : Group) (number first : ℕ) (span : Span) → group.first ≡ first → group.end ≡ number → group.first ≤ number → number - group.first < length group.spans
    → ((k : ℕ) → group.first ≤ k → k < group.end → Says k (span_of group k)) → Says number span → (k : ℕ) → group.first ≤ k → k < number + 1 → Says k (get_or (set group.spans (number - first) span) (k - group.first) none)
group_next Says group number first span is end from room before here =
    let at : number - first ≡ number - group.first = ap (λ n. number - n) (sym is) in
    rw at (spans_next Says group.first number span group.spans from room (λ k l m. before k l (omega (arith, m, end))) here)

-- ---- polygons with their boxes
pub fit_seen : (polygons : Polygons) (k : ℕ) → AreFit polygons → HasCornersInBand polygons k
fit_seen polygons k fit =
    polygon_seen polygons.corners.now polygons.ring_ends.now polygons.polygon_ends.now k
    (elim (cases_lt 0 (length polygons.boxes.now)) [
      | inl some ↦ (fit some).seen
      | inr none ↦ polygons.checked.seen (omega (arith, none))
    ])

-- a polygon that meets no row
pub lies_nowhere : (shape : Shape) (origin : Origin) (c : Canvas) (top bottom : ℕ) → bottom ≤ top → LiesInRows shape origin c top bottom → LiesInRows shape origin c 0 0
lies_nowhere shape origin c top bottom none lies i j s h m = let inside = lies i j s h m in absurd (omega (arith, inside.0, inside.1, none))

-- ---- one polygon more is drawn
module _ (f : ℕ → Shape) (k : ℕ) (origin : Origin) (c : Canvas) (first end : ℕ) where
  pub single_painted : (next : ℕ) (old new : List BlockSamples) → next ≡ k + 1 → ArePainted (f k ∷ []) origin c first end old new → ArePainted (map f (range_with_len k (next - k))) origin c first end old new
  single_painted next old new is one =
      let e : 1 ≡ next - k = omega (arith, is) in
      subst (λ (n : ℕ). ArePainted (map f (range_with_len k n)) origin c first end old new) e one
