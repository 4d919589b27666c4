-- Edges that are crossed nowhere in a strip.
use Rattle.std.proofs.Common.{◌≡◌, inl, inr, refl, sym, ◌∙◌, arith, ℕ, ◌+◌, ◌*◌, ◌<◌, false, ℤ, pos, ◌+ℤ◌, ◌-ℤ◌, ◌*ℤ◌, ◌<ℤ◌, ◌≤ℤ◌}
use Rattle.std.proofs.lemmas.Int.{ints}
use Rattle.grid.specs.Position.{Position}
use Rattle.polygons.specs.declared.edge.Edge.{Edge}
use Rattle.polygons.specs.declared.strip.Strip.{Strip}
use Rattle.polygons.specs.Crossing.{is_crossed_down, is_crossed_up}
use Rattle.polygons.specs.Laws.{reversed}
use Rattle.polygons.specs.Rows.{direction}
use Rattle.polygons.specs.Apart.{IsApart}
use Rattle.polygons.specs.Strip.{strip_sample}
use Rattle.polygons.proofs.Cancel.{opposite}
use Rattle.polygons.proofs.Columns.{between, at_left}
use Rattle.polygons.proofs.Samples.{offset_x, offset_y}
use Rattle.polygons.proofs.Tests.{down_above, down_below, down_left, up_above, up_below}
use Rattle.polygons.proofs.Triangle.{above_or_not}

none : (e : Edge) (p : Position) → is_crossed_down e p ≡ false → is_crossed_up e p ≡ false → direction e p ≡ pos 0
none e p d u = rw (d, u) refl

pub direction_over : (e : Edge) (p : Position) → e.a.y ≤ℤ p.y → e.b.y ≤ℤ p.y → direction e p ≡ pos 0
direction_over e p h k = none e p (down_below e p k) (up_below e p h)

pub direction_under : (e : Edge) (p : Position) → p.y <ℤ e.a.y → p.y <ℤ e.b.y → direction e p ≡ pos 0
direction_under e p h k = none e p (down_above e p h) (up_above e p k)

not_down : (e : Edge) (p : Position) → p.x <ℤ e.a.x → p.x <ℤ e.b.x → is_crossed_down e p ≡ false
not_down e p h k = elim (above_or_not p.y e.a.y) [
  | inl l ↦ down_above e p l
  | inr l ↦ elim (above_or_not p.y e.b.y) [
    | inl m ↦
        let f = between e.a e.b p in
        let n = at_left (e.b.y -ℤ p.y) (p.y -ℤ e.a.y) (e.a.x -ℤ p.x) (e.b.x -ℤ p.x) (omega (arith, ints)) (omega (arith, ints)) (omega (arith, ints)) (omega (arith, ints)) in
        down_left e p (omega (arith, ints))
    | inr m ↦ down_below e p m
  ]
]

pub direction_right : (e : Edge) (p : Position) → p.x <ℤ e.a.x → p.x <ℤ e.b.x → direction e p ≡ pos 0
direction_right e p h k = none e p (not_down e p h k) (sym (opposite e p).down ∙ not_down (reversed e) p k h)

-- ---- where samples of a strip lie
pub sample_y : (strip : Strip) (s row k : ℕ) (y : ℤ) → row < 64 → (pos 256 *ℤ strip.row +ℤ pos 16384) ≤ℤ y → (strip_sample strip s row k).y <ℤ y
sample_y strip s row k y h l = let o = offset_y strip.count s in omega (arith, ints)

pub sample_below : (strip : Strip) (s row k : ℕ) (y : ℤ) → y ≤ℤ (pos 256 *ℤ strip.row) → y ≤ℤ (strip_sample strip s row k).y
sample_below strip s row k y h = let o = offset_y strip.count s in omega (arith, ints)

pub sample_x : (strip : Strip) (s row k : ℕ) (x : ℤ) → (pos 256 *ℤ strip.column +ℤ pos (256 * (k + 1))) ≤ℤ x → (strip_sample strip s row k).x <ℤ x
sample_x strip s row k x h = let o = offset_x strip.count s in omega (arith, ints)

pub sample_right : (strip : Strip) (s row k : ℕ) (x : ℤ) → x ≤ℤ (pos 256 *ℤ strip.column) → x ≤ℤ (strip_sample strip s row k).x
sample_right strip s row k x h = let o = offset_x strip.count s in omega (arith, ints)

pub crossed_nowhere : (e : Edge) (strip : Strip) (columns s row k : ℕ) → IsApart e strip columns → row < 64 → k < 8 * columns → direction e (strip_sample strip s row k) ≡ pos 0
crossed_nowhere e strip columns s row k apart h l = elim apart [
  | inl above ↦ direction_over e (strip_sample strip s row k) (sample_below strip s row k e.a.y above.0) (sample_below strip s row k e.b.y above.1)
  | inr other ↦ elim other [
    | inl below ↦ direction_under e (strip_sample strip s row k) (sample_y strip s row k e.a.y h below.0) (sample_y strip s row k e.b.y h below.1)
    | inr right ↦ let r = right k l in direction_right e (strip_sample strip s row k) (sample_x strip s row k e.a.x r.0) (sample_x strip s row k e.b.x r.1)
  ]
]
