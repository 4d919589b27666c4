-- The first column at which a short edge is crossed.
use Rattle.std.proofs.Common.{◌≡◌, inl, inr, refl, sym, subst, arith, ℕ, ◌+◌, ◌*◌, ◌<◌, ◌≤◌, nat_abs, ◌^◌, List, [], ◌∷◌, slice_index_or, ℤ, pos, negsuc, ◌+ℤ◌, ◌-ℤ◌, ◌*ℤ◌, neg_ℤ, ◌<ℤ◌, ◌≤ℤ◌, w32, to_z, of_z}
use Rattle.std.proofs.lemmas.Bool.{cases_lt}
use Rattle.std.proofs.lemmas.Int.{ints, clamps}
use Rattle.std.specs.Int.{int_div_euclid, int_min}
use Rattle.grid.specs.Bounds.{IsWithin}
use Rattle.grid.specs.Position.{Position, IsInBand}
use Rattle.grid.specs.Edge.{side}
use Rattle.grid.specs.Samples.{part_size}
use Rattle.grid.proofs.Bounds.{passed}
use Rattle.grid.proofs.Ring.{var, lit, plus, neg, times, ring}
use Rattle.polygons.specs.declared.edge.Edge.{Edge}
use Rattle.polygons.specs.declared.strip.Strip.{Strip}
use Rattle.polygons.specs.Blocks.{down}
use Rattle.polygons.specs.Columns.{along, HasHeight, IsFirstColumn}
use Rattle.polygons.specs.Rows.{direction}
use Rattle.polygons.specs.Pixels.{IsFirstPixel}
use Rattle.polygons.specs.Short.{IsShortEdge}
use Rattle.polygons.specs.Crossed.{IsMissed}
use Rattle.polygons.specs.Strip.{start_of, AreFirstRows}
use Rattle.polygons.proofs.Columns.{side-along, is_first_column, between, at_right, at_left}
use Rattle.polygons.proofs.Division.{division}
use Rattle.polygons.proofs.Plotted.{direction_above, direction_below, part_small}
use Rattle.polygons.proofs.Triangle.{under_or_at_least}

pub side-is : (a b p : Position) → side a b p ≡ (b.x -ℤ a.x) *ℤ (p.y -ℤ a.y) -ℤ (b.y -ℤ a.y) *ℤ (p.x -ℤ a.x)
unfolding side
side-is a b p = refl

one_before : (h c : ℤ) → h *ℤ ((c -ℤ pos 1) -ℤ c) ≡ neg_ℤ h
one_before h c = ring (h ∷ c ∷ []) (times (var 0) (plus (plus (var 1) (neg (lit (pos 1)))) (neg (var 1)))) (neg (var 0)) refl

-- the column is crossed, and the one before it is not
pub from_sides : (e : Edge) (p : Position) (c : ℤ) → HasHeight e p.y → side e.a e.b (along p c) ≤ℤ pos 0 → pos 0 <ℤ side e.a e.b (along p (c -ℤ pos 1)) → IsFirstColumn e p c
from_sides e p c height here before =
    let n = neg_ℤ (side e.a e.b (along p c)) in
    let r = division n (pos 256) (omega (arith, ints)) in
    let s = r.sum in let a = r.low in let b = r.high in
    let m = side-along e.a e.b p c (c -ℤ pos 1) in
    let o = one_before (e.b.y -ℤ e.a.y) c in
    is_first_column e p c (int_div_euclid n (pos 256)) height
    (record { low = omega (arith, ints); high = omega (arith, ints); rest_low = omega (arith, ints); rest_high = omega (arith, ints) })

-- left of both ends, and a pixel right of one
pub left_of_both : (e : Edge) (p : Position) (c : ℤ) → HasHeight e p.y → (p.x +ℤ pos 256 *ℤ c) <ℤ e.a.x → (p.x +ℤ pos 256 *ℤ c) <ℤ e.b.x → pos 0 <ℤ side e.a e.b (along p c)
left_of_both e p c height a b =
    let f = between e.a e.b (along p c) in
    let t = height.top in let o = height.bottom in
    let m = at_left (e.b.y -ℤ p.y) (p.y -ℤ e.a.y) (e.a.x -ℤ (p.x +ℤ pos 256 *ℤ c)) (e.b.x -ℤ (p.x +ℤ pos 256 *ℤ c)) (omega (arith, ints)) (omega (arith, ints)) (omega (arith, ints)) (omega (arith, ints)) in
    omega (arith, ints)

pub right_of_both : (e : Edge) (p : Position) (c : ℤ) → HasHeight e p.y → e.a.x ≤ℤ (p.x +ℤ pos 256 *ℤ c) → e.b.x ≤ℤ (p.x +ℤ pos 256 *ℤ c) → side e.a e.b (along p c) ≤ℤ pos 0
right_of_both e p c height a b =
    let f = between e.a e.b (along p c) in
    let t = height.top in let o = height.bottom in
    let m = at_right (e.b.y -ℤ p.y) (p.y -ℤ e.a.y) (e.a.x -ℤ (p.x +ℤ pos 256 *ℤ c)) (e.b.x -ℤ (p.x +ℤ pos 256 *ℤ c)) (omega (arith, ints)) (omega (arith, ints)) (omega (arith, ints)) (omega (arith, ints)) in
    omega (arith, ints)

-- the first column that is not left of both ends, or the next one
pub this_column : (e : Edge) (p : Position) (c : ℤ) → HasHeight e p.y → IsFirstPixel p.x (int_min e.a.x e.b.x) c → side e.a e.b (along p c) ≤ℤ pos 0 → IsFirstColumn e p c
this_column e p c height first here =
    let r = first.reached in let f = first.first in
    from_sides e p c height here (left_of_both e p (c -ℤ pos 1) height (omega (arith, ints, clamps)) (omega (arith, ints, clamps)))

next_is : (c : ℤ) → (c +ℤ pos 1) -ℤ pos 1 ≡ c
next_is c = omega (arith, ints)

pub next_column : (e : Edge) (p : Position) (c : ℤ) → IsShortEdge e → HasHeight e p.y → IsFirstPixel p.x (int_min e.a.x e.b.x) c → pos 0 <ℤ side e.a e.b (along p c) → IsFirstColumn e p (c +ℤ pos 1)
next_column e p c short height first here =
    let r = first.reached in let f = first.first in
    let a = short.right in let b = short.left in
    from_sides e p (c +ℤ pos 1) height (right_of_both e p (c +ℤ pos 1) height (omega (arith, ints, clamps)) (omega (arith, ints, clamps))) (rw (next_is c) here)

-- ---- the numbers that the code forms
pub column_range : (start to n : ℤ) → IsInBand start → IsInBand to → IsFirstPixel start to n → IsWithin (2 ^ 17) n
column_range start to n h k first = let r = first.reached in let f = first.first in record { low = omega (arith, ints); high = omega (arith, ints) }

-- ---- the rows of one sample
pub not_negative : (z : ℤ) → pos 0 ≤ℤ z → pos (nat_abs z) ≡ z
not_negative (pos n) h = refl
not_negative (negsuc n) h = absurd (omega (arith, ints))

-- the rows that the edge does not run through
pub other_row : (e : Edge) (start : Position) (row j k : ℕ) → IsShortEdge e → e.a.y ≤ℤ e.b.y → HasHeight e (down start row).y → (j ≡ row → ⊥) → direction e (along (down start j) (pos k)) ≡ pos 0
other_row e start row j k short runs_down through other =
    let t = through.top in
    let b = through.bottom in
    let s = short.down in
    elim (cases_lt j row) [
      | inl l ↦ direction_above e (down start j) (pos k) runs_down (omega (arith, ints))
      | inr l ↦ let m = beyond row j l other in direction_below e (down start j) (pos k) runs_down (omega (arith, ints))
    ]
  where
    beyond : (row j : ℕ) → row ≤ j → (j ≡ row → ⊥) → row < j
    beyond row j l other = elim (cases_lt row j) [ inl m ↦ m | inr m ↦ absurd (other (omega arith)) ]

pub missed_row : (e : Edge) (start : Position) (row k : ℕ) → e.a.y ≤ℤ e.b.y → IsMissed e start → row < 64 → direction e (along (down start row) (pos k)) ≡ pos 0
missed_row e start row k runs_down missed h = elim (under_or_at_least ((down start row).y -ℤ e.a.y)) [
  | inl l ↦ direction_above e (down start row) (pos k) runs_down (omega (arith, ints))
  | inr l ↦ elim (under_or_at_least ((down start row).y -ℤ e.b.y)) [
    | inl m ↦ absurd (missed row h (record { top = omega (arith, ints); bottom = omega (arith, ints) }))
    | inr m ↦ direction_below e (down start row) (pos k) runs_down (omega (arith, ints))
  ]
]

-- ---- the rows as they are read
pub rows_read : (strip : Strip) (part : ℕ) (y y' : ℤ) (rows : List ℤ) → IsInBand y → y ≡ y' → AreFirstRows strip part (to_z w32 (of_z w32 y)) rows → AreFirstRows strip part y' rows
rows_read strip part y y' rows h e first = subst (λ z. AreFirstRows strip part z rows) (passed y y' h e) first

pub row_passed : (strip : Strip) (part s : ℕ) (start : Position) (y : ℤ) (rows : List ℤ) → start ≡ start_of strip (4 * part + s) → s < part_size strip.count → AreFirstRows strip part y rows
    → IsFirstPixel start.y y (to_z w32 (of_z w32 (slice_index_or rows s (pos 0))))
row_passed strip part s start y rows is h first =
    let near = first.near s (omega (arith, h, part_small strip.count)) in
    let same : to_z w32 (of_z w32 (slice_index_or rows s (pos 0))) ≡ slice_index_or rows s (pos 0) = omega (arith, ints) in
    rw same (subst (λ (p : Position). IsFirstPixel p.y y (slice_index_or rows s (pos 0))) (sym is) (first.first s h))
