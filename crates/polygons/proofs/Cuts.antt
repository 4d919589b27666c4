-- Edges that are cut at a point count as their parts, but in the triangle between them.
use Rattle.std.proofs.Common.{◌≡◌, ◌↔◌, inl, inr, refl, sym, ap, ◌∙◌, arith, ℕ, ◌+◌, ◌%◌, Bool, false, cond, List, [], ◌∷◌, ℤ, pos, ◌+ℤ◌, ◌-ℤ◌, ◌*ℤ◌, ◌<ℤ◌, ◌≤ℤ◌}
use Rattle.std.proofs.lemmas.Int.{ints}
use Rattle.std.proofs.lemmas.List.Sorted.{sum_by-IsPermutation}
use Rattle.std.specs.List.Sorted.{IsPermutation}
use lib.IntN.{zero-*ℤ}
use Rattle.grid.specs.Position.{Position}
use Rattle.grid.specs.Edge.{side}
use Rattle.grid.specs.Seam.{between_product, IsOnOpenEdge}
use Rattle.grid.proofs.Ring.{Term, var, plus, neg, times, ring}
use Rattle.grid.proofs.Sign.{negative, null, positive, sign, factor_negative, other_signs, mul_positive, mul_negative, mul_apart, mul_apart', square_not_negative, square_positive}
use Rattle.grid.proofs.Identities.{side-turn, side-reversed}
use Rattle.grid.proofs.Seam.{side-horizontal}
use Rattle.polygons.specs.declared.edge.Edge.{Edge}
use Rattle.polygons.specs.declared.rule.Rule.{Rule}
use Rattle.polygons.specs.declared.rule.Rule.TheVariants.{EvenOdd, NonZero}
use Rattle.polygons.specs.Crossing.{is_crossed_down, is_crossed_up, downs, ups, crossings, winding, IsInside}
use Rattle.polygons.specs.Laws.{reversed}
use Rattle.polygons.specs.Junctions.{parts_at, IsInSliver, IsCrossedAsParts, CountsAsParts, AreParts, none, whole, cut, HaveSameParts}
use Rattle.polygons.specs.Rows.{direction}
use Rattle.polygons.proofs.Cancel.{opposite, one_down, one_up}
use Rattle.polygons.proofs.Tests.{down_above, down_below, up_above, up_below}
use Rattle.polygons.proofs.Triangle.{above_or_not, verdict, upwards, downwards, outside}

-- ---- an edge that is cut anywhere
pub direction-cut : (e : Edge) (q p : Position) → ¬ IsInSliver e q p → direction (record { a = e.a; b = q }) p +ℤ direction (record { a = q; b = e.b }) p ≡ direction e p
direction-cut e q p n =
    let o = opposite e p in
    let d : cond {A = ℕ} (is_crossed_down (reversed e) p) 1 0 ≡ cond {A = ℕ} (is_crossed_up e p) 1 0 = ap (λ (b : Bool). cond {A = ℕ} b 1 0) o.down in
    let u : cond {A = ℕ} (is_crossed_up (reversed e) p) 1 0 ≡ cond {A = ℕ} (is_crossed_down e p) 1 0 = ap (λ (b : Bool). cond {A = ℕ} b 1 0) o.up in
    elim (verdict e.a q e.b p) [
      | upwards h _ _ ↦ absurd (n h)
      | downwards h _ _ ↦ absurd (n h)
      | outside _ k ↦ omega (arith, ints, d, u, k)
    ]

same_parity : (d u d' u' : ℕ) → pos d -ℤ pos u ≡ pos d' -ℤ pos u' → (d + u) % 2 ≡ (d' + u') % 2
same_parity d u d' u' e = omega (arith, ints)

pub counts_as_parts : (e : Edge) (q p : Position) → ¬ IsInSliver e q p → CountsAsParts e q p
counts_as_parts e q p n =
    let c = direction-cut e q p n in
    let w : winding (e ∷ []) p ≡ winding (parts_at q e) p = omega (arith, ints) in
    record { winding = w; parity = same_parity (downs (e ∷ []) p) (ups (e ∷ []) p) (downs (parts_at q e) p) (ups (parts_at q e) p) w }

-- ---- an edge that is cut at a point on it
-- no triangle is left
pub no_sliver : (e : Edge) (q p : Position) → side e.a e.b q ≡ pos 0 → ¬ IsInSliver e q p
no_sliver e q p on h =
    let turned = side-turn e.a e.b q in
    let back = side-reversed e.b q e.a in
    let around = side-turn e.a q e.b in
    h.area (omega (arith, ints))

-- the point is between the ends by their heights, if it is by its distances
between_heights : (a b q : Position)
    → between_product a b q *ℤ ((b.y -ℤ a.y) *ℤ (b.y -ℤ a.y))
    ≡ ((b.x -ℤ a.x) *ℤ (b.x -ℤ a.x) +ℤ (b.y -ℤ a.y) *ℤ (b.y -ℤ a.y)) *ℤ ((q.y -ℤ a.y) *ℤ (q.y -ℤ b.y))
    -ℤ side a b q *ℤ ((b.x -ℤ a.x) *ℤ (q.y -ℤ a.y) +ℤ (b.x -ℤ a.x) *ℤ (q.y -ℤ b.y) -ℤ side a b q)
unfolding side between_product
between_heights a b q =
    let less = λ (m n : Term). plus m (neg n) in
    let w = less (var 2) (var 0) in
    let h = less (var 3) (var 1) in
    let v = less (var 5) (var 1) in
    let y = less (var 5) (var 3) in
    let s = less (times w v) (times h (less (var 4) (var 0))) in
    ring (a.x ∷ a.y ∷ b.x ∷ b.y ∷ q.x ∷ q.y ∷ [])
    (times (plus (times (less (var 4) (var 0)) (less (var 4) (var 2))) (times v y)) (times h h))
    (less (times (plus (times w w) (times h h)) (times v y)) (times s (less (plus (times w v) (times w y)) s))) refl

pub data IsBetweenHeights (a b q : ℤ) : Type 0 where
  falls : a ≤ℤ q → q ≤ℤ b → IsBetweenHeights a b q
  rises : b ≤ℤ q → q ≤ℤ a → IsBetweenHeights a b q

-- of an edge that is not horizontal
between_slanted : (a b q : Position) → IsOnOpenEdge a b q → (b.y -ℤ a.y ≡ pos 0 → ⊥) → ((q.y -ℤ a.y) *ℤ (q.y -ℤ b.y)) <ℤ pos 0
between_slanted a b q on slanted =
    let w : ℤ = b.x -ℤ a.x in
    let h : ℤ = b.y -ℤ a.y in
    let v : ℤ = (q.y -ℤ a.y) *ℤ (q.y -ℤ b.y) in
    by_signs (between_product a b q) (h *ℤ h) (w *ℤ w) v (side a b q) _ on.between (square_positive h slanted) (square_not_negative w) on.on_line (between_heights a b q)
  where
    by_signs : (k hh ww v s rest : ℤ) → k <ℤ pos 0 → pos 0 <ℤ hh → pos 0 ≤ℤ ww → s ≡ pos 0 → k *ℤ hh ≡ (ww +ℤ hh) *ℤ v -ℤ s *ℤ rest → v <ℤ pos 0
    by_signs k hh ww v s rest under over least zero e =
        let gone : s *ℤ rest ≡ pos 0 = ap (λ z. z *ℤ rest) zero ∙ zero-*ℤ rest in
        let left = mul_apart' k hh under over in
        factor_negative (ww +ℤ hh) v (omega (arith, ints)) (omega (arith, ints))

no_width : (w v : ℤ) → (v ≡ pos 0 → ⊥) → w *ℤ v ≡ pos 0 → w ≡ pos 0
no_width w v n e =
    elim (sign w) [
      | null h ↦ h
      | negative h ↦ elim (sign v) [
        | null k ↦ absurd (n k)
        | negative k ↦ absurd (let m = mul_negative w v h k in omega (arith, ints))
        | positive k ↦ absurd (let m = mul_apart' w v h k in omega (arith, ints))
      ]
      | positive h ↦ elim (sign v) [
        | null k ↦ absurd (n k)
        | negative k ↦ absurd (let m = mul_apart w v h k in omega (arith, ints))
        | positive k ↦ absurd (let m = mul_positive w v h k in omega (arith, ints))
      ]
    ]

-- of a horizontal one
level_apart : (a b q : Position) → IsOnOpenEdge a b q → a.y ≡ b.y → (q.y -ℤ a.y ≡ pos 0 → ⊥) → ⊥
unfolding between_product
level_apart a b q on level n =
    let flat = side-horizontal a b q level in
    let on_line = on.on_line in
    let narrow : b.x -ℤ a.x ≡ pos 0 = no_width (b.x -ℤ a.x) (q.y -ℤ a.y) n (omega (arith, ints)) in
    let right : q.x -ℤ b.x ≡ q.x -ℤ a.x = omega (arith, ints) in
    let below : q.y -ℤ b.y ≡ q.y -ℤ a.y = omega (arith, ints) in
    let between : ((q.x -ℤ a.x) *ℤ (q.x -ℤ a.x) +ℤ (q.y -ℤ a.y) *ℤ (q.y -ℤ a.y)) <ℤ pos 0 = rw (right, below) at on.between in
    let across = square_not_negative (q.x -ℤ a.x) in
    let down = square_positive (q.y -ℤ a.y) n in
    omega (arith, ints)

between_level : (a b q : Position) → IsOnOpenEdge a b q → a.y ≡ b.y → q.y ≡ a.y
between_level a b q on level =
    elim (sign (q.y -ℤ a.y)) [
      | null v ↦ omega (arith, ints)
      | negative v ↦ absurd (level_apart a b q on level (λ e. omega (arith, ints)))
      | positive v ↦ absurd (level_apart a b q on level (λ e. omega (arith, ints)))
    ]

pub between_ends : (a b q : Position) → IsOnOpenEdge a b q → IsBetweenHeights a.y b.y q.y
between_ends a b q on =
    elim (sign (b.y -ℤ a.y)) [
      | null h ↦ let level : a.y ≡ b.y = omega (arith, ints) in let same = between_level a b q on level in falls (omega (arith, ints)) (omega (arith, ints))
      | negative h ↦ let s = other_signs (q.y -ℤ a.y) (q.y -ℤ b.y) (between_slanted a b q on (λ e. omega (arith, ints))) in rises (omega (arith, ints, s)) (omega (arith, ints, s))
      | positive h ↦ let s = other_signs (q.y -ℤ a.y) (q.y -ℤ b.y) (between_slanted a b q on (λ e. omega (arith, ints))) in falls (omega (arith, ints, s)) (omega (arith, ints, s))
    ]

-- an edge that runs downwards, or is level, is not crossed upwards
no_up : (e : Edge) (p : Position) → e.a.y ≤ℤ e.b.y → is_crossed_up e p ≡ false
no_up e p h = elim (above_or_not p.y e.b.y) [ inl k ↦ up_above e p k | inr k ↦ up_below e p (omega (arith, ints)) ]

no_down : (e : Edge) (p : Position) → e.b.y ≤ℤ e.a.y → is_crossed_down e p ≡ false
no_down e p h = elim (above_or_not p.y e.a.y) [ inl k ↦ down_above e p k | inr k ↦ down_below e p (omega (arith, ints)) ]

number : (b : Bool) → b ≡ false → cond {A = ℕ} b 1 0 ≡ 0
number b e = ap (λ (c : Bool). cond {A = ℕ} c 1 0) e

pub crossed_as_parts : (e : Edge) (q p : Position) → IsOnOpenEdge e.a e.b q → IsCrossedAsParts e q p
crossed_as_parts e q p on =
    let first : Edge = record { a = e.a; b = q } in
    let second : Edge = record { a = q; b = e.b } in
    let c = direction-cut e q p (no_sliver e q p on.on_line) in
    elim (between_ends e.a e.b q on) [
      | falls h k ↦
          let x = number (is_crossed_up e p) (no_up e p (omega (arith, ints))) in
          let y = number (is_crossed_up first p) (no_up first p h) in
          let z = number (is_crossed_up second p) (no_up second p k) in
          record { downs = omega (arith, ints); ups = omega (arith, ints) }
      | rises h k ↦
          let x = number (is_crossed_down e p) (no_down e p (omega (arith, ints))) in
          let y = number (is_crossed_down first p) (no_down first p k) in
          let z = number (is_crossed_down second p) (no_down second p h) in
          record { downs = omega (arith, ints); ups = omega (arith, ints) }
    ]

-- ---- lists of edges
pub winding-one : (e : Edge) (es : List Edge) (p : Position) → winding (e ∷ es) p ≡ direction e p +ℤ winding es p
winding-one e es p = let d = one_down e es p in let u = one_up e es p in omega (arith, ints)

pub winding-parts : (p : Position) (es parts : List Edge) → AreParts p es parts → winding parts p ≡ winding es p
winding-parts p [] [] none = refl
winding-parts p [] (e' ∷ parts) h = elim h [ ]
winding-parts p (e ∷ es) (e' ∷ parts) (whole _ _ _ h) =
    let i = winding-parts p es parts h in
    let w = winding-one e es p in
    let v = winding-one e parts p in
    omega (arith, ints)
winding-parts p (e ∷ es) parts (cut _ q _ _ n h) =
    let first : Edge = record { a = e.a; b = q } in
    let second : Edge = record { a = q; b = e.b } in
    let i = winding-parts p (first ∷ second ∷ es) parts h in
    let c = direction-cut e q p n in
    let u = winding-one first (second ∷ es) p in
    let v = winding-one second es p in
    let w = winding-one e es p in
    omega (arith, ints)

winding-permuted : (es fs : List Edge) (p : Position) → IsPermutation es fs → winding fs p ≡ winding es p
winding-permuted es fs p h =
    let d : downs fs p ≡ downs es p = sum_by-IsPermutation (λ e. cond (is_crossed_down e p) 1 0) es fs h in
    let u : ups fs p ≡ ups es p = sum_by-IsPermutation (λ e. cond (is_crossed_up e p) 1 0) es fs h in
    omega (arith, ints)

pub winding-same : (es fs : List Edge) (p : Position) → HaveSameParts es fs p → winding es p ≡ winding fs p
winding-same es fs p h =
    sym (winding-parts p es h.first_parts h.of_first) ∙ sym (winding-permuted h.first_parts h.second_parts p h.same) ∙ winding-parts p fs h.second_parts h.of_second

pub parity-same_winding : (es fs : List Edge) (p : Position) → winding es p ≡ winding fs p → crossings es p % 2 ≡ crossings fs p % 2
parity-same_winding es fs p h = same_parity (downs es p) (ups es p) (downs fs p) (ups fs p) h

-- edges that wind alike have the same inside
pub inside_alike : (rule : Rule) (es fs : List Edge) (p : Position) → winding es p ≡ winding fs p → IsInside rule es p ↔ IsInside rule fs p
inside_alike EvenOdd es fs p h = let k = parity-same_winding es fs p h in (λ l. omega arith, λ l. omega arith)
inside_alike NonZero es fs p h = (λ l m. l (omega (arith, ints)), λ l m. l (omega (arith, ints)))
