-- What the counters of a row say of the edges.
use Rattle.std.proofs.Common.{◌≡◌, inl, inr, refl, sym, ap, ◌∙◌, arith, ℕ, zero, suc, ◌+◌, ◌<◌, ◌≤◌, Bool, true, false, cond, eqb, ℤ, pos, neg_ℤ, ◌+ℤ◌, ◌<ℤ◌, ◌≤ℤ◌}
use Rattle.std.proofs.lemmas.Int.{ints, clamps}
use Rattle.std.proofs.lemmas.Bool.{cases_lt, cases_eq, eq-eqb, ne_eqb}
use Rattle.std.specs.Int.{int_max}
use Rattle.std.specs.Int.RustNames.{int_le}
use Rattle.grid.specs.Position.{Position}
use Rattle.grid.specs.Edge.{side}
use Rattle.polygons.specs.declared.edge.Edge.{Edge}
use Rattle.polygons.specs.Crossing.{is_crossed_down, is_crossed_up}
use Rattle.polygons.specs.Columns.{along, HasHeight, IsFirstColumn}
use Rattle.polygons.specs.Laws.{reversed}
use Rattle.polygons.specs.Rows.{direction, sum_to, from_column}
use Rattle.polygons.proofs.Tests.{le_yes, le_no, down_yes, down_above, down_below, down_left, up_above, up_below}
use Rattle.polygons.proofs.Triangle.{at_most_or_over, above_or_not}
use Rattle.polygons.proofs.Cancel.{opposite}

-- ---- sums of counters
pub sum-add : (f g h : ℕ → ℤ) (n : ℕ) → ((k : ℕ) → k < n → g k ≡ f k +ℤ h k) → sum_to g n ≡ sum_to f n +ℤ sum_to h n
sum-add f g h zero e = refl
sum-add f g h (suc n) e =
    let p = sum-add f g h n (λ k l. e k (omega arith)) in
    let q = e n (omega arith) in
    omega (arith, ints)

pub sum-same : (f g : ℕ → ℤ) (n : ℕ) → ((k : ℕ) → k < n → g k ≡ f k) → sum_to g n ≡ sum_to f n
sum-same f g zero h = refl
sum-same f g (suc n) h = let i = sum-same f g n (λ k l. h k (omega arith)) in let e = h n (omega arith) in omega (arith, ints)

pub sum-none : (f : ℕ → ℤ) (n : ℕ) → ((k : ℕ) → k < n → f k ≡ pos 0) → sum_to f n ≡ pos 0
sum-none f zero h = refl
sum-none f (suc n) h =
    let p = sum-none f n (λ k l. h k (omega arith)) in
    let q = h n (omega arith) in
    omega (arith, ints)

-- one number, at c
pub number_at : ℕ → ℤ → ℕ → ℤ
number_at c v k = cond (eqb k c) v (pos 0)

pub number-here : (c : ℕ) (v : ℤ) (k : ℕ) → k ≡ c → number_at c v k ≡ v
unfolding number_at
number-here c v k e = let x : eqb k c ≡ true = eq-eqb k c e in rw x refl

pub number-elsewhere : (c : ℕ) (v : ℤ) (k : ℕ) → (k ≡ c → ⊥) → number_at c v k ≡ pos 0
unfolding number_at
number-elsewhere c v k n = let x : eqb k c ≡ false = ne_eqb k c n in rw x refl

pub sum-number_before : (c : ℕ) (v : ℤ) (n : ℕ) → n ≤ c → sum_to (number_at c v) n ≡ pos 0
sum-number_before c v n h = sum-none (number_at c v) n (λ k l. number-elsewhere c v k (λ e. omega arith))

pub sum-number_after : (c : ℕ) (v : ℤ) (n : ℕ) → c < n → sum_to (number_at c v) n ≡ v
sum-number_after c v zero h = absurd (omega arith)
sum-number_after c v (suc n) h = elim (cases_eq n c) [
  | inl e ↦ let x = number-here c v n e in let y = sum-number_before c v n (omega arith) in omega (arith, ints)
  | inr e ↦ let x = number-elsewhere c v n e in let y = sum-number_after c v n (not_last n h e) in omega (arith, ints)
]
  where
    not_last : (n : ℕ) → c < suc n → (n ≡ c → ⊥) → c < n
    not_last n l e = elim (cases_lt c n) [ inl m ↦ m | inr m ↦ absurd (e (omega arith)) ]

pub sums-added : (f g : ℕ → ℤ) (c : ℕ) (v : ℤ) (k : ℕ) → ((j : ℕ) → j < k + 1 → g j ≡ f j +ℤ number_at c v j) → sum_to g (k + 1) ≡ sum_to f (k + 1) +ℤ from_column (pos c) v k
sums-added f g c v k h =
    let a = sum-add f g (number_at c v) (k + 1) h in
    elim (cases_lt k c) [
      | inl m ↦
          let b = sum-number_before c v (k + 1) (omega arith) in
          let t = le_no (pos c) (pos k) (omega (arith, ints)) in
          rw t (a ∙ (omega (arith, ints)))
      | inr m ↦
          let b = sum-number_after c v (k + 1) (omega arith) in
          let t = le_yes (pos c) (pos k) (omega (arith, ints)) in
          rw t (a ∙ (omega (arith, ints)))
    ]

pub same-test : (column : ℤ) (c k : ℕ) → pos c ≡ int_max column (pos 0) → int_le (pos c) (pos k) ≡ int_le column (pos k)
same-test column c k e = elim (above_or_not (pos k) column) [
  | inl l ↦
      let a = le_no (pos c) (pos k) (omega (arith, ints, clamps)) in
      let b = le_no column (pos k) l in
      a ∙ sym b
  | inr l ↦
      let a = le_yes (pos c) (pos k) (omega (arith, ints, clamps)) in
      let b = le_yes column (pos k) l in
      a ∙ sym b
]

-- ---- one edge
pub direction-from : (e : Edge) (p : Position) (c : ℤ) (k : ℕ) → HasHeight e p.y → IsFirstColumn e p c → direction e (along p (pos k)) ≡ from_column c (pos 1) k
direction-from e p c k h first =
    let up = up_below e (along p (pos k)) h.top in
    elim (above_or_not (pos k) c) [
      | inl l ↦
          let down : is_crossed_down e (along p (pos k)) ≡ false = elim (at_most_or_over (side e.a e.b (along p (pos k)))) [
            | inl m ↦ absurd (let n = (first (pos k)).0 (record { top = h.top; bottom = h.bottom; line = m }) in omega (arith, ints))
            | inr m ↦ down_left e (along p (pos k)) m
          ] in
          let test = le_no c (pos k) l in
          rw (down, up, test) refl
      | inr l ↦
          let crossed = (first (pos k)).1 l in
          let down = down_yes e (along p (pos k)) h.top h.bottom crossed.line in
          let test = le_yes c (pos k) l in
          rw (down, up, test) refl
    ]

pub direction-reversed : (e : Edge) (p : Position) → direction (reversed e) p ≡ neg_ℤ (direction e p)
direction-reversed e p =
    let o = opposite e p in
    let d : cond {A = ℕ} (is_crossed_down (reversed e) p) 1 0 ≡ cond {A = ℕ} (is_crossed_up e p) 1 0 = ap (λ (b : Bool). cond {A = ℕ} b 1 0) o.down in
    let u : cond {A = ℕ} (is_crossed_up (reversed e) p) 1 0 ≡ cond {A = ℕ} (is_crossed_down e p) 1 0 = ap (λ (b : Bool). cond {A = ℕ} b 1 0) o.up in
    omega (arith, ints)

pub direction-none : (e : Edge) (p : Position) (k : ℤ) → ((e.a.y ≤ℤ p.y) × (p.y <ℤ e.b.y) → ⊥) → ((e.b.y ≤ℤ p.y) × (p.y <ℤ e.a.y) → ⊥) → direction e (along p k) ≡ pos 0
direction-none e p k h l =
    elim (above_or_not p.y e.a.y) [
      | inl a ↦
          let down = down_above e (along p k) a in
          elim (above_or_not p.y e.b.y) [
            | inl b ↦ let up = up_above e (along p k) b in rw (down, up) refl
            | inr b ↦ absurd (l (b, a))
          ]
      | inr a ↦
          let up = up_below e (along p k) a in
          elim (above_or_not p.y e.b.y) [
            | inl b ↦ absurd (h (a, b))
            | inr b ↦ let down = down_below e (along p k) b in rw (down, up) refl
          ]
    ]
