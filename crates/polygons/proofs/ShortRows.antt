-- A short edge at one sample, by the numbers that the lanes have of it.
use Rattle.std.proofs.Common.{◌≡◌, ◌∙◌, refl, sym, subst, inl, inr, arith, ℕ, ◌+◌, ◌-◌, ◌*◌, ◌/◌, ◌%◌, ◌<◌, ◌≤◌, [], ◌∷◌, ℤ, pos, ◌+ℤ◌, ◌-ℤ◌, ◌*ℤ◌, neg_ℤ, ◌<ℤ◌, ◌≤ℤ◌}
use Rattle.std.proofs.lemmas.Int.{ints, clamps}
use Rattle.std.proofs.lemmas.Bool.{cases_lt}
use Rattle.std.specs.Int.{int_min}
use Rattle.grid.specs.Position.{Position}
use Rattle.grid.specs.Edge.{side}
use Rattle.grid.proofs.Ring.{var, plus, neg, times, ring}
use Rattle.polygons.specs.declared.edge.Edge.{Edge}
use Rattle.polygons.specs.Blocks.{down}
use Rattle.polygons.specs.Columns.{along, HasHeight, IsFirstColumn}
use Rattle.polygons.specs.Pixels.{IsFirstPixel}
use Rattle.polygons.specs.Short.{IsShortEdge}
use Rattle.polygons.proofs.ShortEdges.{side-is, this_column, next_column}

-- how far it is from a sample to the end of the pixel that holds the place 255/256 pixel behind the edge's upper end
abbrev pub IsDepth : Edge → Position → ℕ → Type 0
IsDepth e start d = pos d ≡ (e.a.y +ℤ pos 511) -ℤ start.y

-- the depth is that of a row of the strip which the edge runs through
abbrev pub IsPassing : ℕ → ℕ → Type 0
IsPassing d h = (256 ≤ d) × (d < 16640) × (256 ≤ d % 256 + h)

pub passing : (e : Edge) (start : Position) (d h row : ℕ) → IsShortEdge e → IsDepth e start d → pos h ≡ e.b.y -ℤ e.a.y → row < 64 → HasHeight e (down start row).y → IsPassing d h
passing e start d h row short depth height few through =
    let t = through.top in
    let b = through.bottom in
    let s = short.down in
    let low : 256 * row + 256 ≤ d = omega (arith, ints) in
    let high : d ≤ 256 * row + 511 = omega (arith, ints) in
    (omega arith, omega arith, omega (arith, ints))

-- that row
pub row_of : (e : Edge) (start : Position) (d h : ℕ) → IsDepth e start d → pos h ≡ e.b.y -ℤ e.a.y → IsPassing d h → HasHeight e (down start (d / 256 - 1)).y
row_of e start d h depth height p =
    let a = p.0 in
    let c = p.2 in
    record { top = omega (arith, ints); bottom = omega (arith, ints) }

pub row_small : (d h : ℕ) → IsPassing d h → d / 256 - 1 < 64
row_small d h p = let a = p.0 in let b = p.1 in omega arith

-- how far below the upper end it is
pub below_end : (e : Edge) (start : Position) (d : ℕ) → IsDepth e start d → 256 ≤ d → (down start (d / 256 - 1)).y -ℤ e.a.y ≡ pos (255 - d % 256)
below_end e start d depth h = omega (arith, ints)

-- ---- the column
side_right : (e : Edge) (q : Position) (w l h r : ℤ) → e.b.x -ℤ e.a.x ≡ w → q.y -ℤ e.a.y ≡ l → e.b.y -ℤ e.a.y ≡ h → q.x -ℤ e.a.x ≡ r → side e.a e.b q ≡ l *ℤ w -ℤ r *ℤ h
side_right e q w l h r a b c d =
    side-is e.a e.b q ∙ (λ i. a i *ℤ b i -ℤ c i *ℤ d i)
    ∙ ring (w ∷ l ∷ h ∷ r ∷ []) (plus (times (var 0) (var 1)) (neg (times (var 2) (var 3)))) (plus (times (var 1) (var 0)) (neg (times (var 3) (var 2)))) refl

side_left : (e : Edge) (q : Position) (w l h r : ℤ) → e.b.x -ℤ e.a.x ≡ neg_ℤ w → q.y -ℤ e.a.y ≡ h -ℤ l → e.b.y -ℤ e.a.y ≡ h → q.x -ℤ e.a.x ≡ r -ℤ w → side e.a e.b q ≡ l *ℤ w -ℤ r *ℤ h
side_left e q w l h r a b c d =
    side-is e.a e.b q ∙ (λ i. a i *ℤ b i -ℤ c i *ℤ d i)
    ∙ ring (w ∷ l ∷ h ∷ r ∷ []) (plus (times (neg (var 0)) (plus (var 2) (neg (var 1)))) (neg (times (var 2) (plus (var 3) (neg (var 0)))))) (plus (times (var 1) (var 0)) (neg (times (var 3) (var 2)))) refl

-- the numbers of a sample's row
pub record IsAcross (e : Edge) (p : Position) (c : ℤ) (r l h w : ℕ) : Type 0 where
  pub first : IsFirstPixel p.x (int_min e.a.x e.b.x) c
  pub sides : side e.a e.b (along p c) ≡ pos (l * w) -ℤ pos (r * h)

pub across_right : (e : Edge) (p : Position) (c : ℤ) (r l h w : ℕ) → e.a.x ≤ℤ e.b.x → (p.x +ℤ pos 256 *ℤ c) ≡ int_min e.a.x e.b.x +ℤ pos r → r < 256 → pos w ≡ e.b.x -ℤ e.a.x → pos h ≡ e.b.y -ℤ e.a.y → p.y -ℤ e.a.y ≡ pos l
    → IsAcross e p c r l h w
across_right e p c r l h w right place few width height length = record {
  first = record { reached = omega (arith, ints); first = omega (arith, ints) };
  sides = side_right e (along p c) (pos w) (pos l) (pos h) (pos r) (sym width) length (sym height) (omega (arith, ints, clamps));
}

pub across_left : (e : Edge) (p : Position) (c : ℤ) (r l h w : ℕ) → e.b.x <ℤ e.a.x → (p.x +ℤ pos 256 *ℤ c) ≡ int_min e.a.x e.b.x +ℤ pos r → r < 256 → pos w ≡ e.a.x -ℤ e.b.x → pos h ≡ e.b.y -ℤ e.a.y → p.y -ℤ e.a.y ≡ pos h -ℤ pos l
    → IsAcross e p c r l h w
across_left e p c r l h w left place few width height length = record {
  first = record { reached = omega (arith, ints); first = omega (arith, ints) };
  sides = side_left e (along p c) (pos w) (pos l) (pos h) (pos r) (omega (arith, ints)) length (sym height) (omega (arith, ints, clamps));
}

pub column_next : (e : Edge) (p : Position) (c : ℤ) (r l h w : ℕ) → IsShortEdge e → HasHeight e p.y → IsAcross e p c r l h w → r * h < l * w → IsFirstColumn e p (c +ℤ pos 1)
column_next e p c r l h w short height a less = next_column e p c short height a.first (over _ _ _ a.sides less)
  where
    over : (s : ℤ) (m n : ℕ) → s ≡ pos n -ℤ pos m → m < n → pos 0 <ℤ s
    over s m n e h = omega (arith, ints)

pub column_this : (e : Edge) (p : Position) (c : ℤ) (r l h w : ℕ) → HasHeight e p.y → IsAcross e p c r l h w → l * w ≤ r * h → IsFirstColumn e p c
column_this e p c r l h w height a more = this_column e p c height a.first (at_most _ _ _ a.sides more)
  where
    at_most : (s : ℤ) (m n : ℕ) → s ≡ pos n -ℤ pos m → n ≤ m → s ≤ℤ pos 0
    at_most s m n e h = omega (arith, ints)

-- the column of a sample, by the lane of its number
pub column_found : (e : Edge) (p : Position) (column : ℤ) (r l h w number n : ℕ) → IsShortEdge e → HasHeight e p.y → IsAcross e p (column +ℤ pos number) r l h w
    → (r * h < l * w → n ≡ number + 1) → (l * w ≤ r * h → n ≡ number) → IsFirstColumn e p (column +ℤ pos n)
column_found e p column r l h w number n short height a more same = elim (cases_lt (r * h) (l * w)) [
  | inl less ↦ let is = more less in let sum : (column +ℤ pos number) +ℤ pos 1 ≡ column +ℤ pos n = omega (arith, ints) in subst (IsFirstColumn e p) sum (column_next e p (column +ℤ pos number) r l h w short height a less)
  | inr at_least ↦ let is = same at_least in let sum : column +ℤ pos number ≡ column +ℤ pos n = omega (arith, ints) in subst (IsFirstColumn e p) sum (column_this e p (column +ℤ pos number) r l h w height a at_least)
]
