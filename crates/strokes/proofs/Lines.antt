-- The edge functions of lines, along segments and along rows of samples.
use Rattle.std.proofs.Common.{◌≡◌, ◌↔◌, inl, inr, refl, sym, subst, ap, ◌∙◌, arith, ℕ, zero, suc, ◌*◌, ◌^◌, ◌<◌, ◌≤◌, List, [], ◌∷◌, ℤ, pos, negsuc, ◌+ℤ◌, ◌-ℤ◌, ◌*ℤ◌, neg_ℤ, ◌≤ℤ◌, ◌<ℤ◌, Bool, FitsSigned, w64, to_z, of_z}
use Rattle.std.proofs.lemmas.Int.{ints, to_z-of_z}
use Rattle.std.proofs.lemmas.Bool.{cases_lt}
use Rattle.std.proofs.lemmas.Nat.{mul-le}
use Rattle.grid.specs.Bounds.{IsWithin}
use Rattle.grid.proofs.Bounds.{IsWithin-mul}
use Rattle.grid.specs.Position.{Position}
use Rattle.grid.specs.Edge.{side}
use Rattle.grid.proofs.Ring.{Term, var, lit, plus, neg, times, ring}
use Rattle.grid.proofs.Sign.{sign, negative, null, positive}
use Rattle.polygons.specs.Columns.{along}
use Rattle.strokes.specs.declared.line.Line.{Line}
use Rattle.strokes.specs.Border.{IsAtMost, IsWithinRoot, IsWithinHalf}
use Rattle.strokes.specs.Lines.{edge_function, IsOnSide}
use Rattle.strokes.specs.Segment.{dot}
use Rattle.strokes.proofs.Roots.{square_lt}

less : Term → Term → Term
less s t = plus s (neg t)

-- points a, b and p as variables 0 to 5
grown : Term → Term → Term
grown x y = plus (times x (less (var 4) (var 0))) (times y (less (var 5) (var 1)))

side_term : Term
side_term = less (times (less (var 2) (var 0)) (less (var 5) (var 1))) (times (less (var 3) (var 1)) (less (var 4) (var 0)))

dot_term : Term
dot_term = plus (times (less (var 2) (var 0)) (less (var 4) (var 0))) (times (less (var 3) (var 1)) (less (var 5) (var 1)))

abbrev points : Position → Position → Position → List ℤ
points a b p = a.x ∷ a.y ∷ b.x ∷ b.y ∷ p.x ∷ p.y ∷ []

pub backwards : (a b p : Position) → (a.x -ℤ b.x) *ℤ (p.x -ℤ a.x) +ℤ (a.y -ℤ b.y) *ℤ (p.y -ℤ a.y) ≡ neg_ℤ (dot a b p)
unfolding dot less grown dot_term
backwards a b p = ring (points a b p) (grown (less (var 0) (var 2)) (less (var 1) (var 3))) (neg dot_term) refl

pub forwards : (a b p : Position) → (b.x -ℤ a.x) *ℤ (p.x -ℤ a.x) +ℤ (b.y -ℤ a.y) *ℤ (p.y -ℤ a.y) ≡ dot a b p
unfolding dot
forwards a b p = refl

pub rightwards : (a b p : Position) → (a.y -ℤ b.y) *ℤ (p.x -ℤ a.x) +ℤ (b.x -ℤ a.x) *ℤ (p.y -ℤ a.y) ≡ side a b p
unfolding side less grown side_term
rightwards a b p = ring (points a b p) (grown (less (var 1) (var 3)) (less (var 2) (var 0))) side_term refl

pub leftwards : (a b p : Position) → (b.y -ℤ a.y) *ℤ (p.x -ℤ a.x) +ℤ (a.x -ℤ b.x) *ℤ (p.y -ℤ a.y) ≡ neg_ℤ (side a b p)
unfolding side less grown side_term
leftwards a b p = ring (points a b p) (grown (less (var 3) (var 1)) (less (var 0) (var 2))) (neg side_term) refl

-- the edge function by the fields of its line
pub function_by : (line : Line) (a p : Position) (x y : ℤ) → line.from ≡ a → line.x ≡ x → line.y ≡ y → edge_function line p ≡ x *ℤ (p.x -ℤ a.x) +ℤ y *ℤ (p.y -ℤ a.y)
unfolding edge_function
function_by line a p x y f g h = λ i. g i *ℤ (p.x -ℤ (f i).x) +ℤ h i *ℤ (p.y -ℤ (f i).y)

-- a line whose edge function has this value, with this bound
pub on_side : (line : Line) (p : Position) (f t : ℤ) (P : Type 0) → edge_function line p ≡ f → line.bound ≡ t → (f ≤ℤ t) ↔ P → IsOnSide line p ↔ P
on_side line p f t P e b h = (λ l. h.0 (subst (λ z. z ≤ℤ t) e (subst (λ z. edge_function line p ≤ℤ z) b l)), λ q. subst (λ z. edge_function line p ≤ℤ z) (sym b) (subst (λ z. z ≤ℤ t) (sym e) (h.1 q)))

-- ---- all points or none
pub no_growth : (x y : ℤ) → pos 0 *ℤ x +ℤ pos 0 *ℤ y ≡ pos 0
no_growth x y = ring (x ∷ y ∷ []) (plus (times (lit (pos 0)) (var 0)) (times (lit (pos 0)) (var 1))) (lit (pos 0)) refl

pub all_on_side : (line : Line) (p : Position) → line.x ≡ pos 0 → line.y ≡ pos 0 → pos 0 ≤ℤ line.bound → IsOnSide line p
all_on_side line p x y b = subst (λ z. z ≤ℤ line.bound) (sym (function_by line line.from p (pos 0) (pos 0) refl x y ∙ no_growth (p.x -ℤ line.from.x) (p.y -ℤ line.from.y))) b

pub none_on_side : (line : Line) (p : Position) → line.x ≡ pos 0 → line.y ≡ pos 0 → line.bound <ℤ pos 0 → IsOnSide line p → ⊥
none_on_side line p x y b h = let k : pos 0 ≤ℤ line.bound = subst (λ z. z ≤ℤ line.bound) (function_by line line.from p (pos 0) (pos 0) refl x y ∙ no_growth (p.x -ℤ line.from.x) (p.y -ℤ line.from.y)) h in omega (arith, ints, b, k)

-- ---- sizes of thresholds
pub at_most_size : (r bound : ℤ) (o : Bool) → ((f : ℤ) → (f ≤ℤ r) ↔ IsAtMost bound o f) → IsWithin (2 ^ 48) bound → IsWithin (2 ^ 50) r
at_most_size r bound o h k =
    let low : (bound -ℤ pos 1) ≤ℤ r = (h (bound -ℤ pos 1)).1 (inl (omega (arith, ints))) in
    let high : r ≤ℤ bound = elim ((h r).0 (omega (arith, ints))) [ inl l ↦ omega (arith, ints, l) | inr t ↦ omega (arith, ints, t.0) ] in
    record { low = omega (arith, ints, low, k.low, k.high); high = omega (arith, ints, high, k.low, k.high) }

small_root : (n m : ℕ) → 4 * (n * n) ≤ m → m ≤ 2 ^ 90 → n ≤ 2 ^ 45
small_root n m h k = elim (cases_lt (2 ^ 45) n) [
  | inr l ↦ l
  | inl l ↦ absurd (let s : 2 ^ 45 * 2 ^ 45 < n * n = square_lt (2 ^ 45) n l in omega (arith, s, h, k))
]

squares_within : (n m : ℕ) (o : Bool) → IsWithinRoot m o (pos n) → 4 * (n * n) ≤ m
squares_within n m o (inl l) = absurd (omega (arith, ints, l))
squares_within n m o (inr (inl l)) = omega (arith, ints, l)
squares_within n m o (inr (inr tie)) = let q = tie.0 in omega (arith, ints, q)

small_square : (w square : ℕ) → w ≤ 2 ^ 20 → square ≤ 2 ^ 50 → w * w * square ≤ 2 ^ 90
small_square w square small short =
    let widths : w * w ≤ 2 ^ 20 * 2 ^ 20 = mul-le w w (2 ^ 20) (2 ^ 20) small small in
    let most : w * w * square ≤ 2 ^ 20 * 2 ^ 20 * 2 ^ 50 = mul-le (w * w) square (2 ^ 20 * 2 ^ 20) (2 ^ 50) widths short in
    omega (arith, most)

pub half_size : (r : ℤ) (w square : ℕ) (o : Bool) → ((f : ℤ) → (f ≤ℤ r) ↔ IsWithinHalf w square o f) → w ≤ 2 ^ 20 → square ≤ 2 ^ 50 → IsWithin (2 ^ 50) r
half_size (negsuc n) w square o h small short =
    let low : negsuc zero ≤ℤ negsuc n = (h (negsuc zero)).1 (inl (omega (arith, ints))) in
    record { low = omega (arith, ints, low); high = omega (arith, ints) }
half_size (pos n) w square o h small short =
    let l : n ≤ 2 ^ 45 = small_root n (w * w * square) (squares_within n (w * w * square) o ((h (pos n)).0 (omega (arith, ints)))) (small_square w square small short) in
    record { low = omega (arith, ints); high = omega (arith, ints, l) }

-- ---- products of 64 bits
-- The product of two numbers, as the code forms it: it fits, it is exact, and it is bounded.
pub record IsProduct (x y u v : ℤ) (k : ℕ) : Type 0 where
  pub fits : FitsSigned w64 (to_z w64 (of_z w64 x) *ℤ to_z w64 (of_z w64 y))
  pub value : to_z w64 (of_z w64 (to_z w64 (of_z w64 x) *ℤ to_z w64 (of_z w64 y))) ≡ u *ℤ v
  pub size : IsWithin k (to_z w64 (of_z w64 (to_z w64 (of_z w64 x) *ℤ to_z w64 (of_z w64 y))))

pub product_of : (x y u v : ℤ) (m n k : ℕ) → x ≡ u → y ≡ v → IsWithin m u → IsWithin n v → m < 2 ^ 62 → n < 2 ^ 62 → m * n ≡ k → k < 2 ^ 62 → IsProduct x y u v k
product_of x y u v m n k e f h g small_m small_n is small =
    let fits_x : FitsSigned w64 x = omega (arith, ints) in
    let fits_y : FitsSigned w64 y = omega (arith, ints) in
    let same : x *ℤ y ≡ u *ℤ v = ap (λ z. z *ℤ y) e ∙ ap (λ z. u *ℤ z) f in
    let bound : IsWithin k (u *ℤ v) = subst (λ j. IsWithin j (u *ℤ v)) is (IsWithin-mul u v m n h g) in
    let fits : FitsSigned w64 (x *ℤ y) = rw same (omega (arith, ints)) in
    record { fits = simp to_z-of_z fits; value = simp to_z-of_z same; size = simp to_z-of_z (rw same bound) }

-- what a bound exceeds a sum of products, as the code forms it
pub rest_size : (b a l : ℤ) → IsWithin (2 ^ 50) b → IsWithin (2 ^ 49) a → IsWithin (2 ^ 49) l
    → IsWithin (2 ^ 52) (to_z w64 (of_z w64 (to_z w64 (of_z w64 b) -ℤ to_z w64 (of_z w64 (to_z w64 (of_z w64 a) +ℤ to_z w64 (of_z w64 l))))))
rest_size b a l h k m = record { low = omega (arith, ints); high = omega (arith, ints) }

-- ---- along a row
pub moved : (line : Line) (p : Position) (k : ℤ) → edge_function line (along p k) ≡ edge_function line p +ℤ pos 256 *ℤ (line.x *ℤ k)
unfolding edge_function less
moved line p k =
    ring (line.x ∷ line.y ∷ line.from.x ∷ line.from.y ∷ p.x ∷ p.y ∷ k ∷ [])
    (plus (times (var 0) (less (plus (var 4) (times (lit (pos 256)) (var 6))) (var 2))) (times (var 1) (less (var 5) (var 3))))
    (plus (plus (times (var 0) (less (var 4) (var 2))) (times (var 1) (less (var 5) (var 3)))) (times (lit (pos 256)) (times (var 0) (var 6)))) refl

-- the columns up to a quotient
difference_of : (by q k : ℤ) → by *ℤ (q -ℤ k) ≡ by *ℤ q -ℤ by *ℤ k
unfolding less
difference_of by q k = ring (by ∷ q ∷ k ∷ []) (times (var 0) (less (var 1) (var 2))) (less (times (var 0) (var 1)) (times (var 0) (var 2))) refl

times_256 : (by q : ℤ) → q *ℤ (pos 256 *ℤ by) ≡ pos 256 *ℤ (by *ℤ q)
times_256 by q = ring (by ∷ q ∷ []) (times (var 1) (times (lit (pos 256)) (var 0))) (times (lit (pos 256)) (times (var 0) (var 1))) refl

by_parts : (u v m by rest r : ℤ) → rest ≡ pos 256 *ℤ u +ℤ r → m ≡ u -ℤ v → pos 0 ≤ℤ r → pos 0 ≤ℤ m → (pos 256 *ℤ v) ≤ℤ rest
by_parts u v m by rest r e f h l = omega (arith, ints, e, f, h, l)

past_parts : (u v m by rest r : ℤ) → rest ≡ pos 256 *ℤ u +ℤ r → m ≡ u -ℤ v → r <ℤ (pos 256 *ℤ by) → m ≤ℤ neg_ℤ by → (pos 256 *ℤ v) ≤ℤ rest → ⊥
past_parts u v m by rest r e f h l k = omega (arith, ints, e, f, h, l, k)

-- a factor of at least 1 makes no number nearer to 0
no_less : (by m : ℤ) → pos 0 <ℤ by → m <ℤ pos 0 → (by *ℤ m) ≤ℤ neg_ℤ by
no_less (pos zero) m h l = absurd (omega (arith, ints))
no_less (pos (suc n)) (pos m) h l = absurd (omega (arith, ints))
no_less (pos (suc n)) (negsuc m) h l = omega (arith, ints)
no_less (negsuc n) m h l = absurd (omega (arith, ints))

not_less : (by m : ℤ) → pos 0 <ℤ by → pos 0 ≤ℤ m → pos 0 ≤ℤ (by *ℤ m)
not_less (pos n) (pos m) h l = omega (arith, ints)
not_less (pos n) (negsuc m) h l = absurd (omega (arith, ints))
not_less (negsuc n) m h l = absurd (omega (arith, ints))

pub up_to_quotient : (rest by q r : ℤ) → pos 0 <ℤ by → rest ≡ q *ℤ (pos 256 *ℤ by) +ℤ r → pos 0 ≤ℤ r → r <ℤ (pos 256 *ℤ by) → (k : ℤ) → ((pos 256 *ℤ (by *ℤ k)) ≤ℤ rest) ↔ (k ≤ℤ q)
up_to_quotient rest by q r h e low high k =
    let sum : rest ≡ pos 256 *ℤ (by *ℤ q) +ℤ r = e ∙ ap (λ z. z +ℤ r) (times_256 by q) in
    let d = difference_of by q k in (
      λ l. elim (sign (q -ℤ k)) [
        | negative m ↦ absurd (past_parts (by *ℤ q) (by *ℤ k) (by *ℤ (q -ℤ k)) by rest r sum d high (no_less by (q -ℤ k) h m) l)
        | null m ↦ omega (arith, ints, m)
        | positive m ↦ omega (arith, ints, m)
      ],
      λ l. by_parts (by *ℤ q) (by *ℤ k) (by *ℤ (q -ℤ k)) by rest r sum d low (not_less by (q -ℤ k) h (omega (arith, ints, l))),
    )

-- ---- the columns on a side of a line, by what its bound exceeds the edge function in column 0
beside : (b f g rest : ℤ) → rest ≡ b -ℤ f → ((f +ℤ g) ≤ℤ b) ↔ (g ≤ℤ rest)
beside b f g rest e = (λ l. omega (arith, ints, e, l), λ l. omega (arith, ints, e, l))

pub on_side_by : (line : Line) (p : Position) (rest : ℤ) → rest ≡ line.bound -ℤ edge_function line p → (k : ℤ) → IsOnSide line (along p k) ↔ ((pos 256 *ℤ (line.x *ℤ k)) ≤ℤ rest)
on_side_by line p rest e k =
    let m = moved line p k in
    let s = beside line.bound (edge_function line p) (pos 256 *ℤ (line.x *ℤ k)) rest e in
    (λ l. s.0 (subst (λ z. z ≤ℤ line.bound) m l), λ l. subst (λ z. z ≤ℤ line.bound) (sym m) (s.1 l))

pub rightmost : (line : Line) (p : Position) (rest by last : ℤ) → rest ≡ line.bound -ℤ edge_function line p → line.x ≡ by
    → ((k : ℤ) → ((pos 256 *ℤ (by *ℤ k)) ≤ℤ rest) ↔ (k ≤ℤ last)) → (k : ℤ) → IsOnSide line (along p k) ↔ (k ≤ℤ last)
rightmost line p rest by last e x h k =
    let s = on_side_by line p rest e k in
    let t = h k in
    (λ l. t.0 (subst (λ z. (pos 256 *ℤ (z *ℤ k)) ≤ℤ rest) x (s.0 l)), λ l. s.1 (subst (λ z. (pos 256 *ℤ (z *ℤ k)) ≤ℤ rest) (sym x) (t.1 l)))

turned : (by k : ℤ) → by *ℤ neg_ℤ k ≡ neg_ℤ by *ℤ k
turned by k = ring (by ∷ k ∷ []) (times (var 0) (neg (var 1))) (times (neg (var 0)) (var 1)) refl

pub leftmost : (line : Line) (p : Position) (rest by last : ℤ) → rest ≡ line.bound -ℤ edge_function line p → line.x ≡ neg_ℤ by
    → ((k : ℤ) → ((pos 256 *ℤ (by *ℤ k)) ≤ℤ rest) ↔ (k ≤ℤ last)) → (k : ℤ) → IsOnSide line (along p k) ↔ (neg_ℤ last ≤ℤ k)
leftmost line p rest by last e x h k =
    let s = on_side_by line p rest e k in
    let t = h (neg_ℤ k) in
    let same : by *ℤ neg_ℤ k ≡ line.x *ℤ k = turned by k ∙ ap (λ z. z *ℤ k) (sym x) in (
      λ l. let d : neg_ℤ k ≤ℤ last = t.0 (subst (λ z. (pos 256 *ℤ z) ≤ℤ rest) (sym same) (s.0 l)) in omega (arith, ints, d),
      λ l. s.1 (subst (λ z. (pos 256 *ℤ z) ≤ℤ rest) same (t.1 (omega (arith, ints, l)))),
    )

still : (k : ℤ) → pos 256 *ℤ (pos 0 *ℤ k) ≡ pos 0
still k = ring (k ∷ []) (times (lit (pos 256)) (times (lit (pos 0)) (var 0))) (lit (pos 0)) refl

pub level : (line : Line) (p : Position) (rest : ℤ) → rest ≡ line.bound -ℤ edge_function line p → line.x ≡ pos 0 → (k : ℤ) → IsOnSide line (along p k) ↔ (pos 0 ≤ℤ rest)
level line p rest e x k =
    let s = on_side_by line p rest e k in
    let z : pos 256 *ℤ (line.x *ℤ k) ≡ pos 0 = ap (λ y. pos 256 *ℤ (y *ℤ k)) x ∙ still k in
    (λ l. subst (λ y. y ≤ℤ rest) z (s.0 l), λ l. s.1 (subst (λ y. y ≤ℤ rest) (sym z) l))

-- ---- sides of squares
by_x : Term → Term
by_x k = plus (times k (var 0)) (times (lit (pos 0)) (var 1))

by_y : Term → Term
by_y k = plus (times (lit (pos 0)) (var 0)) (times k (var 1))

back_x : (x y : ℤ) → negsuc 1 *ℤ x +ℤ pos 0 *ℤ y ≡ neg_ℤ (pos 2 *ℤ x)
unfolding by_x
back_x x y = ring (x ∷ y ∷ []) (by_x (lit (negsuc 1))) (neg (times (lit (pos 2)) (var 0))) refl

on_x : (x y : ℤ) → pos 2 *ℤ x +ℤ pos 0 *ℤ y ≡ pos 2 *ℤ x
unfolding by_x
on_x x y = ring (x ∷ y ∷ []) (by_x (lit (pos 2))) (times (lit (pos 2)) (var 0)) refl

back_y : (x y : ℤ) → pos 0 *ℤ x +ℤ negsuc 1 *ℤ y ≡ neg_ℤ (pos 2 *ℤ y)
unfolding by_y
back_y x y = ring (x ∷ y ∷ []) (by_y (lit (negsuc 1))) (neg (times (lit (pos 2)) (var 1))) refl

on_y : (x y : ℤ) → pos 0 *ℤ x +ℤ pos 2 *ℤ y ≡ pos 2 *ℤ y
unfolding by_y
on_y x y = ring (x ∷ y ∷ []) (by_y (lit (pos 2))) (times (lit (pos 2)) (var 1)) refl

at_least : (z w : ℤ) → (neg_ℤ z ≤ℤ w) ↔ (neg_ℤ w ≤ℤ z)
at_least z w = (λ l. omega (arith, ints, l), λ l. omega (arith, ints, l))

below_one : (z w : ℤ) → (z ≤ℤ (w -ℤ pos 1)) ↔ (z <ℤ w)
below_one z w = (λ l. omega (arith, ints, l), λ l. omega (arith, ints, l))

module _ (line : Line) (c p : Position) (w : ℤ) (from : line.from ≡ c) where
  pub left_side : line.x ≡ negsuc 1 → line.y ≡ pos 0 → line.bound ≡ w → IsOnSide line p ↔ (neg_ℤ w ≤ℤ (pos 2 *ℤ (p.x -ℤ c.x)))
  left_side x y b = on_side line p (neg_ℤ (pos 2 *ℤ (p.x -ℤ c.x))) w _ (function_by line c p (negsuc 1) (pos 0) from x y ∙ back_x (p.x -ℤ c.x) (p.y -ℤ c.y)) b (at_least (pos 2 *ℤ (p.x -ℤ c.x)) w)

  pub right_side : line.x ≡ pos 2 → line.y ≡ pos 0 → line.bound ≡ w -ℤ pos 1 → IsOnSide line p ↔ ((pos 2 *ℤ (p.x -ℤ c.x)) <ℤ w)
  right_side x y b = on_side line p (pos 2 *ℤ (p.x -ℤ c.x)) (w -ℤ pos 1) _ (function_by line c p (pos 2) (pos 0) from x y ∙ on_x (p.x -ℤ c.x) (p.y -ℤ c.y)) b (below_one (pos 2 *ℤ (p.x -ℤ c.x)) w)

  pub top_side : line.x ≡ pos 0 → line.y ≡ negsuc 1 → line.bound ≡ w → IsOnSide line p ↔ (neg_ℤ w ≤ℤ (pos 2 *ℤ (p.y -ℤ c.y)))
  top_side x y b = on_side line p (neg_ℤ (pos 2 *ℤ (p.y -ℤ c.y))) w _ (function_by line c p (pos 0) (negsuc 1) from x y ∙ back_y (p.x -ℤ c.x) (p.y -ℤ c.y)) b (at_least (pos 2 *ℤ (p.y -ℤ c.y)) w)

  pub bottom_side : line.x ≡ pos 0 → line.y ≡ pos 2 → line.bound ≡ w -ℤ pos 1 → IsOnSide line p ↔ ((pos 2 *ℤ (p.y -ℤ c.y)) <ℤ w)
  bottom_side x y b = on_side line p (pos 2 *ℤ (p.y -ℤ c.y)) (w -ℤ pos 1) _ (function_by line c p (pos 0) (pos 2) from x y ∙ on_y (p.x -ℤ c.x) (p.y -ℤ c.y)) b (below_one (pos 2 *ℤ (p.y -ℤ c.y)) w)
