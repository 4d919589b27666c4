-- The edges of a triangle are crossed as the top-left rule says: an odd number of times, and more often one way than the other, at
-- the points that the triangle covers and nowhere else.
use Rattle.std.proofs.Common.{◌≡◌, ◌≢◌, ◌⊎◌, ◌↔◌, inl, inr, refl, sym, ◌∙◌, arith, ℕ, ◌+◌, ◌*◌, Bool, true, false, cond, [], ◌∷◌, ℤ, pos, negsuc, neg_ℤ, ◌+ℤ◌, ◌-ℤ◌, ◌*ℤ◌, ◌<ℤ◌, ◌≤ℤ◌}
use Rattle.std.proofs.lemmas.Int.{ints, clamps}
use Rattle.grid.specs.Position.{Position}
use Rattle.grid.specs.Edge.{side, PassesEdge}
use Rattle.grid.specs.Triangle.{Covers}
use Rattle.grid.proofs.Ring.{Term, var, plus, neg, times, ring}
use Rattle.grid.proofs.Sign.{negative, null, positive, sign, mul_positive, mul_negative, mul_apart, mul_apart', mul_null}
use Rattle.grid.proofs.Rule.{horizontal, passes_positive, passes_negative, passes_null, falling, rising}
use Rattle.grid.proofs.Identities.{side-turn}
use Rattle.grid.proofs.Between.{covered_between_y}
use Rattle.polygons.specs.declared.edge.Edge.{Edge}
use Rattle.polygons.specs.declared.rule.Rule.{Rule}
use Rattle.polygons.specs.declared.rule.Rule.TheVariants.{EvenOdd, NonZero}
use Rattle.polygons.specs.Crossing.{is_crossed_down, is_crossed_up}
use Rattle.polygons.specs.Polygon.{PolygonCovers}
use Rattle.polygons.proofs.Tests.{down_yes, down_above, down_below, down_left, up_yes, up_above, up_below, up_left}
use Rattle.polygons.proofs.Passes.{right_falling, right_rising, left_falling, left_rising}

-- ---- two identities of the three sides at p
pub at_most_or_over : (x : ℤ) → (x ≤ℤ pos 0) ⊎ (pos 0 <ℤ x)
at_most_or_over x = elim (sign x) [ negative h ↦ inl (omega (arith, ints)) | null h ↦ inl (omega (arith, ints)) | positive h ↦ inr h ]

pub under_or_at_least : (x : ℤ) → (x <ℤ pos 0) ⊎ (pos 0 ≤ℤ x)
under_or_at_least x = elim (sign x) [ negative h ↦ inl h | null h ↦ inr (omega (arith, ints)) | positive h ↦ inr (omega (arith, ints)) ]

pub above_or_not : (x y : ℤ) → (x <ℤ y) ⊎ (y ≤ℤ x)
above_or_not x y = elim (at_most_or_over (y +ℤ neg_ℤ x)) [ inl h ↦ inr (omega (arith, ints)) | inr h ↦ inl (omega (arith, ints)) ]

less : Term → Term → Term
less s t = plus s (neg t)

x_of : ℕ → Term
x_of n = var (2 * n)

y_of : ℕ → Term
y_of n = var (2 * n + 1)

side_of : ℕ → ℕ → ℕ → Term
side_of a b p = less (times (less (x_of b) (x_of a)) (less (y_of p) (y_of a))) (times (less (y_of b) (y_of a)) (less (x_of p) (x_of a)))

-- the height of p below the vertex a, by the sides at p
pub below_vertex : (a b c p : Position) → side a b c *ℤ (p.y -ℤ a.y) ≡ side c a p *ℤ (b.y -ℤ a.y) +ℤ side a b p *ℤ (c.y -ℤ a.y)
unfolding side less x_of y_of side_of
below_vertex a b c p =
    ring (a.x ∷ a.y ∷ b.x ∷ b.y ∷ c.x ∷ c.y ∷ p.x ∷ p.y ∷ [])
    (times (side_of 0 1 2) (less (y_of 3) (y_of 0)))
    (plus (times (side_of 2 0 3) (less (y_of 1) (y_of 0))) (times (side_of 0 1 3) (less (y_of 2) (y_of 0)))) refl

-- the sides as weights of the heights
pub heights_weighted : (a b c p : Position) → side b c p *ℤ (p.y -ℤ a.y) ≡ side c a p *ℤ (b.y -ℤ p.y) +ℤ side a b p *ℤ (c.y -ℤ p.y)
unfolding side less x_of y_of side_of
heights_weighted a b c p =
    ring (a.x ∷ a.y ∷ b.x ∷ b.y ∷ c.x ∷ c.y ∷ p.x ∷ p.y ∷ [])
    (times (side_of 1 2 3) (less (y_of 3) (y_of 0)))
    (plus (times (side_of 2 0 3) (less (y_of 1) (y_of 3))) (times (side_of 0 1 3) (less (y_of 2) (y_of 3)))) refl

-- ---- signs of products
pub mul_not_negative : (x y : ℤ) → pos 0 ≤ℤ x → pos 0 ≤ℤ y → pos 0 ≤ℤ (x *ℤ y)
mul_not_negative (pos m) (pos n) h k = omega (arith, ints)
mul_not_negative (pos m) (negsuc n) h k = absurd (omega (arith, ints))
mul_not_negative (negsuc m) y h k = absurd (omega (arith, ints))

pub mul_not_positive : (x y : ℤ) → x ≤ℤ pos 0 → pos 0 ≤ℤ y → (x *ℤ y) ≤ℤ pos 0
mul_not_positive x y h k =
    elim (sign x) [
      | negative l ↦ elim (sign y) [
        | negative m ↦ absurd (omega (arith, ints))
        | null m ↦ let e = mul_null x y m in omega (arith, ints)
        | positive m ↦ let e = mul_apart' x y l m in omega (arith, ints)
      ]
      | null l ↦ rw l (omega (arith, ints))
      | positive l ↦ absurd (omega (arith, ints))
    ]

-- one sum of two products, each of a side and a positive height
no_left : (s k x m y n : ℤ) → s *ℤ k ≡ x *ℤ m +ℤ y *ℤ n → pos 0 ≤ℤ s → pos 0 ≤ℤ k → pos 0 <ℤ m → pos 0 <ℤ n → x <ℤ pos 0 → y ≤ℤ pos 0 → ⊥
no_left s k x m y n e hs hk hm hn hx hy =
    let a = mul_not_negative s k hs hk in
    let b = mul_apart' x m hx hm in
    let c = mul_not_positive y n hy (omega (arith, ints)) in
    omega (arith, ints)

no_right : (s k x m y n : ℤ) → s *ℤ k ≡ x *ℤ m +ℤ y *ℤ n → s ≤ℤ pos 0 → pos 0 ≤ℤ k → pos 0 <ℤ m → pos 0 <ℤ n → pos 0 ≤ℤ x → pos 0 <ℤ y → ⊥
no_right s k x m y n e hs hk hm hn hx hy =
    let a = mul_not_positive s k hs hk in
    let b = mul_not_negative x m hx (omega (arith, ints)) in
    let c = mul_positive y n hy hn in
    omega (arith, ints)

pub above_vertex : (a b c p : Position) → side a b c *ℤ (a.y -ℤ p.y) ≡ side a b p *ℤ (a.y -ℤ c.y) +ℤ side c a p *ℤ (a.y -ℤ b.y)
unfolding side less x_of y_of side_of
above_vertex a b c p =
    ring (a.x ∷ a.y ∷ b.x ∷ b.y ∷ c.x ∷ c.y ∷ p.x ∷ p.y ∷ [])
    (times (side_of 0 1 2) (less (y_of 0) (y_of 3)))
    (plus (times (side_of 0 1 3) (less (y_of 0) (y_of 2))) (times (side_of 2 0 3) (less (y_of 0) (y_of 1)))) refl

pub heights_weighted_up : (a b c p : Position) → side b c p *ℤ (a.y -ℤ p.y) ≡ side c a p *ℤ (p.y -ℤ b.y) +ℤ side a b p *ℤ (p.y -ℤ c.y)
unfolding side less x_of y_of side_of
heights_weighted_up a b c p =
    ring (a.x ∷ a.y ∷ b.x ∷ b.y ∷ c.x ∷ c.y ∷ p.x ∷ p.y ∷ [])
    (times (side_of 1 2 3) (less (y_of 0) (y_of 3)))
    (plus (times (side_of 2 0 3) (less (y_of 3) (y_of 1))) (times (side_of 0 1 3) (less (y_of 3) (y_of 2)))) refl

-- ---- the third edge of a triangle is passed with the other two
area_bca : (a b c : Position) → pos 0 <ℤ side a b c → pos 0 <ℤ side b c a
area_bca a b c h = rw side-turn h

area_cab : (a b c : Position) → pos 0 <ℤ side a b c → pos 0 <ℤ side c a b
area_cab a b c h = rw (← side-turn c a b) h

left_bca : (a b c : Position) → side a b c <ℤ pos 0 → side b c a <ℤ pos 0
left_bca a b c h = rw side-turn h

left_cab : (a b c : Position) → side a b c <ℤ pos 0 → side c a b <ℤ pos 0
left_cab a b c h = rw (← side-turn c a b) h

-- p is below the vertex a, and above the others
third_below_right : (a b c p : Position) → pos 0 <ℤ side a b c → a.y ≤ℤ p.y → p.y <ℤ b.y → p.y <ℤ c.y → pos 0 ≤ℤ side c a p → pos 0 <ℤ side a b p → PassesEdge b c a p
third_below_right a b c p area ha hb hc hx hy =
    let e = heights_weighted a b c p in
    let m = mul_not_negative (side c a p) (b.y -ℤ p.y) hx (omega (arith, ints)) in
    let n = mul_positive (side a b p) (c.y -ℤ p.y) hy (omega (arith, ints)) in
    elim (at_most_or_over (side b c p)) [
      | inl k ↦ absurd (let l = mul_not_positive (side b c p) (p.y -ℤ a.y) k (omega (arith, ints)) in omega (arith, ints))
      | inr k ↦ (passes_positive b c a p k).0 (area_bca a b c area)
    ]

third_below_left : (a b c p : Position) → side a b c <ℤ pos 0 → a.y ≤ℤ p.y → p.y <ℤ b.y → p.y <ℤ c.y → side c a p <ℤ pos 0 → side a b p ≤ℤ pos 0 → PassesEdge b c a p
third_below_left a b c p area ha hb hc hx hy =
    let e = heights_weighted a b c p in
    let m = mul_apart' (side c a p) (b.y -ℤ p.y) hx (omega (arith, ints)) in
    let n = mul_not_positive (side a b p) (c.y -ℤ p.y) hy (omega (arith, ints)) in
    elim (under_or_at_least (side b c p)) [
      | inl k ↦ (passes_negative b c a p k).0 (left_bca a b c area)
      | inr k ↦ absurd (let l = mul_not_negative (side b c p) (p.y -ℤ a.y) k (omega (arith, ints)) in omega (arith, ints))
    ]

-- p is above the vertex a, and not above the others
third_above_right : (a b c p : Position) → pos 0 <ℤ side a b c → p.y <ℤ a.y → b.y ≤ℤ p.y → c.y ≤ℤ p.y → pos 0 ≤ℤ side a b p → pos 0 <ℤ side c a p → PassesEdge b c a p
third_above_right a b c p area ha hb hc hx hy =
    let e = heights_weighted_up a b c p in
    let m = mul_not_negative (side c a p) (p.y -ℤ b.y) (omega (arith, ints)) (omega (arith, ints)) in
    let n = mul_not_negative (side a b p) (p.y -ℤ c.y) hx (omega (arith, ints)) in
    elim (sign (side b c p)) [
      | negative k ↦ absurd (let l = mul_apart' (side b c p) (a.y -ℤ p.y) k (omega (arith, ints)) in omega (arith, ints))
      | null k ↦
          let l : side b c p *ℤ (a.y -ℤ p.y) ≡ pos 0 = rw k (omega (arith, ints)) in
          elim (sign (p.y -ℤ b.y)) [
            | negative o ↦ absurd (omega (arith, ints))
            | null o ↦ elim (sign (b.y -ℤ c.y)) [
              | negative q ↦ absurd (omega (arith, ints))
              | null q ↦ (passes_null b c a p k).0 ((horizontal b c a (omega (arith, ints))).0 (omega (arith, ints)))
              | positive q ↦ (passes_null b c a p k).0 ((rising b c a (omega (arith, ints))).0 (area_bca a b c area))
            ]
            | positive o ↦ absurd (let q = mul_positive (side c a p) (p.y -ℤ b.y) hy o in omega (arith, ints))
          ]
      | positive k ↦ (passes_positive b c a p k).0 (area_bca a b c area)
    ]

third_above_left : (a b c p : Position) → side a b c <ℤ pos 0 → p.y <ℤ a.y → b.y ≤ℤ p.y → c.y ≤ℤ p.y → side a b p <ℤ pos 0 → side c a p ≤ℤ pos 0 → PassesEdge b c a p
third_above_left a b c p area ha hb hc hx hy =
    let e = heights_weighted_up a b c p in
    let m = mul_not_positive (side c a p) (p.y -ℤ b.y) hy (omega (arith, ints)) in
    let n = mul_not_positive (side a b p) (p.y -ℤ c.y) (omega (arith, ints)) (omega (arith, ints)) in
    elim (sign (side b c p)) [
      | negative k ↦ (passes_negative b c a p k).0 (left_bca a b c area)
      | null k ↦
          let l : side b c p *ℤ (a.y -ℤ p.y) ≡ pos 0 = rw k (omega (arith, ints)) in
          elim (sign (p.y -ℤ c.y)) [
            | negative o ↦ absurd (omega (arith, ints))
            | null o ↦ elim (sign (c.y -ℤ b.y)) [
              | negative q ↦ absurd (omega (arith, ints))
              | null q ↦ (passes_null b c a p k).0 ((horizontal b c a (omega (arith, ints))).0 (omega (arith, ints)))
              | positive q ↦ (passes_null b c a p k).0 ((falling b c a (omega (arith, ints))).0 (left_bca a b c area))
            ]
            | positive o ↦ absurd (let q = mul_apart' (side a b p) (p.y -ℤ c.y) hx o in omega (arith, ints))
          ]
      | positive k ↦ absurd (let l = mul_positive (side b c p) (a.y -ℤ p.y) k (omega (arith, ints)) in omega (arith, ints))
    ]

-- ---- how often the three edges are crossed
abbrev pub counted : Bool → Bool → Bool → ℕ
counted x y z = ((0 + cond x 1 0) + cond y 1 0) + cond z 1 0

abbrev pub down_count : Position → Position → Position → Position → ℕ
down_count a b c p =
    counted (is_crossed_down (record { a = a; b = b }) p) (is_crossed_down (record { a = b; b = c }) p) (is_crossed_down (record { a = c; b = a }) p)

abbrev pub up_count : Position → Position → Position → Position → ℕ
up_count a b c p =
    counted (is_crossed_up (record { a = a; b = b }) p) (is_crossed_up (record { a = b; b = c }) p) (is_crossed_up (record { a = c; b = a }) p)

-- covered, and crossed once, upwards or downwards; or not covered, and crossed as often upwards as downwards
pub data Verdict (a b c p : Position) (downs ups : ℕ) : Type 0 where
  upwards : Covers a b c p → downs ≡ 0 → ups ≡ 1 → Verdict a b c p downs ups
  downwards : Covers a b c p → downs ≡ 1 → ups ≡ 0 → Verdict a b c p downs ups
  outside : (Covers a b c p → ⊥) → downs ≡ ups → Verdict a b c p downs ups

are : (x y z x' y' z' : Bool) → x ≡ x' → y ≡ y' → z ≡ z' → counted x y z ≡ counted x' y' z'
are x y z x' y' z' e f g = λ i. counted (e i) (f i) (g i)

nonzero_right : (s : ℤ) → pos 0 <ℤ s → s ≢ pos 0
nonzero_right s h e = omega (arith, ints)

nonzero_left : (s : ℤ) → s <ℤ pos 0 → s ≢ pos 0
nonzero_left s h e = omega (arith, ints)

-- p is below the vertex a, and above the others: ab runs downwards past p, and ca upwards
below_one : (a b c p : Position) → a.y ≤ℤ p.y → p.y <ℤ b.y → p.y <ℤ c.y → Verdict a b c p (down_count a b c p) (up_count a b c p)
below_one a b c p ha hb hc =
    let ab : Edge = record { a = a; b = b } in
    let bc : Edge = record { a = b; b = c } in
    let ca : Edge = record { a = c; b = a } in
    let e = below_vertex a b c p in
    let down_bc = down_above bc p hb in
    let down_ca = down_above ca p hc in
    let up_ab = up_below ab p ha in
    let up_bc = up_above bc p hc in
    let fall : a.y <ℤ b.y = omega (arith, ints) in
    let rise : a.y <ℤ c.y = omega (arith, ints) in
    elim (at_most_or_over (side a b p)) [
      | inl y ↦
          let down_ab = down_yes ab p ha hb y in
          elim (under_or_at_least (side c a p)) [
            | inl x ↦
                let up_ca = up_left ca p x in
                elim (sign (side a b c)) [
                  | negative s ↦
                      downwards (record {
                        area = nonzero_left _ s;
                        edge_ab = (left_falling a b c p s fall).1 y;
                        edge_bc = third_below_left a b c p s ha hb hc x y;
                        edge_ca = (left_rising c a b p (left_cab a b c s) rise).1 x;
                      }) (are _ _ _ true false false down_ab down_bc down_ca) (are _ _ _ false false false up_ab up_bc up_ca)
                  | null s ↦
                      absurd (no_left (side a b c) (p.y -ℤ a.y) (side c a p) (b.y -ℤ a.y) (side a b p) (c.y -ℤ a.y) e (omega (arith, ints)) (omega (arith, ints)) (omega (arith, ints)) (omega (arith, ints)) x y)
                  | positive s ↦
                      absurd (no_left (side a b c) (p.y -ℤ a.y) (side c a p) (b.y -ℤ a.y) (side a b p) (c.y -ℤ a.y) e (omega (arith, ints)) (omega (arith, ints)) (omega (arith, ints)) (omega (arith, ints)) x y)
                ]
            | inr x ↦
                let up_ca = up_yes ca p ha hc x in
                outside (λ h. elim (sign (side a b c)) [
                  | negative s ↦ let k = (left_rising c a b p (left_cab a b c s) rise).0 h.edge_ca in omega (arith, ints)
                  | null s ↦ h.area s
                  | positive s ↦ let k = (right_falling a b c p s fall).0 h.edge_ab in omega (arith, ints)
                ]) (are _ _ _ true false false down_ab down_bc down_ca ∙ sym (are _ _ _ false false true up_ab up_bc up_ca))
          ]
      | inr y ↦
          let down_ab = down_left ab p y in
          elim (under_or_at_least (side c a p)) [
            | inl x ↦
                let up_ca = up_left ca p x in
                outside (λ h. elim (sign (side a b c)) [
                  | negative s ↦ let k = (left_falling a b c p s fall).0 h.edge_ab in omega (arith, ints)
                  | null s ↦ h.area s
                  | positive s ↦ let k = (right_rising c a b p (area_cab a b c s) rise).0 h.edge_ca in omega (arith, ints)
                ]) (are _ _ _ false false false down_ab down_bc down_ca ∙ sym (are _ _ _ false false false up_ab up_bc up_ca))
            | inr x ↦
                let up_ca = up_yes ca p ha hc x in
                elim (sign (side a b c)) [
                  | negative s ↦
                      absurd (no_right (side a b c) (p.y -ℤ a.y) (side c a p) (b.y -ℤ a.y) (side a b p) (c.y -ℤ a.y) e (omega (arith, ints)) (omega (arith, ints)) (omega (arith, ints)) (omega (arith, ints)) x y)
                  | null s ↦
                      absurd (no_right (side a b c) (p.y -ℤ a.y) (side c a p) (b.y -ℤ a.y) (side a b p) (c.y -ℤ a.y) e (omega (arith, ints)) (omega (arith, ints)) (omega (arith, ints)) (omega (arith, ints)) x y)
                  | positive s ↦
                      upwards (record {
                        area = nonzero_right _ s;
                        edge_ab = (right_falling a b c p s fall).1 y;
                        edge_bc = third_below_right a b c p s ha hb hc x y;
                        edge_ca = (right_rising c a b p (area_cab a b c s) rise).1 x;
                      }) (are _ _ _ false false false down_ab down_bc down_ca) (are _ _ _ false false true up_ab up_bc up_ca)
                ]
          ]
    ]

-- p is above the vertex a, and not above the others: ca runs downwards past p, and ab upwards
above_one : (a b c p : Position) → p.y <ℤ a.y → b.y ≤ℤ p.y → c.y ≤ℤ p.y → Verdict a b c p (down_count a b c p) (up_count a b c p)
above_one a b c p ha hb hc =
    let ab : Edge = record { a = a; b = b } in
    let bc : Edge = record { a = b; b = c } in
    let ca : Edge = record { a = c; b = a } in
    let e = above_vertex a b c p in
    let down_ab = down_above ab p ha in
    let down_bc = down_below bc p hc in
    let up_bc = up_below bc p hb in
    let up_ca = up_below ca p hc in
    let fall : c.y <ℤ a.y = omega (arith, ints) in
    let rise : b.y <ℤ a.y = omega (arith, ints) in
    elim (at_most_or_over (side c a p)) [
      | inl y ↦
          let down_ca = down_yes ca p hc ha y in
          elim (under_or_at_least (side a b p)) [
            | inl x ↦
                let up_ab = up_left ab p x in
                elim (sign (side a b c)) [
                  | negative s ↦
                      downwards (record {
                        area = nonzero_left _ s;
                        edge_ab = (left_rising a b c p s rise).1 x;
                        edge_bc = third_above_left a b c p s ha hb hc x y;
                        edge_ca = (left_falling c a b p (left_cab a b c s) fall).1 y;
                      }) (are _ _ _ false false true down_ab down_bc down_ca) (are _ _ _ false false false up_ab up_bc up_ca)
                  | null s ↦
                      absurd (no_left (side a b c) (a.y -ℤ p.y) (side a b p) (a.y -ℤ c.y) (side c a p) (a.y -ℤ b.y) e (omega (arith, ints)) (omega (arith, ints)) (omega (arith, ints)) (omega (arith, ints)) x y)
                  | positive s ↦
                      absurd (no_left (side a b c) (a.y -ℤ p.y) (side a b p) (a.y -ℤ c.y) (side c a p) (a.y -ℤ b.y) e (omega (arith, ints)) (omega (arith, ints)) (omega (arith, ints)) (omega (arith, ints)) x y)
                ]
            | inr x ↦
                let up_ab = up_yes ab p hb ha x in
                outside (λ h. elim (sign (side a b c)) [
                  | negative s ↦ let k = (left_rising a b c p s rise).0 h.edge_ab in omega (arith, ints)
                  | null s ↦ h.area s
                  | positive s ↦ let k = (right_falling c a b p (area_cab a b c s) fall).0 h.edge_ca in omega (arith, ints)
                ]) (are _ _ _ false false true down_ab down_bc down_ca ∙ sym (are _ _ _ true false false up_ab up_bc up_ca))
          ]
      | inr y ↦
          let down_ca = down_left ca p y in
          elim (under_or_at_least (side a b p)) [
            | inl x ↦
                let up_ab = up_left ab p x in
                outside (λ h. elim (sign (side a b c)) [
                  | negative s ↦ let k = (left_falling c a b p (left_cab a b c s) fall).0 h.edge_ca in omega (arith, ints)
                  | null s ↦ h.area s
                  | positive s ↦ let k = (right_rising a b c p s rise).0 h.edge_ab in omega (arith, ints)
                ]) (are _ _ _ false false false down_ab down_bc down_ca ∙ sym (are _ _ _ false false false up_ab up_bc up_ca))
            | inr x ↦
                let up_ab = up_yes ab p hb ha x in
                elim (sign (side a b c)) [
                  | negative s ↦
                      absurd (no_right (side a b c) (a.y -ℤ p.y) (side a b p) (a.y -ℤ c.y) (side c a p) (a.y -ℤ b.y) e (omega (arith, ints)) (omega (arith, ints)) (omega (arith, ints)) (omega (arith, ints)) x y)
                  | null s ↦
                      absurd (no_right (side a b c) (a.y -ℤ p.y) (side a b p) (a.y -ℤ c.y) (side c a p) (a.y -ℤ b.y) e (omega (arith, ints)) (omega (arith, ints)) (omega (arith, ints)) (omega (arith, ints)) x y)
                  | positive s ↦
                      upwards (record {
                        area = nonzero_right _ s;
                        edge_ab = (right_rising a b c p s rise).1 x;
                        edge_bc = third_above_right a b c p s ha hb hc x y;
                        edge_ca = (right_falling c a b p (area_cab a b c s) fall).1 y;
                      }) (are _ _ _ false false false down_ab down_bc down_ca) (are _ _ _ true false false up_ab up_bc up_ca)
                ]
          ]
    ]

-- ---- p is above all vertices, or not above any
covers_turned : (a b c p : Position) → Covers a b c p → Covers b c a p
covers_turned a b c p h =
    record { area = λ e. h.area (let k = side-turn a b c in omega (arith, ints)); edge_ab = h.edge_bc; edge_bc = h.edge_ca; edge_ca = h.edge_ab }

above_all : (a b c p : Position) → p.y <ℤ a.y → p.y <ℤ b.y → p.y <ℤ c.y → Covers a b c p → ⊥
above_all a b c p ha hb hc h = let k = (covered_between_y a b c p h).low in omega (arith, ints, clamps)

factor : (x y : ℤ) → x *ℤ y ≡ pos 0 → y <ℤ pos 0 → x ≡ pos 0
factor x y h k =
    elim (sign x) [
      | negative l ↦ absurd (let m = mul_negative x y l k in omega (arith, ints))
      | null l ↦ l
      | positive l ↦ absurd (let m = mul_apart x y l k in omega (arith, ints))
    ]

mul_not_negative' : (x y : ℤ) → x ≤ℤ pos 0 → y <ℤ pos 0 → pos 0 ≤ℤ (x *ℤ y)
mul_not_negative' x y h k =
    elim (sign x) [
      | negative l ↦ let m = mul_negative x y l k in omega (arith, ints)
      | null l ↦ rw l (omega (arith, ints))
      | positive l ↦ absurd (omega (arith, ints))
    ]

mul_not_positive' : (x y : ℤ) → pos 0 ≤ℤ x → y <ℤ pos 0 → (x *ℤ y) ≤ℤ pos 0
mul_not_positive' x y h k =
    elim (sign x) [
      | negative l ↦ absurd (omega (arith, ints))
      | null l ↦ rw l (omega (arith, ints))
      | positive l ↦ let m = mul_apart x y l k in omega (arith, ints)
    ]

flat : (a b c : Position) → b.y -ℤ a.y ≡ pos 0 → c.y -ℤ a.y ≡ pos 0 → side a b c ≡ pos 0
unfolding side
flat a b c e f =
    let m = mul_null (b.x -ℤ a.x) (c.y -ℤ a.y) f in
    let n : (b.y -ℤ a.y) *ℤ (c.x -ℤ a.x) ≡ pos 0 = rw e (omega (arith, ints)) in
    omega (arith, ints)

-- p is at the height of the lowest vertex a
at_lowest : (a b c p : Position) → p.y ≡ a.y → b.y ≤ℤ p.y → c.y ≤ℤ p.y → Covers a b c p → ⊥
at_lowest a b c p ha hb hc h =
    let e = below_vertex a b c p in
    let level : side a b c *ℤ (p.y -ℤ a.y) ≡ pos 0 = mul_null (side a b c) (p.y -ℤ a.y) (omega (arith, ints)) in
    elim (sign (a.y -ℤ b.y)) [
      | negative k ↦ absurd (omega (arith, ints))
      | null k ↦
          let m = mul_null (side c a p) (b.y -ℤ a.y) (omega (arith, ints)) in
          elim (sign (a.y -ℤ c.y)) [
            | negative l ↦ absurd (omega (arith, ints))
            | null l ↦ h.area (flat a b c (omega (arith, ints)) (omega (arith, ints)))
            | positive l ↦
                let on : side a b p ≡ pos 0 = factor (side a b p) (c.y -ℤ a.y) (omega (arith, ints)) (omega (arith, ints)) in
                let top = (horizontal a b c (omega (arith, ints))).1 ((passes_null a b c p on).1 h.edge_ab) in
                omega (arith, ints)
          ]
      | positive k ↦
          elim (sign (a.y -ℤ c.y)) [
            | negative l ↦ absurd (omega (arith, ints))
            | null l ↦
                let m = mul_null (side a b p) (c.y -ℤ a.y) (omega (arith, ints)) in
                let on : side c a p ≡ pos 0 = factor (side c a p) (b.y -ℤ a.y) (omega (arith, ints)) (omega (arith, ints)) in
                let top = (horizontal c a b (omega (arith, ints))).1 ((passes_null c a b p on).1 h.edge_ca) in
                omega (arith, ints)
            | positive l ↦ elim (sign (side a b c)) [
              | negative s ↦
                  let x = (left_rising a b c p s (omega (arith, ints))).0 h.edge_ab in
                  let y = (left_falling c a b p (left_cab a b c s) (omega (arith, ints))).0 h.edge_ca in
                  let m = mul_negative (side a b p) (c.y -ℤ a.y) x (omega (arith, ints)) in
                  let n = mul_not_negative' (side c a p) (b.y -ℤ a.y) y (omega (arith, ints)) in
                  omega (arith, ints)
              | null s ↦ h.area s
              | positive s ↦
                  let x = (right_rising a b c p s (omega (arith, ints))).0 h.edge_ab in
                  let y = (right_falling c a b p (area_cab a b c s) (omega (arith, ints))).0 h.edge_ca in
                  let m = mul_apart (side c a p) (b.y -ℤ a.y) y (omega (arith, ints)) in
                  let n = mul_not_positive' (side a b p) (c.y -ℤ a.y) x (omega (arith, ints)) in
                  omega (arith, ints)
            ]
          ]
    ]

below_all : (a b c p : Position) → a.y ≤ℤ p.y → b.y ≤ℤ p.y → c.y ≤ℤ p.y → Covers a b c p → ⊥
below_all a b c p ha hb hc h =
    elim (sign (p.y -ℤ a.y)) [
      | negative k ↦ absurd (omega (arith, ints))
      | null k ↦ at_lowest a b c p (omega (arith, ints)) hb hc h
      | positive k ↦ elim (sign (p.y -ℤ b.y)) [
        | negative l ↦ absurd (omega (arith, ints))
        | null l ↦ at_lowest b c a p (omega (arith, ints)) hc ha (covers_turned a b c p h)
        | positive l ↦ elim (sign (p.y -ℤ c.y)) [
          | negative m ↦ absurd (omega (arith, ints))
          | null m ↦ at_lowest c a b p (omega (arith, ints)) ha hb (covers_turned b c a p (covers_turned a b c p h))
          | positive m ↦ let n = (covered_between_y a b c p h).high in omega (arith, ints, clamps)
        ]
      ]
    ]

-- ---- from any vertex on
turned : (a b c p : Position) → Verdict a b c p (down_count a b c p) (up_count a b c p) → Verdict b c a p (down_count b c a p) (up_count b c a p)
turned a b c p (upwards h e f) = upwards (covers_turned a b c p h) (omega arith) (omega arith)
turned a b c p (downwards h e f) = downwards (covers_turned a b c p h) (omega arith) (omega arith)
turned a b c p (outside h e) = outside (λ k. h (covers_turned c a b p (covers_turned b c a p k))) (omega arith)

pub verdict : (a b c p : Position) → Verdict a b c p (down_count a b c p) (up_count a b c p)
verdict a b c p =
    elim (above_or_not a.y) [
      | inl ha ↦ elim (above_or_not b.y) [
        | inl hb ↦ elim (above_or_not c.y) [
          | inl hc ↦
              outside (above_all a b c p ha hb hc) (are _ _ _ false false false (down_above _ p ha) (down_above _ p hb) (down_above _ p hc) ∙ sym (are _ _ _ false false false (up_above _ p hb) (up_above _ p hc) (up_above _ p ha)))
          | inr hc ↦ turned c a b p (below_one c a b p hc ha hb)
        ]
        | inr hb ↦ elim (above_or_not c.y) [
          | inl hc ↦ turned c a b p (turned b c a p (below_one b c a p hb hc ha))
          | inr hc ↦ above_one a b c p ha hb hc
        ]
      ]
      | inr ha ↦ elim (above_or_not b.y) [
        | inl hb ↦ elim (above_or_not c.y) [
          | inl hc ↦ below_one a b c p ha hb hc
          | inr hc ↦ turned c a b p (turned b c a p (above_one b c a p hb hc ha))
        ]
        | inr hb ↦ elim (above_or_not c.y) [
          | inl hc ↦ turned c a b p (above_one c a b p hc ha hb)
          | inr hc ↦
              outside (below_all a b c p ha hb hc) (are _ _ _ false false false (down_below _ p hb) (down_below _ p hc) (down_below _ p ha) ∙ sym (are _ _ _ false false false (up_below _ p ha) (up_below _ p hb) (up_below _ p hc)))
        ]
      ]
    ]
  where
    above_or_not : (y : ℤ) → (p.y <ℤ y) ⊎ (y ≤ℤ p.y)
    above_or_not y = elim (at_most_or_over (y -ℤ p.y)) [ inl h ↦ inr (omega (arith, ints)) | inr h ↦ inl (omega (arith, ints)) ]

-- ---- the law, by either rule
by_rule : (rule : Rule) (a b c p : Position) → Verdict a b c p (down_count a b c p) (up_count a b c p) → PolygonCovers rule ((a ∷ b ∷ c ∷ []) ∷ []) p ↔ Covers a b c p
by_rule EvenOdd a b c p (upwards h e f) = (λ k. h, λ k. omega arith)
by_rule EvenOdd a b c p (downwards h e f) = (λ k. h, λ k. omega arith)
by_rule EvenOdd a b c p (outside h e) = (λ k. absurd (omega arith), λ k. absurd (h k))
by_rule NonZero a b c p (upwards h e f) = (λ k. h, λ k l. omega (arith, ints))
by_rule NonZero a b c p (downwards h e f) = (λ k. h, λ k l. omega (arith, ints))
by_rule NonZero a b c p (outside h e) = (λ k. absurd (k (omega (arith, ints))), λ k. absurd (h k))

-- A triangle covers what the polygon of its three corners covers, by either rule, in either orientation, and with no area too.
pub triangle_polygon : (rule : Rule) (a b c p : Position) → PolygonCovers rule ((a ∷ b ∷ c ∷ []) ∷ []) p ↔ Covers a b c p
triangle_polygon rule a b c p = by_rule rule a b c p (verdict a b c p)
