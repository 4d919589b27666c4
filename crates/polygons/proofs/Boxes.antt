-- What lies outside of the box of all corners is not inside of the polygon.
use Rattle.std.proofs.Common.{◌≡◌, inl, inr, refl, sym, ◌∙◌, arith, List, [], ◌∷◌, true, false, cond, ℤ, pos, neg_ℤ, ◌-ℤ◌, ◌<ℤ◌, ◌≤ℤ◌}
use Rattle.std.specs.List.{All}
use Rattle.std.proofs.lemmas.Int.{ints}
use Rattle.std.proofs.lemmas.List.Elements.{All-head, All-tail, All-weaker}
use Rattle.std.specs.Int.RustNames.{int_le}
use Rattle.grid.specs.Position.{Position}
use Rattle.polygons.specs.declared.edge.Edge.{Edge}
use Rattle.polygons.specs.declared.extent.Extent.{Extent}
use Rattle.polygons.specs.declared.rule.Rule.{Rule}
use Rattle.polygons.specs.declared.rule.Rule.TheVariants.{EvenOdd, NonZero}
use Rattle.polygons.specs.Crossing.{is_crossed_down, is_crossed_up, downs, ups, winding, IsInside}
use Rattle.polygons.specs.Laws.{reversed}
use Rattle.polygons.specs.Polygon.{path_edges, path_end, ring_edges}
use Rattle.polygons.specs.Rows.{direction}
use Rattle.polygons.specs.Rings.{IsInExtent, IsInClosedExtent, HoldsInside}
use Rattle.polygons.proofs.Cancel.{opposite}
use Rattle.polygons.proofs.Columns.{between, at_right}
use Rattle.polygons.proofs.Outside.{direction_over, direction_under, direction_right}
use Rattle.polygons.proofs.Plotted.{winding-cons, path_closed}
use Rattle.polygons.proofs.Tests.{le_yes, le_no, down_yes, up_below}
use Rattle.polygons.proofs.Triangle.{above_or_not}

-- ---- edges that are left of a point are crossed by their heights alone
-- 1 if the corner is not below p
over : Position → Position → ℤ
over p q = cond (int_le q.y p.y) (pos 1) (pos 0)

over_yes : (p q : Position) → q.y ≤ℤ p.y → over p q ≡ pos 1
unfolding over
over_yes p q h = rw (le_yes q.y p.y h) refl

over_no : (p q : Position) → p.y <ℤ q.y → over p q ≡ pos 0
unfolding over
over_no p q h = rw (le_no q.y p.y h) refl

crossed_down : (e : Edge) (p : Position) → e.a.x ≤ℤ p.x → e.b.x ≤ℤ p.x → e.a.y ≤ℤ p.y → p.y <ℤ e.b.y → is_crossed_down e p ≡ true
crossed_down e p a b top bottom =
    let f = between e.a e.b p in
    let n = at_right (e.b.y -ℤ p.y) (p.y -ℤ e.a.y) (e.a.x -ℤ p.x) (e.b.x -ℤ p.x) (omega (arith, ints)) (omega (arith, ints)) (omega (arith, ints)) (omega (arith, ints)) in
    down_yes e p top bottom (omega (arith, ints))

direction_by_height : (e : Edge) (p : Position) → e.a.x ≤ℤ p.x → e.b.x ≤ℤ p.x → direction e p ≡ over p e.a -ℤ over p e.b
direction_by_height e p left right =
    elim (above_or_not p.y e.a.y) [
      | inl below_a ↦ let a = over_no p e.a below_a in elim (above_or_not p.y e.b.y) [
        | inl below_b ↦ let b = over_no p e.b below_b in let d = direction_under e p below_a below_b in omega (arith, ints)
        | inr over_b ↦
            let b = over_yes p e.b over_b in
            let o = opposite e p in
            let up : is_crossed_up e p ≡ true = sym o.down ∙ crossed_down (reversed e) p right left over_b below_a in
            let down : is_crossed_down e p ≡ false = sym o.up ∙ up_below (reversed e) p over_b in
            let d : direction e p ≡ neg_ℤ (pos 1) = rw (up, down) refl in
            omega (arith, ints)
      ]
      | inr over_a ↦ let a = over_yes p e.a over_a in elim (above_or_not p.y e.b.y) [
        | inl below_b ↦
            let b = over_no p e.b below_b in
            let down = crossed_down e p left right over_a below_b in
            let up : is_crossed_up e p ≡ false = up_below e p over_a in
            let d : direction e p ≡ pos 1 = rw (up, down) refl in
            omega (arith, ints)
        | inr over_b ↦ let b = over_yes p e.b over_b in let d = direction_over e p over_a over_b in omega (arith, ints)
      ]
    ]

path_by_height : (p a : Position) (cs : List Position) → a.x ≤ℤ p.x → All (λ (c : Position). c.x ≤ℤ p.x) cs → (winding (path_edges a cs) p ≡ over p a -ℤ over p (path_end a cs)) × ((path_end a cs).x ≤ℤ p.x)
path_by_height p a [] h all = (omega (arith, ints), h)
path_by_height p a (c ∷ cs) h all =
    let head : c.x ≤ℤ p.x = All-head (λ (c : Position). c.x ≤ℤ p.x) c cs all in
    let rest = path_by_height p c cs head (All-tail (λ (c : Position). c.x ≤ℤ p.x) c cs all) in
    let r = rest.0 in
    let e : Edge = record { a = a; b = c } in
    let w = winding-cons e (path_edges c cs) p in
    let d = direction_by_height e p h head in
    (omega (arith, ints), rest.1)

-- ---- rings
ring_at_left : (ring : List Position) (p : Position) → All (λ (c : Position). c.x ≤ℤ p.x) ring → winding (ring_edges ring) p ≡ pos 0
ring_at_left [] p all = refl
ring_at_left (a ∷ cs) p all =
    let head : a.x ≤ℤ p.x = All-head (λ (c : Position). c.x ≤ℤ p.x) a cs all in
    let path = path_by_height p a cs head (All-tail (λ (c : Position). c.x ≤ℤ p.x) a cs all) in
    let w = path.0 in
    let closed = path_closed a a cs p in
    let d = direction_by_height (record { a = path_end a cs; b = a }) p path.1 head in
    omega (arith, ints)

-- a path none of whose edges is crossed, since all corners are on one side
module _ (p : Position) (Q : Position → Type 0) (never : (a b : Position) → Q a → Q b → direction (record { a = a; b = b }) p ≡ pos 0) where
  path_apart : (a : Position) (cs : List Position) → Q a → All Q cs → (winding (path_edges a cs) p ≡ pos 0) × Q (path_end a cs)
  path_apart a [] h all = (refl, h)
  path_apart a (c ∷ cs) h all =
      let head = All-head Q c cs all in
      let rest = path_apart c cs head (All-tail Q c cs all) in
      let r = rest.0 in
      let w = winding-cons (record { a = a; b = c }) (path_edges c cs) p in
      let d = never a c h head in
      (omega (arith, ints), rest.1)

  path_chord : (a : Position) (cs : List Position) → Q a → All Q cs → winding (path_edges a cs) p ≡ direction (record { a = a; b = path_end a cs }) p
  path_chord a cs h all = let path = path_apart a cs h all in path.0 ∙ sym (never a (path_end a cs) h path.1)

  ring_apart : (ring : List Position) → All Q ring → winding (ring_edges ring) p ≡ pos 0
  ring_apart [] all = refl
  ring_apart (a ∷ cs) all =
      let head = All-head Q a cs all in
      let path = path_apart a cs head (All-tail Q a cs all) in
      let w = path.0 in
      let closed = path_closed a a cs p in
      let d = never (path_end a cs) a path.1 head in
      omega (arith, ints)

-- ---- a point is in the box, or on one side of it
pub data Place (e : Extent) (p : Position) : Type 0 where
  inside : IsInExtent e p → Place e p
  left : p.x <ℤ e.left → Place e p
  right : e.right ≤ℤ p.x → Place e p
  above : p.y <ℤ e.top → Place e p
  below : e.bottom ≤ℤ p.y → Place e p

pub place_of : (e : Extent) (p : Position) → Place e p
place_of e p =
    elim (above_or_not p.x e.left) [
      | inl l ↦ left l
      | inr from_left ↦ elim (above_or_not p.x e.right) [
        | inr r ↦ right r
        | inl before_right ↦ elim (above_or_not p.y e.top) [
          | inl a ↦ above a
          | inr from_top ↦ elim (above_or_not p.y e.bottom) [
            | inr b ↦ below b
            | inl before_bottom ↦ inside (record { left = from_left; right = before_right; top = from_top; bottom = before_bottom })
          ]
        ]
      ]
    ]

pub ring_outside : (e : Extent) (ring : List Position) (p : Position) → All (IsInClosedExtent e) ring → ¬ IsInExtent e p → winding (ring_edges ring) p ≡ pos 0
ring_outside e ring p all out =
    elim (place_of e p) [
      | inside h ↦ absurd (out h)
      | left h ↦ ring_apart p (λ c. p.x <ℤ c.x) (λ a b k l. direction_right (record { a = a; b = b }) p k l) ring (All-weaker (IsInClosedExtent e) (λ c. p.x <ℤ c.x) (λ c w. let l = w.left in omega (arith, ints)) ring all)
      | right h ↦ ring_at_left ring p (All-weaker (IsInClosedExtent e) (λ c. c.x ≤ℤ p.x) (λ c w. let r = w.right in omega (arith, ints)) ring all)
      | above h ↦ ring_apart p (λ c. p.y <ℤ c.y) (λ a b k l. direction_under (record { a = a; b = b }) p k l) ring (All-weaker (IsInClosedExtent e) (λ c. p.y <ℤ c.y) (λ c w. let t = w.top in omega (arith, ints)) ring all)
      | below h ↦ ring_apart p (λ c. c.y ≤ℤ p.y) (λ a b k l. direction_over (record { a = a; b = b }) p k l) ring (All-weaker (IsInClosedExtent e) (λ c. c.y ≤ℤ p.y) (λ c w. let b = w.bottom in omega (arith, ints)) ring all)
    ]

-- a path in the box is crossed outside of it as the edge from its first corner to its last one is
pub path_outside : (e : Extent) (a : Position) (cs : List Position) (p : Position) → IsInClosedExtent e a → All (IsInClosedExtent e) cs → ¬ IsInExtent e p → winding (path_edges a cs) p ≡ direction (record { a = a; b = path_end a cs }) p
path_outside e a cs p first all out =
    elim (place_of e p) [
      | inside h ↦ absurd (out h)
      | left h ↦ path_chord p (λ c. p.x <ℤ c.x) (λ a b k l. direction_right (record { a = a; b = b }) p k l) a cs (let l = first.left in omega (arith, ints)) (All-weaker (IsInClosedExtent e) (λ c. p.x <ℤ c.x) (λ c w. let l = w.left in omega (arith, ints)) cs all)
      | right h ↦
          let head : a.x ≤ℤ p.x = let r = first.right in omega (arith, ints) in
          let path = path_by_height p a cs head (All-weaker (IsInClosedExtent e) (λ c. c.x ≤ℤ p.x) (λ c w. let r = w.right in omega (arith, ints)) cs all) in
          path.0 ∙ sym (direction_by_height (record { a = a; b = path_end a cs }) p head path.1)
      | above h ↦ path_chord p (λ c. p.y <ℤ c.y) (λ a b k l. direction_under (record { a = a; b = b }) p k l) a cs (let t = first.top in omega (arith, ints)) (All-weaker (IsInClosedExtent e) (λ c. p.y <ℤ c.y) (λ c w. let t = w.top in omega (arith, ints)) cs all)
      | below h ↦ path_chord p (λ c. c.y ≤ℤ p.y) (λ a b k l. direction_over (record { a = a; b = b }) p k l) a cs (let b = first.bottom in omega (arith, ints)) (All-weaker (IsInClosedExtent e) (λ c. c.y ≤ℤ p.y) (λ c w. let b = w.bottom in omega (arith, ints)) cs all)
    ]

-- ---- what is inside winds
not_inside : (rule : Rule) (edges : List Edge) (p : Position) → winding edges p ≡ pos 0 → ¬ IsInside rule edges p
not_inside EvenOdd edges p w h = let same : downs edges p ≡ ups edges p = omega (arith, ints) in omega (arith, h, same)
not_inside NonZero edges p w h = h w

pub holds_inside : (e : Extent) (edges : List Edge) → ((p : Position) → ¬ IsInExtent e p → winding edges p ≡ pos 0) → HoldsInside e edges
holds_inside e edges out rule p h =
    elim (place_of e p) [
      | inside k ↦ k
      | left k ↦ absurd (not_inside rule edges p (out p (λ i. let l = i.left in omega (arith, ints))) h)
      | right k ↦ absurd (not_inside rule edges p (out p (λ i. let l = i.right in omega (arith, ints))) h)
      | above k ↦ absurd (not_inside rule edges p (out p (λ i. let l = i.top in omega (arith, ints))) h)
      | below k ↦ absurd (not_inside rule edges p (out p (λ i. let l = i.bottom in omega (arith, ints))) h)
    ]
