-- A quad's edges, and the masks of a quad.
use Rattle.std.proofs.Common.{◌≡◌, ◌↔◌, ◌⊎◌, inl, inr, refl, sym, ◌∙◌, subst, arith, ℕ, ◌+◌, ◌*◌, ◌^◌, ◌<◌, IsBitSet, slice_index, ℤ, pos, ◌<ℤ◌, ◌≤ℤ◌}
use Rattle.std.proofs.lemmas.Int.{ints}
use Rattle.std.proofs.lemmas.Bool.{cases_lt}
use Rattle.grid.specs.Position.{Position}
use Rattle.grid.specs.Edge.{side, PassesEdge}
use Rattle.grid.specs.Quad.{Corners, TurnsRight, TurnsLeft, IsStrictlyConvex, QuadCovers}
use Rattle.grid.specs.Samples.{count_of, part_size, box_start, sample_position}
use Rattle.grid.specs.Triangle.{Covers}
use Rattle.grid.specs.declared.sample_count.SampleCount.{SampleCount}
use Rattle.grid.specs.declared.triangle.Tri.{Tri}
use Rattle.grid.proofs.Identities.{side-reversed}
use Rattle.grid.proofs.Diagonals.{passes_reversed, either_diagonal}
use Rattle.cover.specs.declared.edge.Edge.{Edge}
use Rattle.cover.specs.declared.masks.Masks.{Masks}
use Rattle.cover.specs.declared.quad.Sides.{Sides}
use Rattle.cover.specs.Block.{IsScreenBounded}
use Rattle.cover.specs.Edge.{value_at, grown, IsTestOf}
use Rattle.cover.specs.Masks.{AreMasksWhere, to_column, to_row}
use Rattle.cover.specs.Quad.{AreMasksOfQuad, IsJoinedFrom}
use Rattle.cover.specs.Sides.{AreSidesOf, IsInsideAt}
use Rattle.cover.proofs.Corners.{small_value, there}
use Rattle.cover.proofs.Joined.{bits64, kept, place_x, place_y, begins_with_part, of_first_part, plane_of_first}
use Rattle.cover.proofs.Words.{empty_word}

-- ---- four tests make the cover test
sides_right : (a b c d : Position) (e : Sides) → IsTestOf a b e.ab → IsTestOf b c e.bc → IsTestOf c d e.cd → IsTestOf d a e.da → TurnsRight a b c d → AreSidesOf (record { a = a; b = b; c = c; d = d }) e
sides_right a b c d e ab bc cd da h p =
    let at_ab = ab c p h.abc in
    let at_bc = bc d p h.bcd in
    let at_cd = cd a p h.cda in
    let at_da = da b p h.dab in (
      λ k. record { edge_ab = at_ab.0 k.ab; edge_bc = at_bc.0 k.bc; edge_cd = at_cd.0 k.cd; edge_da = at_da.0 k.da },
      λ k. record { ab = at_ab.1 k.edge_ab; bc = at_bc.1 k.edge_bc; cd = at_cd.1 k.edge_cd; da = at_da.1 k.edge_da },
    )

across : (a b c : Position) → side a b c <ℤ pos 0 → pos 0 <ℤ side b a c
across a b c h = rw side-reversed (omega (arith, ints))

-- an edge that runs the other way has the same test
turned_edge : (a b c p : Position) (e : Edge) → side a b c <ℤ pos 0 → IsTestOf b a e → (pos 0 ≤ℤ value_at e p) ↔ PassesEdge a b c p
turned_edge a b c p e h test =
    let at = test c p (across a b c h) in
    (λ k. passes_reversed b a c p (at.0 k), λ k. at.1 (passes_reversed a b c p k))

sides_left : (a b c d : Position) (e : Sides) → IsTestOf b a e.ab → IsTestOf c b e.bc → IsTestOf d c e.cd → IsTestOf a d e.da → TurnsLeft a b c d → AreSidesOf (record { a = a; b = b; c = c; d = d }) e
sides_left a b c d e ab bc cd da h p =
    let at_ab = turned_edge a b c p e.ab h.abc ab in
    let at_bc = turned_edge b c d p e.bc h.bcd bc in
    let at_cd = turned_edge c d a p e.cd h.cda cd in
    let at_da = turned_edge d a b p e.da h.dab da in (
      λ k. record { edge_ab = at_ab.0 k.ab; edge_bc = at_bc.0 k.bc; edge_cd = at_cd.0 k.cd; edge_da = at_da.0 k.da },
      λ k. record { ab = at_ab.1 k.edge_ab; bc = at_bc.1 k.edge_bc; cd = at_cd.1 k.edge_cd; da = at_da.1 k.edge_da },
    )

-- by the corners as they were read
corners_are : (q : Corners) (a b c d : Position) → a ≡ q.a → b ≡ q.b → c ≡ q.c → d ≡ q.d → record { a = a; b = b; c = c; d = d } ≡ q
corners_are q a b c d ea eb ec ed = λ i. record { a = ea i; b = eb i; c = ec i; d = ed i }

pub clockwise_sides : (q : Corners) (a b c d : Position) (e : Sides) → a ≡ q.a → b ≡ q.b → c ≡ q.c → d ≡ q.d → TurnsRight q.a q.b q.c q.d
    → IsTestOf a b e.ab → IsTestOf b c e.bc → IsTestOf c d e.cd → IsTestOf d a e.da → AreSidesOf q e
clockwise_sides q a b c d e ea eb ec ed h ab bc cd da =
    let T : Corners → Type 0 = λ r. TurnsRight r.a r.b r.c r.d → AreSidesOf r e in
    subst T (corners_are q a b c d ea eb ec ed) (sides_right a b c d e ab bc cd da) h

pub counterclockwise_sides : (q : Corners) (a b c d : Position) (e : Sides) → a ≡ q.a → b ≡ q.b → c ≡ q.c → d ≡ q.d → TurnsLeft q.a q.b q.c q.d
    → IsTestOf b a e.ab → IsTestOf c b e.bc → IsTestOf d c e.cd → IsTestOf a d e.da → AreSidesOf q e
counterclockwise_sides q a b c d e ea eb ec ed h ab bc cd da =
    let T : Corners → Type 0 = λ r. TurnsLeft r.a r.b r.c r.d → AreSidesOf r e in
    subst T (corners_are q a b c d ea eb ec ed) (sides_left a b c d e ab bc cd da) h

-- ---- the values at the first position of the box
pub small_at : (e : Edge) (v : ℤ) (x y : ℕ) → x < 2 ^ 20 → y < 2 ^ 20 → v ≡ value_at e (record { x = pos x; y = pos y }) → IsScreenBounded (bits64 v)
small_at e v x y lx ly is =
    let small : IsScreenBounded v = rw is (small_value e x y lx ly) in
    subst IsScreenBounded (sym (kept v small)) small

pub value_kept : (e : Edge) (v : ℤ) (x y : ℕ) → x < 2 ^ 20 → y < 2 ^ 20 → v ≡ value_at e (record { x = pos x; y = pos y }) → bits64 v ≡ value_at e (record { x = pos x; y = pos y })
value_kept e v x y lx ly is = kept v (rw is (small_value e x y lx ly)) ∙ is

pub inside_at : (e : Sides) (x y m n : ℕ) (ab bc cd da : ℤ) → ab ≡ value_at e.ab (record { x = pos x; y = pos y }) → bc ≡ value_at e.bc (record { x = pos x; y = pos y })
    → cd ≡ value_at e.cd (record { x = pos x; y = pos y }) → da ≡ value_at e.da (record { x = pos x; y = pos y })
    → ((((pos 0 ≤ℤ grown e.ab ab m n) × (pos 0 ≤ℤ grown e.bc bc m n)) × (pos 0 ≤ℤ grown e.cd cd m n)) × (pos 0 ≤ℤ grown e.da da m n)) ↔ IsInsideAt e x y m n
inside_at e x y m n ab bc cd da p q r s = (
  λ k. record {
    ab = subst (λ (z : ℤ). pos 0 ≤ℤ grown e.ab z m n) p k.0.0.0;
    bc = subst (λ (z : ℤ). pos 0 ≤ℤ grown e.bc z m n) q k.0.0.1;
    cd = subst (λ (z : ℤ). pos 0 ≤ℤ grown e.cd z m n) r k.0.1;
    da = subst (λ (z : ℤ). pos 0 ≤ℤ grown e.da z m n) s k.1;
  },
  λ k. (
    ((subst (λ (z : ℤ). pos 0 ≤ℤ grown e.ab z m n) (sym p) k.ab, subst (λ (z : ℤ). pos 0 ≤ℤ grown e.bc z m n) (sym q) k.bc), subst (λ (z : ℤ). pos 0 ≤ℤ grown e.cd z m n) (sym r) k.cd),
    subst (λ (z : ℤ). pos 0 ≤ℤ grown e.da z m n) (sym s) k.da,
  ),
)

-- ---- the masks
pub quad_covered : (q : Corners) (e : Sides) (bx by x y : ℕ) (count : SampleCount) (m : Masks) → AreSidesOf q e → x ≡ 2048 * bx + box_start count → y ≡ 2048 * by + box_start count
    → AreMasksWhere 8 (λ s row column. IsInsideAt e x y (to_column count s column) (to_row count s row)) count 0 m → AreMasksOfQuad q bx by count m
quad_covered q e bx by x y count m test ex ey h = record {
  covered = λ s row column lt below within.
      let bit = of_first_part (λ n. IsBitSet (slice_index m.plane s) (8 * row + column) ↔ IsInsideAt e x y (to_column count n column) (to_row count n row)) s (h.exact s row column lt below within) in
      let is_sample : s < count_of count = omega (arith, lt, begins_with_part count) in
      let p = sample_position (8 * bx + column) (8 * by + row) s count in
      let across = (λ i. ex i + to_column count s column) ∙ place_x count s bx column is_sample in
      let along = (λ i. ey i + to_row count s row) ∙ place_y count s by row is_sample in
      let ab = there e.ab (value_at e.ab (record { x = pos x; y = pos y })) x y (to_column count s column) (to_row count s row) _ _ refl across along in
      let bc = there e.bc (value_at e.bc (record { x = pos x; y = pos y })) x y (to_column count s column) (to_row count s row) _ _ refl across along in
      let cd = there e.cd (value_at e.cd (record { x = pos x; y = pos y })) x y (to_column count s column) (to_row count s row) _ _ refl across along in
      let da = there e.da (value_at e.da (record { x = pos x; y = pos y })) x y (to_column count s column) (to_row count s row) _ _ refl across along in (
        λ set. let k = bit.0 set in (test p).0 (record { ab = subst IsOver ab k.ab; bc = subst IsOver bc k.bc; cd = subst IsOver cd k.cd; da = subst IsOver da k.da }),
        λ c. let k = (test p).1 c in bit.1 (record { ab = subst IsOver (sym ab) k.ab; bc = subst IsOver (sym bc) k.bc; cd = subst IsOver (sym cd) k.cd; da = subst IsOver (sym da) k.da }),
      );
  empty = h.empty;
}
  where
    IsOver : ℤ → Type 0
    IsOver z = pos 0 ≤ℤ z

-- a quad's masks, by two triangles that it is made of
parts_of : (t u : Tri) (q : Corners) (bx by : ℕ) (count : SampleCount) (m : Masks) → AreMasksOfQuad q bx by count m
    → ((p : Position) → QuadCovers q.a q.b q.c q.d p ↔ (Covers t.a t.b t.c p ⊎ Covers u.a u.b u.c p)) → ((p : Position) → ¬ (Covers t.a t.b t.c p × Covers u.a u.b u.c p)) → IsJoinedFrom t u bx by count m
parts_of t u q bx by count m h same one first second f g = record {
  disjoint = λ s row column lt within both. elim (cases_lt s (part_size count)) [
    | inl below ↦ one _ ((f.covered s below row column lt within).0 both.0, (g.covered s below row column lt within).0 both.1)
    | inr above ↦ empty_word _ _ (f.empty s above) both.0
  ];
  union = λ s row column lt within. elim (cases_lt s (part_size count)) [
    | inl below ↦
        let whole = h.covered s row column below lt within in
        let left = plane_of_first f s below row column lt within in
        let right = plane_of_first g s below row column lt within in (
          λ set. elim ((same _).0 (whole.0 set)) [ inl k ↦ inl (left.1 k) | inr k ↦ inr (right.1 k) ],
          λ k. whole.1 ((same _).1 (elim k [ inl l ↦ inl (left.0 l) | inr r ↦ inr (right.0 r) ])),
        )
    | inr above ↦ (
      λ set. absurd (empty_word _ _ (h.empty s above) set),
      λ k. absurd (elim k [ inl l ↦ empty_word _ _ (f.empty s above) l | inr r ↦ empty_word _ _ (g.empty s above) r ]),
    )
  ];
}

pub first_parts : (q : Corners) (bx by : ℕ) (count : SampleCount) (m : Masks) → IsStrictlyConvex q.a q.b q.c q.d → AreMasksOfQuad q bx by count m
    → IsJoinedFrom (record { a = q.a; b = q.b; c = q.c }) (record { a = q.c; b = q.d; c = q.a }) bx by count m
first_parts q bx by count m convex h =
    parts_of (record { a = q.a; b = q.b; c = q.c }) (record { a = q.c; b = q.d; c = q.a }) q bx by count m h
    (λ p. (either_diagonal q.a q.b q.c q.d p convex).first.same) (λ p. (either_diagonal q.a q.b q.c q.d p convex).first.one)

pub second_parts : (q : Corners) (bx by : ℕ) (count : SampleCount) (m : Masks) → IsStrictlyConvex q.a q.b q.c q.d → AreMasksOfQuad q bx by count m
    → IsJoinedFrom (record { a = q.b; b = q.c; c = q.d }) (record { a = q.d; b = q.a; c = q.b }) bx by count m
second_parts q bx by count m convex h =
    parts_of (record { a = q.b; b = q.c; c = q.d }) (record { a = q.d; b = q.a; c = q.b }) q bx by count m h
    (λ p. let law = (either_diagonal q.a q.b q.c q.d p convex).second.same in (
      λ k. law.0 (record { edge_ab = k.edge_bc; edge_bc = k.edge_cd; edge_cd = k.edge_da; edge_da = k.edge_ab }),
      λ k. let turned = law.1 k in record { edge_ab = turned.edge_da; edge_bc = turned.edge_ab; edge_cd = turned.edge_bc; edge_da = turned.edge_cd },
    ))
    (λ p. (either_diagonal q.a q.b q.c q.d p convex).second.one)
