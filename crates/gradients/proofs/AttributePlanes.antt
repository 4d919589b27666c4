-- The values at sixteen samples, from their candidates.
use Rattle.std.proofs.Common.{◌≡◌, inl, inr, refl, ◌∙◌, [], ◌∷◌, arith, ℕ, ◌+◌, ◌*◌, ◌/◌, ◌%◌, ◌<◌, ◌≤◌, ◌^◌, List, get_or, length, min, ℤ, pos, ◌+ℤ◌, ◌-ℤ◌, ◌*ℤ◌}
use Rattle.std.proofs.lemmas.Int.{ints}
use Rattle.std.proofs.Math.Nat.{mul-le-mul_right, min-le_left, min-le_right}
use Rattle.std.proofs.lemmas.Simd.{Each1-get_or}
use Rattle.std.specs.Simd.Lanes.{Each1}
use Rattle.gradients.proofs.Lanes.{of_each}
use Rattle.std.specs.Int.RustNames.{unsigned_abs}
use Rattle.grid.specs.Position.{Position}
use Rattle.grid.specs.Triangle.{doubled_area, Covers}
use Rattle.grid.proofs.Ring.{var, plus, neg, times, ring}
use Rattle.gradients.specs.Group.{position_in, IsGroupOnScreen}
use Rattle.gradients.specs.Modulo.{IsModulo}
use Rattle.gradients.specs.Candidate.{IsCandidate}
use Rattle.gradients.specs.Slope.{IsSlope}
use Rattle.gradients.specs.Plane.{IsCandidatePlane, IsNumeratorPlane, IsHeight, IsHighPart, IsReached}
use Rattle.gradients.specs.declared.slope.Slope.{Slope}
use Rattle.gradients.specs.declared.plane.Plane.{Plane}
use Rattle.gradients.specs.declared.attribute_plane.AttributePlane.{AttributePlane}
use Rattle.gradients.specs.AttributePlane.{sum_at, AreLaneCandidates, AreNear, AreValues, IsNarrow, IsAttributePlane}
use Rattle.shade.proofs.Values.{area_positive, weighted_sum-bound}
use Rattle.gradients.proofs.Certificate.{candidate_near, candidate_sure}
use Rattle.gradients.proofs.Modulos.{modulo_through}
use Rattle.gradients.proofs.WholeValues.{multiple_sum, pixels_sixteenth}

-- ---- a covered sample of the group is near the slope's vertex
-- the numerator is small enough for the fraction
room : (n s k most : ℕ) → n ≤ most * s → most * 2 ^ (32 + k) + 2 ^ 48 ≤ 2 ^ 64 → n * 2 ^ (32 + k) + 2 ^ 48 * s ≤ 2 ^ 64 * s
room n s k most h width =
    let first : n * 2 ^ (32 + k) ≤ most * s * 2 ^ (32 + k) = mul-le-mul_right (2 ^ (32 + k)) h in
    let second : (most * 2 ^ (32 + k) + 2 ^ 48) * s ≤ 2 ^ 64 * s = mul-le-mul_right s width in
    omega (arith, first, second)

most_room : (k : ℕ) (a b c p : Position) (values : List ℕ) → IsNarrow k values → Covers a b c p
    → sum_at a b c values p * 2 ^ (32 + k) + 2 ^ 48 * unsigned_abs (doubled_area a b c) ≤ 2 ^ 64 * unsigned_abs (doubled_area a b c)
most_room k a b c p values narrow covered =
    elim narrow [
      | inl h ↦ rw h.0 (room _ _ 16 65535 (weighted_sum-bound a b c p _ _ _ 65535 covered h.1.first h.1.second h.1.third) (omega arith))
      | inr h ↦ rw h.0 (room _ _ 24 255 (weighted_sum-bound a b c p _ _ _ 255 covered h.1.first h.1.second h.1.third) (omega arith))
    ]

reached : (k : ℕ) (a b c p : Position) (values : List ℕ) (s : Slope) (i area : ℕ) → area ≡ unsigned_abs (doubled_area a b c) → IsSlope a b c (get_or values 0 0) (get_or values 1 0) (get_or values 2 0) s → IsNarrow k values
    → IsGroupOnScreen p → i < 16 → Covers a b c (position_in p i)
    → IsReached k area s (p.x +ℤ pos (256 * (i % 8))) (p.y +ℤ pos (256 * (i / 8))) (sum_at a b c values (position_in p i))
reached k a b c p values s i area all slope narrow screen less covered =
    let column : i % 8 < 8 = omega arith in
    let row : i / 8 < 2 = omega (arith, less) in
    let in_x = slope.in_band.x in
    let in_y = slope.in_band.y in
    rw all (record {
      value = slope.sum (position_in p i) covered;
      most = most_room k a b c (position_in p i) values narrow covered;
      sixteenth_x = multiple_sum 16 p.x (pos (256 * (i % 8))) screen.sixteenth_x (pixels_sixteenth (i % 8));
      sixteenth_y = multiple_sum 16 p.y (pos (256 * (i / 8))) screen.sixteenth_y (pixels_sixteenth (i / 8));
      near_x = record { low = omega (arith, ints, screen.left, in_x.high); high = omega (arith, ints, screen.right, in_x.low, column) };
      near_y = record { low = omega (arith, ints, screen.top, in_y.high); high = omega (arith, ints, screen.bottom, in_y.low, row) };
    })

-- ---- candidates
pub candidates_are : (k : ℕ) (a b c p : Position) (values : List ℕ) (q : AttributePlane) (height : ℕ) (lanes : List ℕ) → IsAttributePlane k a b c values q → IsGroupOnScreen p → IsHeight q.plane p.x p.y height
    → ((i k area n : ℕ) (s : Slope) (q' : Plane) (x y right below : ℤ) → i < 16 → IsCandidatePlane k area s q' → IsHeight q' x y height → IsHighPart q' right below (get_or q.lanes i 0) → IsReached k area s (x +ℤ right) (y +ℤ below) n → IsCandidate k n area (get_or lanes i 0))
    → AreLaneCandidates k a b c values p lanes
candidates_are k a b c p values q height lanes is screen high each i less covered =
    let near = reached k a b c p values is.slope i _ refl is.is_slope is.narrow screen less covered in
    (each i k (unsigned_abs (doubled_area a b c)) (sum_at a b c values (position_in p i)) is.slope q.plane p.x p.y (pos (256 * (i % 8))) (pos (256 * (i / 8))) less is.is_plane high (is.are_lanes.each i less) near)

fraction_units : (k : ℕ) (values : List ℕ) → IsNarrow k values → 4 ≤ 2 ^ k
fraction_units k values narrow = elim narrow [ inl h ↦ rw h.0 (omega arith) | inr h ↦ rw h.0 (omega arith) ]

-- the integer parts are near the values, and are the values if the fractions are sure
pub wholes_near : (k : ℕ) (a b c p : Position) (values candidates found : List ℕ) → IsNarrow k values → AreLaneCandidates k a b c values p candidates
    → ((i : ℕ) → i < 16 → get_or found i 0 ≡ get_or candidates i 0 / 2 ^ k) → AreNear a b c values p found
wholes_near k a b c p values candidates found narrow are whole i less covered =
    rw (whole i less) (candidate_near k _ _ _ (fraction_units k values narrow) (area_positive a b c (position_in p i) covered) (are i less covered))

pub wholes_sure : (k : ℕ) (a b c p : Position) (values candidates found : List ℕ) → IsNarrow k values → AreLaneCandidates k a b c values p candidates
    → ((i : ℕ) → i < 16 → get_or found i 0 ≡ get_or candidates i 0 / 2 ^ k) → ((i : ℕ) → i < 16 → 3 ≤ get_or candidates i 0 % 2 ^ k) → AreValues a b c values p found
wholes_sure k a b c p values candidates found narrow are whole sure i less covered =
    rw (whole i less) (candidate_sure k _ _ _ (fraction_units k values narrow) (area_positive a b c (position_in p i) covered) (sure i less) (are i less covered))

-- ---- the numerator
numerator_at : (f area sx sy x y ac dn : ℤ) → f *ℤ area -ℤ sx *ℤ ac -ℤ sy *ℤ dn +ℤ (x *ℤ ac +ℤ y *ℤ dn) ≡ f *ℤ area +ℤ (x -ℤ sx) *ℤ ac +ℤ (y -ℤ sy) *ℤ dn
numerator_at f area sx sy x y ac dn =
    ring (f ∷ area ∷ sx ∷ sy ∷ x ∷ y ∷ ac ∷ dn ∷ [])
    (plus (plus (plus (times (var 0) (var 1)) (neg (times (var 2) (var 6)))) (neg (times (var 3) (var 7)))) (plus (times (var 4) (var 6)) (times (var 5) (var 7))))
    (plus (plus (times (var 0) (var 1)) (times (plus (var 4) (neg (var 2))) (var 6))) (times (plus (var 5) (neg (var 3))) (var 7)))
    refl

-- what the numerator of a slope is at a covered point
pub sum_modulo : (a b c p : Position) (values : List ℕ) (s : Slope) (q : Plane) (height : ℕ) → IsSlope a b c (get_or values 0 0) (get_or values 1 0) (get_or values 2 0) s → IsNumeratorPlane (unsigned_abs (doubled_area a b c)) s q
    → Covers a b c p → IsHeight q p.x p.y height → IsModulo (pos (sum_at a b c values p)) height
sum_modulo a b c p values s q height is is_numerator covered high =
    let from : IsHeight (record { start = q.start; across = s.across; down = s.down }) p.x p.y height = rw (is_numerator.across, is_numerator.down) at high in
    let whole = modulo_through _ (p.x *ℤ s.across +ℤ p.y *ℤ s.down) q.start height is_numerator.start from in
    let form = numerator_at (pos s.first) (pos (unsigned_abs (doubled_area a b c))) s.x s.y p.x p.y s.across s.down in
    rw (form ∙ is.sum p covered) at whole

-- bytes stay bytes
pub bytes_kept : (after before : List ℕ) → length after ≡ 16 → length before ≡ 16 → ((i : ℕ) → i < 16 → get_or after i 0 ≤ get_or before i 0) → Each1 (λ n. n ≤ 255) before → Each1 (λ n. n ≤ 255) after
bytes_kept after before long long' most bytes =
    of_each (λ n. n ≤ 255) after long (λ k l. let byte : get_or before k 0 ≤ 255 = Each1-get_or (λ n. n ≤ 255) before k 0 (omega arith) bytes in omega (arith, most k l, byte))

-- the least of two is at least three if both are
pub least_first : (m a b : ℕ) → m ≡ min a b → 3 ≤ m → 3 ≤ a
least_first m a b e h = omega (arith, e, h, min-le_left a b)

pub least_second : (m a b : ℕ) → m ≡ min a b → 3 ≤ m → 3 ≤ b
least_second m a b e h = omega (arith, e, h, min-le_right a b)
