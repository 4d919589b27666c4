-- The height of a depth's plane at a covered sample: the depth in fixed point, and less than 2^27 of its units more.
use Rattle.std.proofs.Common.{◌≡◌, refl, ap, ◌∙◌, [], ◌∷◌, arith, ℕ, ◌+◌, ◌*◌, ◌/◌, ◌%◌, ◌<◌, ◌≤◌, ◌^◌, List, get_or, ℤ, pos, negsuc, ◌+ℤ◌, ◌-ℤ◌, ◌*ℤ◌}
use Rattle.std.proofs.Math.Nat.{lt_of_mul-lt-mul_right, mul-le-mul_right, mul-lt-mul_of_pos_right}
use Rattle.std.proofs.lemmas.Int.{ints}
use Rattle.std.proofs.lemmas.Nat.{div-add-mod', mod_below}
use Rattle.std.specs.Int.RustNames.{unsigned_abs}
use Rattle.grid.specs.Bounds.{IsWithin}
use Rattle.grid.specs.Position.{Position}
use Rattle.grid.specs.Triangle.{doubled_area, Covers}
use Rattle.grid.proofs.Bounds.{IsWithin-mul}
use Rattle.grid.proofs.Ring.{var, plus, neg, times, ring}
use Rattle.shade.specs.Quotient.{IsQuotient}
use Rattle.shade.proofs.Values.{area_positive, weighted_sum-bound}
use Rattle.gradients.specs.Candidate.{IsNear}
use Rattle.gradients.specs.Group.{position_in, IsGroupOnScreen}
use Rattle.gradients.specs.AttributePlane.{sum_at}
use Rattle.gradients.specs.Reciprocal.{IsGradient}
use Rattle.gradients.specs.Modulo.{IsModulo}
use Rattle.gradients.proofs.Gradients.{over_product}
use Rattle.gradients.proofs.Modulos.{modulo_through}
use Rattle.deep_planes.specs.declared.slope.Slope.{Slope}
use Rattle.deep_planes.specs.declared.plane.Plane.{Plane}
use Rattle.deep_planes.specs.Group.{AreNearDepths, AreDeepDepths}
use Rattle.deep_planes.specs.Slope.{Are32Bit, depth_numerator, IsDepthSlope}
use Rattle.deep_planes.specs.Plane.{IsPlaneOfDepth, IsPlaneOfNumerator, IsHeightOf}

-- z is above n / area with 32 fractional bits, by less than 2^27 units of the last one.
pub record IsAbove (n area z : ℕ) : Type 0 where
  pub some : 0 < area
  pub low : n * 2 ^ 32 < z * area
  pub high : z * area < n * 2 ^ 32 + 2 ^ 27 * area

-- ---- what the integer part of such a number says
pub above_near : (n area z : ℕ) → IsAbove n area z → IsNear n (2 ^ 8 * area) (z / 2 ^ 40)
above_near n area z h =
    let parts : z / 2 ^ 40 * 2 ^ 40 + z % 2 ^ 40 ≡ z = div-add-mod' z (2 ^ 40) in
    let less : z % 2 ^ 40 < 2 ^ 40 = mod_below z (2 ^ 40) (omega arith) in
    let under : z * area < (z / 2 ^ 40 + 1) * 2 ^ 40 * area = mul-lt-mul_of_pos_right (omega (arith, parts, less)) h.some in
    let over : z / 2 ^ 40 * 2 ^ 40 * area ≤ z * area = mul-le-mul_right area (omega (arith, parts)) in
    let low : n * 2 ^ 32 < (z / 2 ^ 40 + 1) * (2 ^ 8 * area) * 2 ^ 32 = omega (arith, h.low, under) in
    let high : z / 2 ^ 40 * (2 ^ 8 * area) * 2 ^ 32 < (n + 2 ^ 8 * area) * 2 ^ 32 = omega (arith, h.high, over, h.some) in
    (lt_of_mul-lt-mul_right (2 ^ 32) low, lt_of_mul-lt-mul_right (2 ^ 32) high)

-- a fraction of 2^27 units or more is not of what is added
pub above_sure : (n area z : ℕ) → IsAbove n area z → 2 ^ 27 ≤ z % 2 ^ 40 → IsQuotient n (2 ^ 8 * area) (z / 2 ^ 40)
above_sure n area z h sure =
    let parts : z / 2 ^ 40 * 2 ^ 40 + z % 2 ^ 40 ≡ z = div-add-mod' z (2 ^ 40) in
    let over : (z / 2 ^ 40 * 2 ^ 40 + 2 ^ 27) * area ≤ z * area = mul-le-mul_right area (omega (arith, parts, sure)) in
    let low : z / 2 ^ 40 * (2 ^ 8 * area) * 2 ^ 32 < (n + 1) * 2 ^ 32 = omega (arith, h.high, over) in
    let less : z / 2 ^ 40 * (2 ^ 8 * area) < n + 1 = lt_of_mul-lt-mul_right (2 ^ 32) low in
    record { low = omega (arith, less); high = (above_near n area z h).0 }

-- it has 64 bits
above_fits : (n area z : ℕ) → n ≤ 4294967295 * area → IsAbove n area z → z < 2 ^ 64
above_fits n area z most h =
    let product : z * area < 2 ^ 64 * area = omega (arith, h.high, most) in
    lt_of_mul-lt-mul_right area product

-- ---- the error of the height, multiplied by the area, is the gradients' errors by the distances
error : (v f s ax ay gx gy x y up nx ny : ℤ)
    → (v *ℤ f -ℤ ax *ℤ gx -ℤ ay *ℤ gy +ℤ up +ℤ (x *ℤ gx +ℤ y *ℤ gy)) *ℤ s
    ≡ (v *ℤ s +ℤ (x -ℤ ax) *ℤ nx +ℤ (y -ℤ ay) *ℤ ny) *ℤ f +ℤ up *ℤ s +ℤ (x -ℤ ax) *ℤ (gx *ℤ s -ℤ nx *ℤ f) +ℤ (y -ℤ ay) *ℤ (gy *ℤ s -ℤ ny *ℤ f)
error v f s ax ay gx gy x y up nx ny =
    ring (v ∷ f ∷ s ∷ ax ∷ ay ∷ gx ∷ gy ∷ x ∷ y ∷ up ∷ nx ∷ ny ∷ [])
    (times (plus (plus (plus (plus (times (var 0) (var 1)) (neg (times (var 3) (var 5)))) (neg (times (var 4) (var 6)))) (var 9)) (plus (times (var 7) (var 5)) (times (var 8) (var 6)))) (var 2))
    (plus
    (plus
    (plus
    (times (plus (plus (times (var 0) (var 2)) (times (plus (var 7) (neg (var 3))) (var 10))) (times (plus (var 8) (neg (var 4))) (var 11))) (var 1))
    (times (var 9) (var 2)))
    (times (plus (var 7) (neg (var 3))) (plus (times (var 5) (var 2)) (neg (times (var 10) (var 1))))))
    (times (plus (var 8) (neg (var 4))) (plus (times (var 6) (var 2)) (neg (times (var 11) (var 1))))))
    refl

-- the height at a point, which is not wrapped
height : Slope → Plane → ℤ → ℤ → ℤ
height s p x y = pos (s.first * 2 ^ 32) -ℤ s.x *ℤ p.across -ℤ s.y *ℤ p.down +ℤ pos (2 ^ 26) +ℤ (x *ℤ p.across +ℤ y *ℤ p.down)

gradient_within : (area : ℕ) (n g : ℤ) → IsGradient 32 area n g → IsWithin (2 * area) (g *ℤ pos area -ℤ n *ℤ pos (2 ^ 32))
gradient_within area n g h =
    let low = h.low in
    let high = h.high in
    record { low = omega (arith, ints); high = omega (arith, ints) }

-- a number that is the height is above
record IsHigh (n area : ℕ) (h : ℤ) : Type 0 where
  pub z : ℕ
  pub is : h ≡ pos z
  pub above : IsAbove n area z

high_from : (n area : ℕ) (h e e' : ℤ) → 0 < area → h *ℤ pos area ≡ pos (n * 2 ^ 32) +ℤ pos (2 ^ 26 * area) +ℤ e +ℤ e'
    → IsWithin ((2 ^ 23 + 2 ^ 20) * (2 * area)) e → IsWithin ((2 ^ 23 + 2 ^ 20) * (2 * area)) e' → IsHigh n area h
high_from n area (pos z) e e' some sum first second =
    record { z = z; is = refl; above = record { some = some; low = omega (arith, ints, sum); high = omega (arith, ints, sum) } }
high_from n area (negsuc z) e e' some sum first second =
    let product = over_product (negsuc z) 0 area (omega (arith, ints, sum)) in
    absurd (omega (arith, ints, product))

-- a point near the slope's vertex where the numerator is n
record IsReached (s : Slope) (x y : ℤ) (n : ℕ) : Type 0 where
  pub some : 0 < s.area
  pub value : depth_numerator s x y ≡ pos n
  pub most : n ≤ 4294967295 * s.area
  pub near_x : IsWithin (2 ^ 23 + 2 ^ 20) (x -ℤ s.x)
  pub near_y : IsWithin (2 ^ 23 + 2 ^ 20) (y -ℤ s.y)

high : (s : Slope) (p : Plane) (x y : ℤ) (n : ℕ) → IsPlaneOfDepth s p → IsReached s x y n → IsHigh n s.area (height s p x y)
unfolding height
high s p x y n plane reached =
    let f = 2 ^ 32 in
    let sum = error (pos s.first) (pos f) (pos s.area) s.x s.y p.across p.down x y (pos (2 ^ 26)) s.across s.down in
    let value = ap (λ z. z *ℤ pos f) reached.value in
    high_from n s.area _
    ((x -ℤ s.x) *ℤ (p.across *ℤ pos s.area -ℤ s.across *ℤ pos f))
    ((y -ℤ s.y) *ℤ (p.down *ℤ pos s.area -ℤ s.down *ℤ pos f))
    reached.some
    (sum ∙ ap (λ z. z +ℤ pos (2 ^ 26 * s.area) +ℤ (x -ℤ s.x) *ℤ (p.across *ℤ pos s.area -ℤ s.across *ℤ pos f) +ℤ (y -ℤ s.y) *ℤ (p.down *ℤ pos s.area -ℤ s.down *ℤ pos f)) value)
    (IsWithin-mul _ _ (2 ^ 23 + 2 ^ 20) (2 * s.area) reached.near_x (gradient_within s.area s.across p.across plane.across))
    (IsWithin-mul _ _ (2 ^ 23 + 2 ^ 20) (2 * s.area) reached.near_y (gradient_within s.area s.down p.down plane.down))

-- the height modulo 2^64 is the height
same : (z m : ℕ) (t : ℤ) → z < 2 ^ 64 → m < 2 ^ 64 → pos m ≡ pos z +ℤ t *ℤ pos (2 ^ 64) → m ≡ z
same z m (pos t) h k e = omega (arith, ints, e)
same z m (negsuc t) h k e = omega (arith, ints, e)

above_at : (s : Slope) (p : Plane) (x y : ℤ) (n m : ℕ) → m < 2 ^ 64 → IsPlaneOfDepth s p → IsReached s x y n → IsHeightOf p x y m → IsAbove n s.area m
unfolding height
above_at s p x y n m fits plane reached at =
    let up = high s p x y n plane reached in
    let modulo = modulo_through _ (x *ℤ p.across +ℤ y *ℤ p.down) p.start m plane.start at in
    let sum : pos m ≡ pos up.z +ℤ modulo.turns *ℤ pos (2 ^ 64) = modulo.sum ∙ ap (λ z. z +ℤ modulo.turns *ℤ pos (2 ^ 64)) up.is in
    let is : m ≡ up.z = same up.z m modulo.turns (above_fits n s.area up.z reached.most up.above) fits sum in
    rw is up.above

-- ---- a covered sample of a group
reached : (a b c p : Position) (z : List ℕ) (s : Slope) (i : ℕ) → IsDepthSlope a b c (get_or z 0 0) (get_or z 1 0) (get_or z 2 0) s
    → Are32Bit (get_or z 0 0) (get_or z 1 0) (get_or z 2 0) → IsGroupOnScreen p → i < 16 → Covers a b c (position_in p i)
    → IsReached s (p.x +ℤ pos (256 * (i % 8))) (p.y +ℤ pos (256 * (i / 8))) (sum_at a b c z (position_in p i))
reached a b c p z s i slope bits screen less covered =
    let column : i % 8 < 8 = omega arith in
    let row : i / 8 < 2 = omega (arith, less) in
    let in_x = slope.in_band.x in
    let in_y = slope.in_band.y in
    let area = slope.of_area in
    record {
      some = rw area (area_positive a b c (position_in p i) covered);
      value = slope.sum (position_in p i) covered;
      most = rw area (weighted_sum-bound a b c (position_in p i) _ _ _ 4294967295 covered bits.first bits.second bits.third);
      near_x = record { low = omega (arith, ints, screen.left, in_x.high); high = omega (arith, ints, screen.right, in_x.low, column) };
      near_y = record { low = omega (arith, ints, screen.top, in_y.high); high = omega (arith, ints, screen.bottom, in_y.low, row) };
    }

-- the lanes are above the depth at each sample of the group at p that the triangle abc covers
abbrev pub AreAbove : Position → Position → Position → List ℕ → Position → List ℕ → Type 0
AreAbove a b c z p lanes =
    (i : ℕ) → i < 16 → Covers a b c (position_in p i) → IsAbove (sum_at a b c z (position_in p i)) (unsigned_abs (doubled_area a b c)) (get_or lanes i 0)

pub are_above : (a b c p : Position) (z lanes : List ℕ) (s : Slope) (q : Plane) → IsDepthSlope a b c (get_or z 0 0) (get_or z 1 0) (get_or z 2 0) s → IsPlaneOfDepth s q
    → Are32Bit (get_or z 0 0) (get_or z 1 0) (get_or z 2 0) → IsGroupOnScreen p → ((i : ℕ) → i < 16 → get_or lanes i 0 < 2 ^ 64)
    → ((i : ℕ) → i < 16 → IsHeightOf q (p.x +ℤ pos (256 * (i % 8))) (p.y +ℤ pos (256 * (i / 8))) (get_or lanes i 0)) → AreAbove a b c z p lanes
are_above a b c p z lanes s q slope plane bits screen fits at i less covered =
    rw (← slope.of_area) (above_at s q _ _ _ _ (fits i less) plane (reached a b c p z s i slope bits screen less covered) (at i less))

-- the integer parts are near the depths, and are the depths if the fractions are sure
pub wholes_near : (a b c p : Position) (z lanes found : List ℕ) → AreAbove a b c z p lanes → ((i : ℕ) → i < 16 → get_or found i 0 ≡ get_or lanes i 0 / 2 ^ 40) → AreNearDepths a b c z p found
wholes_near a b c p z lanes found above whole i less covered = rw (whole i less) (above_near _ _ _ (above i less covered))

pub wholes_sure : (a b c p : Position) (z lanes found : List ℕ) → AreAbove a b c z p lanes → ((i : ℕ) → i < 16 → get_or found i 0 ≡ get_or lanes i 0 / 2 ^ 40)
    → ((i : ℕ) → i < 16 → 2 ^ 27 ≤ get_or lanes i 0 % 2 ^ 40) → AreDeepDepths a b c z p found
wholes_sure a b c p z lanes found above whole sure i less covered = rw (whole i less) (above_sure _ _ _ (above i less covered) (sure i less))

-- ---- the numerator
numerator_at : (f area sx sy x y ac dn : ℤ) → f *ℤ area -ℤ sx *ℤ ac -ℤ sy *ℤ dn +ℤ (x *ℤ ac +ℤ y *ℤ dn) ≡ f *ℤ area +ℤ (x -ℤ sx) *ℤ ac +ℤ (y -ℤ sy) *ℤ dn
numerator_at f area sx sy x y ac dn =
    ring (f ∷ area ∷ sx ∷ sy ∷ x ∷ y ∷ ac ∷ dn ∷ [])
    (plus (plus (plus (times (var 0) (var 1)) (neg (times (var 2) (var 6)))) (neg (times (var 3) (var 7)))) (plus (times (var 4) (var 6)) (times (var 5) (var 7))))
    (plus (plus (times (var 0) (var 1)) (times (plus (var 4) (neg (var 2))) (var 6))) (times (plus (var 5) (neg (var 3))) (var 7)))
    refl

-- what the numerator of a slope is at a covered point
pub sum_modulo : (a b c p : Position) (z : List ℕ) (s : Slope) (q : Plane) (m : ℕ) → IsDepthSlope a b c (get_or z 0 0) (get_or z 1 0) (get_or z 2 0) s → IsPlaneOfNumerator s q
    → Covers a b c p → IsHeightOf q p.x p.y m → IsModulo (pos (sum_at a b c z p)) m
sum_modulo a b c p z s q m is is_numerator covered high =
    let from : IsHeightOf (record { start = q.start; across = s.across; down = s.down }) p.x p.y m = rw (is_numerator.across, is_numerator.down) at high in
    let whole = modulo_through _ (p.x *ℤ s.across +ℤ p.y *ℤ s.down) q.start m is_numerator.start from in
    let form = numerator_at (pos s.first) (pos s.area) s.x s.y p.x p.y s.across s.down in
    rw (form ∙ is.sum p covered) at whole
