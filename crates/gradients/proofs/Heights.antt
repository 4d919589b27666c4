-- The candidate at a point, from the high halves of two parts of the plane's height there.
use Rattle.std.proofs.Common.{◌≡◌, refl, ap, ◌∙◌, [], ◌∷◌, inl, inr, arith, ℕ, ◌+◌, ◌*◌, ◌/◌, ◌%◌, ◌<◌, ◌≤◌, ◌^◌, ℤ, pos, negsuc, ◌+ℤ◌, ◌-ℤ◌, ◌*ℤ◌}
use Rattle.std.proofs.lemmas.Int.{ints}
use Rattle.std.proofs.Math.Nat.{lt_of_mul-lt-mul_right, mul-le-mul_right}
use Rattle.std.proofs.lemmas.Nat.{pow-add}
use Rattle.grid.specs.Bounds.{IsWithin}
use Rattle.grid.proofs.Bounds.{IsWithin-mul}
use Rattle.grid.proofs.Sign.{mul_null}
use Rattle.grid.proofs.Ring.{var, plus, neg, times, ring}
use Rattle.gradients.specs.declared.plane.Plane.{Plane}
use Rattle.gradients.specs.declared.slope.Slope.{Slope}
use Rattle.gradients.specs.Candidate.{IsClose}
use Rattle.gradients.specs.Reciprocal.{IsGradient, IsExactGradient}
use Rattle.gradients.specs.Modulo.{IsModulo}
use Rattle.gradients.specs.Plane.{IsPlane, IsHeight, IsIncrement, IsReached}
use Rattle.gradients.proofs.Gradients.{over_product}
use Rattle.gradients.proofs.Modulos.{modulo_sum, modulo_through}

-- the sum of two high halves, modulo 2^32, is below the high half of the sum by at most one
pub record IsHalf (z f : ℕ) : Type 0 where
  pub low : f * 2 ^ 32 ≤ z
  pub high : z < f * 2 ^ 32 + 2 ^ 33

halves : (a b z t : ℕ) → a < 2 ^ 64 → b < 2 ^ 64 → 2 ^ 33 ≤ z → z < 2 ^ 64 → a + b ≡ z + t * 2 ^ 64 → t < 2 → IsHalf z ((a / 2 ^ 32 + b / 2 ^ 32) % 2 ^ 32)
halves a b z t h k low high e less = record { low = omega arith; high = omega arith }

turns_few : (a b z : ℕ) (t : ℤ) → a < 2 ^ 64 → b < 2 ^ 64 → z < 2 ^ 64 → pos (a + b) ≡ pos z +ℤ t *ℤ pos (2 ^ 64) → (u : ℕ) × (u < 2) × (a + b ≡ z + u * 2 ^ 64)
turns_few a b z (pos t) h k l e = (t, omega (arith, ints, e), omega (arith, ints, e))
turns_few a b z (negsuc t) h k l e = absurd (omega (arith, ints, e))

-- ---- the height, multiplied by the area
-- z is more than two units of 2^32 above the numerator by the area, and at most three.
pub record IsAbove (k n area z : ℕ) : Type 0 where
  pub low : n * 2 ^ (32 + k) + 2 ^ 33 * area < z * area
  pub high : z * area ≤ n * 2 ^ (32 + k) + 3 * 2 ^ 32 * area

candidate_of : (k n area z f : ℕ) → IsAbove k n area z → IsHalf z f → IsClose k n area f
candidate_of k n area z f h half =
    let power : n * 2 ^ (32 + k) ≡ n * (2 ^ 32 * 2 ^ k) = ap (λ m. n * m) (pow-add 2 32 k) in
    let least : f * 2 ^ 32 * area ≤ z * area = mul-le-mul_right area half.low in
    let most : z * area ≤ (f * 2 ^ 32 + 2 ^ 33) * area = mul-le-mul_right area (omega (arith, half.high)) in
    let below : n * 2 ^ k * 2 ^ 32 < f * area * 2 ^ 32 = omega (arith, power, most, h.low) in
    let above : f * area * 2 ^ 32 ≤ (n * 2 ^ k + 3 * area) * 2 ^ 32 = omega (arith, power, least, h.high) in
    let low : n * 2 ^ k < f * area = lt_of_mul-lt-mul_right (2 ^ 32) below in
    record { low = omega (arith, low); high = omega (arith, above) }

above_low : (k n area z : ℕ) → IsAbove k n area z → 2 ^ 33 < z
above_low k n area z h =
    let product : 2 ^ 33 * area < z * area = omega (arith, h.low) in
    lt_of_mul-lt-mul_right area product

above_high : (k n area z : ℕ) → IsAbove k n area z → n * 2 ^ (32 + k) + 2 ^ 48 * area ≤ 2 ^ 64 * area → z < 2 ^ 64
above_high k n area z h most =
    let product : z * area < 2 ^ 64 * area = omega (arith, h.high, most) in
    lt_of_mul-lt-mul_right area product

-- the error of the height, multiplied by the area, is the gradients' errors by the distances
error : (v f s ax ay gx gy x y r b up nx ny : ℤ)
    → (v *ℤ f -ℤ ax *ℤ gx -ℤ ay *ℤ gy +ℤ up +ℤ (x *ℤ gx +ℤ y *ℤ gy) +ℤ (r *ℤ gx +ℤ b *ℤ gy)) *ℤ s
    ≡ (v *ℤ s +ℤ (x +ℤ r -ℤ ax) *ℤ nx +ℤ (y +ℤ b -ℤ ay) *ℤ ny) *ℤ f +ℤ up *ℤ s +ℤ (x +ℤ r -ℤ ax) *ℤ (gx *ℤ s -ℤ nx *ℤ f) +ℤ (y +ℤ b -ℤ ay) *ℤ (gy *ℤ s -ℤ ny *ℤ f)
error v f s ax ay gx gy x y r b up nx ny =
    ring (v ∷ f ∷ s ∷ ax ∷ ay ∷ gx ∷ gy ∷ x ∷ y ∷ r ∷ b ∷ up ∷ nx ∷ ny ∷ [])
    (times
    (plus (plus (plus (plus (plus (times (var 0) (var 1)) (neg (times (var 3) (var 5)))) (neg (times (var 4) (var 6)))) (var 11)) (plus (times (var 7) (var 5)) (times (var 8) (var 6)))) (plus (times (var 9) (var 5)) (times (var 10) (var 6))))
    (var 2))
    (plus
    (plus
    (plus
    (times (plus (plus (times (var 0) (var 2)) (times (plus (plus (var 7) (var 9)) (neg (var 3))) (var 12))) (times (plus (plus (var 8) (var 10)) (neg (var 4))) (var 13))) (var 1))
    (times (var 11) (var 2)))
    (times (plus (plus (var 7) (var 9)) (neg (var 3))) (plus (times (var 5) (var 2)) (neg (times (var 12) (var 1))))))
    (times (plus (plus (var 8) (var 10)) (neg (var 4))) (plus (times (var 6) (var 2)) (neg (times (var 13) (var 1))))))
    refl

-- the height at a point, which is not wrapped
pub height : ℕ → ℕ → Slope → Plane → ℤ → ℤ → ℤ → ℤ → ℤ
height f above s p x y r b =
    pos (s.first * f) -ℤ s.x *ℤ p.across -ℤ s.y *ℤ p.down +ℤ pos above +ℤ (x *ℤ p.across +ℤ y *ℤ p.down) +ℤ (r *ℤ p.across +ℤ b *ℤ p.down)

gradient_within : (bits area : ℕ) (n g : ℤ) → IsGradient bits area n g → IsWithin (2 * area) (g *ℤ pos area -ℤ n *ℤ pos (2 ^ bits))
gradient_within bits area n g h =
    let low = h.low in
    let high = h.high in
    record { low = omega (arith, ints); high = omega (arith, ints) }

pub area_some : (bits area : ℕ) (n g : ℤ) → IsGradient bits area n g → 0 < area
area_some bits area n g h =
    let low = h.low in
    let high = h.high in
    omega (arith, ints)

-- the same for any number that is the height
pub record IsHigh (k n area : ℕ) (h : ℤ) : Type 0 where
  pub z : ℕ
  pub is : h ≡ pos z
  pub above : IsAbove k n area z

high_from : (k n area : ℕ) (h e e' : ℤ) → 0 < area → h *ℤ pos area ≡ pos (n * 2 ^ (32 + k)) +ℤ pos ((2 ^ 33 + 2 ^ 28) * area) +ℤ e +ℤ e'
    → IsWithin ((2 ^ 23 + 2 ^ 20) * (2 * area)) e → IsWithin ((2 ^ 23 + 2 ^ 20) * (2 * area)) e' → IsHigh k n area h
high_from k n area (pos z) e e' some sum first second =
    record { z = z; is = refl; above = record { low = omega (arith, ints, sum); high = omega (arith, ints, sum) } }
high_from k n area (negsuc z) e e' some sum first second =
    let product = over_product (negsuc z) 0 area (omega (arith, ints, sum)) in
    absurd (omega (arith, ints, product))

high_near : (k n area : ℕ) (s : Slope) (p : Plane) (x y r b : ℤ) → IsPlane (32 + k) area s p → IsReached k area s (x +ℤ r) (y +ℤ b) n → IsHigh k n area (height (2 ^ (32 + k)) (2 ^ 33 + 2 ^ 28) s p x y r b)
unfolding height
high_near k n area s p x y r b plane reached =
    let f = 2 ^ (32 + k) in
    let sum = error (pos s.first) (pos f) (pos area) s.x s.y p.across p.down x y r b (pos (2 ^ 33 + 2 ^ 28)) s.across s.down in
    let value = ap (λ z. z *ℤ pos f) reached.value in
    high_from k n area _
    ((x +ℤ r -ℤ s.x) *ℤ (p.across *ℤ pos area -ℤ s.across *ℤ pos f))
    ((y +ℤ b -ℤ s.y) *ℤ (p.down *ℤ pos area -ℤ s.down *ℤ pos f))
    (area_some (32 + k) area s.across p.across plane.across)
    (sum ∙ ap (λ z. z +ℤ pos ((2 ^ 33 + 2 ^ 28) * area) +ℤ (x +ℤ r -ℤ s.x) *ℤ (p.across *ℤ pos area -ℤ s.across *ℤ pos f) +ℤ (y +ℤ b -ℤ s.y) *ℤ (p.down *ℤ pos area -ℤ s.down *ℤ pos f)) value)
    (IsWithin-mul _ _ (2 ^ 23 + 2 ^ 20) (2 * area) reached.near_x (gradient_within (32 + k) area s.across p.across plane.across))
    (IsWithin-mul _ _ (2 ^ 23 + 2 ^ 20) (2 * area) reached.near_y (gradient_within (32 + k) area s.down p.down plane.down))

-- a plane whose gradients have no error is exact
high_whole : (k n area : ℕ) (h : ℤ) → 0 < area → h *ℤ pos area ≡ pos (n * 2 ^ (32 + k)) +ℤ pos (3 * 2 ^ 32 * area) → IsHigh k n area h
high_whole k n area (pos z) some sum =
    record { z = z; is = refl; above = record { low = omega (arith, ints, sum); high = omega (arith, ints, sum) } }
high_whole k n area (negsuc z) some sum =
    let product = over_product (negsuc z) 0 area (omega (arith, ints, sum)) in
    absurd (omega (arith, ints, product))

no_error : (w g n : ℤ) (area f : ℕ) → g *ℤ pos area ≡ n *ℤ pos f → w *ℤ (g *ℤ pos area -ℤ n *ℤ pos f) ≡ pos 0
no_error w g n area f e = mul_null w (g *ℤ pos area -ℤ n *ℤ pos f) (omega (arith, ints, e))

high_exact : (k n area : ℕ) (s : Slope) (p : Plane) (x y r b : ℤ) → IsPlane (32 + k) area s p → IsReached k area s (x +ℤ r) (y +ℤ b) n
    → IsExactGradient (32 + k) area s.across p.across → IsExactGradient (32 + k) area s.down p.down → IsHigh k n area (height (2 ^ (32 + k)) (3 * 2 ^ 32) s p x y r b)
unfolding height
high_exact k n area s p x y r b plane reached e g =
    let f = 2 ^ (32 + k) in
    let sum = error (pos s.first) (pos f) (pos area) s.x s.y p.across p.down x y r b (pos (3 * 2 ^ 32)) s.across s.down in
    let value = ap (λ z. z *ℤ pos f) reached.value in
    let first = no_error (x +ℤ r -ℤ s.x) p.across s.across area f e in
    let second = no_error (y +ℤ b -ℤ s.y) p.down s.down area f g in
    high_whole k n area _ (area_some (32 + k) area s.across p.across plane.across) (omega (arith, ints, sum, value, first, second))

high : (k n area : ℕ) (s : Slope) (p : Plane) (x y r b : ℤ) → (plane : IsPlane (32 + k) area s p) → IsReached k area s (x +ℤ r) (y +ℤ b) n → IsHigh k n area (height (2 ^ (32 + k)) plane.above s p x y r b)
high k n area s p x y r b plane reached =
    elim plane.margin [
      | inl e ↦ rw e (high_near k n area s p x y r b plane reached)
      | inr e ↦ rw e.0 (high_exact k n area s p x y r b plane reached e.1 e.2)
    ]

height_modulo : (bits area : ℕ) (s : Slope) (p : Plane) (x y r b : ℤ) (m n : ℕ) → (plane : IsPlane bits area s p) → IsHeight p x y m → IsIncrement p r b n → IsModulo (height (2 ^ bits) plane.above s p x y r b) (m + n)
unfolding height
height_modulo bits area s p x y r b m n plane whole part =
    modulo_sum _ (r *ℤ p.across +ℤ b *ℤ p.down) m n (modulo_through _ (x *ℤ p.across +ℤ y *ℤ p.down) p.start m plane.start whole) part

pub candidate_is : (k n area : ℕ) (s : Slope) (p : Plane) (x y r b : ℤ) (m w : ℕ) → m < 2 ^ 64 → w < 2 ^ 64 → IsPlane (32 + k) area s p → IsHeight p x y m → IsIncrement p r b w
    → IsReached k area s (x +ℤ r) (y +ℤ b) n → IsClose k n area ((m / 2 ^ 32 + w / 2 ^ 32) % 2 ^ 32)
candidate_is k n area s p x y r b m w m_fits w_fits plane whole part reached =
    let up = high k n area s p x y r b plane reached in
    let modulo = height_modulo (32 + k) area s p x y r b m w plane whole part in
    let sum : pos (m + w) ≡ pos up.z +ℤ modulo.turns *ℤ pos (2 ^ 64) = modulo.sum ∙ ap (λ z. z +ℤ modulo.turns *ℤ pos (2 ^ 64)) up.is in
    let low = above_low k n area up.z up.above in
    let most = above_high k n area up.z up.above reached.most in
    let turns = turns_few m w up.z modulo.turns m_fits w_fits most sum in
    candidate_of k n area up.z _ up.above (halves m w up.z turns.0 m_fits w_fits (omega (arith, low)) most turns.2 turns.1)
