-- The plane of a slope, as the code forms it.
use Rattle.std.proofs.Common.{◌≡◌, refl, [], ◌∷◌, List, get_or, length, ℕ, ◌+◌, ◌-◌, ◌*◌, ◌/◌, ◌%◌, ◌<◌, ◌^◌, FitsSigned, w32, w64, to_z, of_z, ℤ, pos, ◌*ℤ◌, ◌+ℤ◌}
use Rattle.std.specs.Prelude.{replicate}
use lib.Lanes.{zip2}
use Rattle.std.proofs.lemmas.Int.{to_z-of_z}
use Rattle.grid.proofs.Ring.{var, lit, plus, times, ring}
use Rattle.gradients.specs.declared.plane.Plane.{Plane}
use Rattle.gradients.specs.declared.slope.Slope.{Slope}
use Rattle.gradients.specs.Reciprocal.{IsGradient}
use Rattle.gradients.specs.Modulo.{IsModulo}
use Rattle.gradients.specs.Plane.{IsMargin, IsPlane, IsNumeratorPlane, IsIncrement, IsHeight, IsHighPart}
use Rattle.gradients.proofs.Lanes.{itself, zipped, splat}
use Rattle.gradients.proofs.Modulos.{modulo_self, modulo_rest, wrapped_sum, wrapped_difference}

pub plane_of : (bits area : ℕ) (s : Slope) (a d : ℤ) (from m n : ℕ)
    → FitsSigned w32 s.x → FitsSigned w32 s.y → FitsSigned w64 s.across → FitsSigned w64 s.down → FitsSigned w64 a → FitsSigned w64 d → m < 2 ^ 64 → n < 2 ^ 64 → from ≡ s.first
    → IsGradient bits area (to_z w64 (of_z w64 s.across)) a → IsGradient bits area (to_z w64 (of_z w64 s.down)) d
    → IsModulo (to_z w32 (of_z w32 s.x) *ℤ to_z w64 (of_z w64 a)) m → IsModulo (to_z w32 (of_z w32 s.y) *ℤ to_z w64 (of_z w64 d)) n
    → (above : ℕ) → IsMargin bits area s a d above
    → IsPlane bits area s (record {
      start = (((from * 2 ^ bits % 2 ^ 64 + (2 ^ 64 - m)) % 2 ^ 64 + (2 ^ 64 - n)) % 2 ^ 64 + above) % 2 ^ 64;
      across = to_z w64 (of_z w64 a);
      down = to_z w64 (of_z w64 d);
    })
plane_of bits area s a d from m n fx fy fs ft fa fd m_fits n_fits e h k right below above margin =
    let across = rw (to_z-of_z w64 s.across fs) at h in
    let down = rw (to_z-of_z w64 s.down ft) at k in
    let first = rw (to_z-of_z w32 s.x fx, to_z-of_z w64 a fa) at right in
    let second = rw (to_z-of_z w32 s.y fy, to_z-of_z w64 d fd) at below in
    let start : IsModulo (pos (s.first * 2 ^ bits)) (from * 2 ^ bits) = rw e (modulo_self (s.first * 2 ^ bits)) in
    let translated = wrapped_difference _ _ _ n n_fits (wrapped_difference _ _ _ m m_fits (modulo_rest _ _ start) first) second in
    rw (to_z-of_z w64 a fa, to_z-of_z w64 d fd) (record { across = across; down = down; above = above; margin = margin; start = wrapped_sum _ _ _ _ translated (modulo_self above) })

pub part_of : (x y a d : ℤ) (m n : ℕ) → FitsSigned w32 x → FitsSigned w32 y → FitsSigned w64 a → FitsSigned w64 d
    → IsModulo (to_z w32 (of_z w32 x) *ℤ to_z w64 (of_z w64 a)) m → IsModulo (to_z w32 (of_z w32 y) *ℤ to_z w64 (of_z w64 d)) n
    → IsModulo (x *ℤ a +ℤ y *ℤ d) ((m + n) % 2 ^ 64)
part_of x y a d m n fx fy fa fd right below =
    let first = rw (to_z-of_z w32 x fx, to_z-of_z w64 a fa) at right in
    let second = rw (to_z-of_z w32 y fy, to_z-of_z w64 d fd) at below in
    wrapped_sum _ _ _ _ first second

pub height_of : (x y a d : ℤ) (start m : ℕ) → FitsSigned w32 x → FitsSigned w32 y
    → IsModulo (to_z w32 (of_z w32 x) *ℤ a +ℤ to_z w32 (of_z w32 y) *ℤ d) m
    → IsModulo (pos start +ℤ (x *ℤ a +ℤ y *ℤ d)) ((start + m) % 2 ^ 64)
height_of x y a d start m fx fy h =
    let part = rw (to_z-of_z w32 x fx, to_z-of_z w32 y fy) at h in
    wrapped_sum _ _ _ _ (modulo_self start) part

-- ---- lanes, which are stepped by additions
pub passed : (distance g : ℤ) (n : ℕ) → FitsSigned w64 g → IsModulo (distance *ℤ to_z w64 (of_z w64 g)) n → IsModulo (distance *ℤ g) n
passed distance g n fits h = rw (to_z-of_z w64 g fits) at h

pub nothing : (g : ℤ) → IsModulo (pos 0 *ℤ g) 0
nothing g =
    let none : pos 0 *ℤ g ≡ pos 0 = ring (g ∷ []) (times (lit (pos 0)) (var 0)) (lit (pos 0)) refl in
    rw none (modulo_self 0)

-- the growth over two distances across and one down, one after another
pub grown : (p : Plane) (x y z : ℤ) (l m n : ℕ) → IsModulo (x *ℤ p.across) l → IsModulo (y *ℤ p.across) m → IsModulo (z *ℤ p.down) n → IsIncrement p (x +ℤ y) z (((l + m) % 2 ^ 64 + n) % 2 ^ 64)
grown p x y z l m n h k j =
    let both : x *ℤ p.across +ℤ y *ℤ p.across ≡ (x +ℤ y) *ℤ p.across =
    ring (x ∷ y ∷ p.across ∷ []) (plus (times (var 0) (var 2)) (times (var 1) (var 2))) (times (plus (var 0) (var 1)) (var 2)) refl in
    wrapped_sum _ _ _ _ (rw both at (wrapped_sum _ _ _ _ h k)) j

pub half_of : (p : Plane) (x y : ℤ) (m : ℕ) → m < 2 ^ 64 → IsIncrement p x y m → IsHighPart p x y (m / 2 ^ 32)
half_of p x y m fits h = record { part = m; fits = fits; is_part = h; is = refl }

-- the heights at sixteen pixels
translated : (start x y r b a d : ℤ) → start +ℤ (x *ℤ a +ℤ y *ℤ d) +ℤ (r *ℤ a +ℤ b *ℤ d) ≡ start +ℤ ((x +ℤ r) *ℤ a +ℤ (y +ℤ b) *ℤ d)
translated start x y r b a d =
    ring (start ∷ x ∷ y ∷ r ∷ b ∷ a ∷ d ∷ [])
    (plus (plus (var 0) (plus (times (var 1) (var 5)) (times (var 2) (var 6)))) (plus (times (var 3) (var 5)) (times (var 4) (var 6))))
    (plus (var 0) (plus (times (plus (var 1) (var 3)) (var 5)) (times (plus (var 2) (var 4)) (var 6)))) refl

pub heights_of : (p : Plane) (x y right below : ℤ) (h : ℕ) (parts : List ℕ) (i : ℕ) → FitsSigned w32 x → FitsSigned w32 y → i < 16 → length parts ≡ 16
    → IsHeight p (to_z w32 (of_z w32 x)) (to_z w32 (of_z w32 y)) h → IsIncrement p right below (get_or parts i 0)
    → IsHeight p (x +ℤ right) (y +ℤ below) (get_or (zip2 (λ m n. (m + n) % 2 ^ 64) (replicate 16 h) parts) i 0)
heights_of p x y right below h parts i fx fy l long high part =
    let here = rw (to_z-of_z w32 x fx, to_z-of_z w32 y fy) at high in
    let sum = wrapped_sum _ _ _ _ here part in
    let all = zipped (λ m n. (m + n) % 2 ^ 64) (replicate 16 h) parts _ _ (splat h) (itself parts long) in
    rw (all.each i l) (rw (translated (pos p.start) x y right below p.across p.down) at sum)

-- the plane of a slope that does not grow
-- the numerator as a plane
pub numerator_of : (area : ℕ) (s : Slope) (from m n : ℕ) → FitsSigned w32 s.x → FitsSigned w32 s.y → FitsSigned w64 s.across → FitsSigned w64 s.down → m < 2 ^ 64 → n < 2 ^ 64 → from ≡ s.first
    → IsModulo (to_z w32 (of_z w32 s.x) *ℤ to_z w64 (of_z w64 s.across)) m → IsModulo (to_z w32 (of_z w32 s.y) *ℤ to_z w64 (of_z w64 s.down)) n
    → IsNumeratorPlane area s (record {
      start = ((from * area % 2 ^ 64 + (2 ^ 64 - m)) % 2 ^ 64 + (2 ^ 64 - n)) % 2 ^ 64;
      across = to_z w64 (of_z w64 s.across);
      down = to_z w64 (of_z w64 s.down);
    })
numerator_of area s from m n fx fy fs ft m_fits n_fits e right below =
    let first = rw (to_z-of_z w32 s.x fx, to_z-of_z w64 s.across fs) at right in
    let second = rw (to_z-of_z w32 s.y fy, to_z-of_z w64 s.down ft) at below in
    let start : IsModulo (pos (s.first * area)) (from * area) = rw e (modulo_self (s.first * area)) in
    let translated = wrapped_difference _ _ _ n n_fits (wrapped_difference _ _ _ m m_fits (modulo_rest _ _ start) first) second in
    rw (to_z-of_z w64 s.across fs, to_z-of_z w64 s.down ft) (record { across = refl; down = refl; start = translated })
