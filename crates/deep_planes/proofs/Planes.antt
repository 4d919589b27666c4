-- The plane of a depth, as the code forms it.
use Rattle.std.proofs.Common.{◌≡◌, ℕ, ◌+◌, ◌-◌, ◌*◌, ◌%◌, ◌<◌, ◌^◌, FitsSigned, w32, w64, to_z, of_z, ℤ, pos, ◌*ℤ◌}
use Rattle.std.proofs.lemmas.Int.{to_z-of_z}
use Rattle.gradients.specs.Reciprocal.{IsGradient}
use Rattle.gradients.specs.Modulo.{IsModulo}
use Rattle.gradients.proofs.Modulos.{modulo_self, modulo_rest, wrapped_sum, wrapped_difference}
use Rattle.deep_planes.specs.declared.slope.Slope.{Slope}
use Rattle.deep_planes.specs.Plane.{IsPlaneOfDepth}

pub plane_of : (s : Slope) (a d : ℤ) (from m n : ℕ)
    → FitsSigned w32 s.x → FitsSigned w32 s.y → FitsSigned w64 s.across → FitsSigned w64 s.down → FitsSigned w64 a → FitsSigned w64 d → m < 2 ^ 64 → n < 2 ^ 64 → from ≡ s.first
    → IsGradient 32 s.area (to_z w64 (of_z w64 s.across)) a → IsGradient 32 s.area (to_z w64 (of_z w64 s.down)) d
    → IsModulo (to_z w32 (of_z w32 s.x) *ℤ to_z w64 (of_z w64 a)) m → IsModulo (to_z w32 (of_z w32 s.y) *ℤ to_z w64 (of_z w64 d)) n
    → IsPlaneOfDepth s (record {
      start = (((from * 2 ^ 32 % 2 ^ 64 + (2 ^ 64 - m)) % 2 ^ 64 + (2 ^ 64 - n)) % 2 ^ 64 + 2 ^ 26) % 2 ^ 64;
      across = to_z w64 (of_z w64 a);
      down = to_z w64 (of_z w64 d);
    })
plane_of s a d from m n fx fy fs ft fa fd m_fits n_fits e h k right below =
    let across = rw (to_z-of_z w64 s.across fs) at h in
    let down = rw (to_z-of_z w64 s.down ft) at k in
    let first = rw (to_z-of_z w32 s.x fx, to_z-of_z w64 a fa) at right in
    let second = rw (to_z-of_z w32 s.y fy, to_z-of_z w64 d fd) at below in
    let start : IsModulo (pos (s.first * 2 ^ 32)) (from * 2 ^ 32) = rw e (modulo_self (s.first * 2 ^ 32)) in
    let translated = wrapped_difference _ _ _ n n_fits (wrapped_difference _ _ _ m m_fits (modulo_rest _ _ start) first) second in
    rw (to_z-of_z w64 a fa, to_z-of_z w64 d fd) (record { across = across; down = down; start = wrapped_sum _ _ _ _ translated (modulo_self (2 ^ 26)) })
