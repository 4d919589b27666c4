use Rattle.std.specs.Prelude.{ℕ, ◌*◌, ◌^◌}
use Rattle.std.specs.Int.RustNames.{unsigned_abs}
use Rattle.grid.specs.Position.{Position}
use Rattle.grid.specs.Triangle.{doubled_area}
use Rattle.shade.specs.Quotient.{IsQuotient}
use Rattle.shade.specs.Value.{weighted_sum}

-- The depth that a 24-bit unorm depth buffer keeps at a covered point p of a triangle abc with the vertex depths u, v, w.
-- Vertex depths have 32 bits, and depth is linear in screen space (Direct3D 11). The depth of 32 bits at p is the weighted sum
-- divided by the absolute doubled area, and the buffer keeps its upper 24 bits. Both steps round down (this project's rule), so one
-- division makes both.
abbrev pub IsDepthAt : Position → Position → Position → Position → ℕ → ℕ → ℕ → ℕ → Type 0
IsDepthAt a b c p u v w = IsQuotient (weighted_sum a b c p u v w) (2 ^ 8 * unsigned_abs (doubled_area a b c))
