-- The plane of a triangle's depth.
use Rattle.std.specs.Prelude.{ℕ, IfSome, List, Option, slice_index}
use Rattle.grid.specs.Position.{Position}
use Rattle.deep_planes.specs.declared.slope.Slope.{Slope}
use Rattle.deep_planes.specs.declared.lane_plane.LanePlane.{LanePlane}
use Rattle.deep_planes.specs.Slope.{Are32Bit, IsDepthSlope}
use Rattle.deep_planes.specs.Plane.{IsPlaneOfDepth, AreIncrementsOf}

-- l is the plane of the depth of the triangle abc, which has the depths z at its vertices.
pub record IsPlaneOfTriangle (a b c : Position) (z : List ℕ) (l : LanePlane) : Type 0 where
  pub slope : Slope
  pub bits : Are32Bit (slice_index z 0) (slice_index z 1) (slice_index z 2)
  pub is_slope : IsDepthSlope a b c (slice_index z 0) (slice_index z 1) (slice_index z 2) slope
  pub is_plane : IsPlaneOfDepth slope l.plane
  pub lanes : AreIncrementsOf l.plane l.lanes

-- The plane of a triangle, if it has one, is that of its depth.
abbrev pub IsMadeOf : Position → Position → Position → List ℕ → Option LanePlane → Type 0
IsMadeOf a b c z plane = IfSome plane (λ l. IsPlaneOfTriangle a b c z l)
