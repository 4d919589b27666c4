-- How depth and colour are computed at samples.
use Rattle.std.specs.Prelude.{◌≡◌, ℕ, List, false, slice_index}
use Rattle.grid.specs.Position.{Position}
use Rattle.grid.specs.Triangle.{Covers}
use Rattle.shade.specs.declared.depth.DepthTest.TheVariants.{Always}
use Rattle.shade.specs.declared.placed.Placed.{Placed}
use Rattle.shade.specs.declared.sample.CanvasSample.{CanvasSample}
use Rattle.shade.specs.declared.sample.Merge.{Merge}
use Rattle.shade.specs.declared.sample.Shaded.{Shaded}
use Rattle.shade.specs.Canvas.{IsCanvasApplied}
use Rattle.shade.specs.Merging.{Writes, ReadsAlpha}
use Rattle.shade.specs.Placed.{channel, IsFragmentAt, IsInterpolated}
use Rattle.gradients.specs.AttributePlane.{IsDepthPlane, AreColourPlanes}
use Rattle.gradients.specs.declared.depth_plane.DepthPlane.{DepthPlane}
use Rattle.gradients.specs.declared.colour_planes.ColourPlanes.{ColourPlanes}
use Rattle.lanes.specs.declared.sources.DepthSource.{DepthSource}
use Rattle.lanes.specs.declared.sources.DepthSource.TheVariants.{Unused, Flat, Plane}
use Rattle.lanes.specs.declared.sources.ColourSource.{ColourSource}
use Rattle.lanes.specs.declared.sources.ColourSource.TheVariants as colour

-- The depth has no part in a merge: each depth passes, and none is stored.
pub record NeedsNoDepth (m : Merge) : Type 0 where
  pub passes : m.test ≡ Always
  pub unstored : m.depth_write ≡ false

-- The plane has the triangle's depth z at a point that the triangle covers.
pub record HasDepthAt (t : Placed) (plane : DepthPlane) (p : Position) (z : ℕ) : Type 0 where
  pub is_plane : IsDepthPlane t plane
  pub covered : Covers t.tri.a t.tri.b t.tri.c p
  pub is : IsInterpolated t p t.z z

-- The source gives this depth at a point, if it has a part in the merge.
abbrev pub GivesDepth : Merge → DepthSource → Position → ℕ → Type 0
GivesDepth m Unused p z = NeedsNoDepth m
GivesDepth m (Flat v) p z = z ≡ v
GivesDepth m (Plane t plane) p z = HasDepthAt t.now plane.now p z

-- The fragment has this red, green and blue if they are written, and this alpha if the merge reads it.
pub record HasColour (m : Merge) (rgba : List ℕ) (f : Shaded) : Type 0 where
  pub red : Writes m 0 → f.r ≡ slice_index rgba 0
  pub green : Writes m 1 → f.g ≡ slice_index rgba 1
  pub blue : Writes m 2 → f.b ≡ slice_index rgba 2
  pub alpha : ReadsAlpha m → f.a ≡ slice_index rgba 3

-- The planes have the colour of the triangle's fragment at a point that the triangle covers.
pub record HasColourAt (m : Merge) (t : Placed) (planes : ColourPlanes) (p : Position) (f : Shaded) : Type 0 where
  pub same : t.state.merge ≡ m
  pub are_planes : AreColourPlanes t planes
  pub covered : Covers t.tri.a t.tri.b t.tri.c p
  pub is : IsFragmentAt t p f

-- The source gives the fragment's colour at a point in the channels that are written, and its alpha if the merge reads it.
abbrev pub GivesColour : Merge → ColourSource → Position → Shaded → Type 0
GivesColour m (colour.Flat rgba) p f = HasColour m rgba f
GivesColour m (colour.Planes t planes) p f = HasColourAt m t.now planes.now p f

-- The sample at a point takes each fragment that the sources give there.
abbrev pub TakesGiven : Merge → DepthSource → ColourSource → Position → CanvasSample → CanvasSample → Type 0
TakesGiven m depth colour p old new = (f : Shaded) → GivesDepth m depth p f.z → GivesColour m colour p f → IsCanvasApplied m f old new

-- The three vertices have the same value v.
pub record IsFlat (values : List ℕ) (v : ℕ) : Type 0 where
  pub first : slice_index values 0 ≡ v
  pub second : slice_index values 1 ≡ v
  pub third : slice_index values 2 ≡ v

-- The source gives the triangle's depth.
abbrev pub IsDepthOf : Placed → DepthSource → Type 0
IsDepthOf t Unused = NeedsNoDepth t.state.merge
IsDepthOf t (Flat z) = IsFlat t.z z
IsDepthOf t (Plane q p) = (q.now ≡ t) × IsDepthPlane t p.now

-- The vertices have the same red, green and blue if they are written, and the same alpha if the draw reads it.
pub record IsFlatColour (t : Placed) (rgba : List ℕ) : Type 0 where
  pub red : Writes t.state.merge 0 → IsFlat (channel t 0) (slice_index rgba 0)
  pub green : Writes t.state.merge 1 → IsFlat (channel t 1) (slice_index rgba 1)
  pub blue : Writes t.state.merge 2 → IsFlat (channel t 2) (slice_index rgba 2)
  pub alpha : ReadsAlpha t.state.merge → IsFlat (channel t 3) (slice_index rgba 3)

-- The source gives the triangle's colour in the channels that are written, and its alpha if the draw reads it.
abbrev pub IsColourOf : Placed → ColourSource → Type 0
IsColourOf t (colour.Flat rgba) = IsFlatColour t rgba
IsColourOf t (colour.Planes q p) = (q.now ≡ t) × AreColourPlanes t p.now
