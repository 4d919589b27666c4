-- How a triangle is drawn.
use Rattle.std.specs.Prelude.{◌≡◌, Bool, true, false, [], ◌∷◌, Option, None, Some}
use Rattle.shade.specs.declared.placed.Placed.{Placed}
use Rattle.shade.specs.declared.sample.Merge.{Merge}
use Rattle.shade.specs.declared.equation.Equation.{Equation}
use Rattle.shade.specs.declared.known.KnownEquation.{KnownEquation}
use Rattle.shade.specs.declared.known.KnownEquation.TheVariants.{Replace, Over}
use Rattle.lanes.specs.declared.mode.DepthMode.{DepthMode}
use Rattle.lanes.specs.declared.mode.DepthMode.TheVariants.{Unused, Flat, Plane}
use Rattle.lanes.specs.declared.mode.ColourMode.{ColourMode}
use Rattle.lanes.specs.declared.mode.ColourMode.TheVariants as colour
use Rattle.lanes.specs.declared.mode.DrawMode.{DrawMode}
use Rattle.lanes.specs.declared.mode.DrawMode.TheVariants as draw
use Rattle.lanes.specs.declared.mode.Depth.{Depth}
use Rattle.lanes.specs.declared.mode.Colour.{Colour}
use Rattle.shade.specs.Presets.{AreAlike, IsKnown, replace, premultiplied_over}
use Rattle.gradients.specs.AttributePlane.{IsDepthPlane, AreColourPlanes}
use Rattle.lanes.specs.Sources.{NeedsNoDepth, IsFlat, IsFlatColour}

-- What has to hold so that a triangle's depth can be computed in this mode.
abbrev pub IsDepthMode : Placed → DepthMode → Type 0
IsDepthMode t Unused = NeedsNoDepth t.state.merge
IsDepthMode t (Flat z) = IsFlat t.z z
IsDepthMode t Plane = Unit {0}

-- The mode takes the depth from a plane.
abbrev pub IsByPlane : DepthMode → Type 0
IsByPlane mode = mode ≡ Plane

-- The triangle's depth can be computed in this mode, by this plane if the mode needs one.
pub record IsDepthBy (t : Placed) (d : Depth) : Type 0 where
  pub is_mode : IsDepthMode t d.mode
  pub is_plane : IsByPlane d.mode → IsDepthPlane t d.plane

-- What has to hold so that a triangle's colour can be computed in this mode, in the channels that the draw reads.
abbrev pub IsColourMode : Placed → ColourMode → Type 0
IsColourMode t (colour.Flat rgba) = IsFlatColour t rgba
IsColourMode t colour.Planes = Unit {0}

-- The mode takes the colour from planes.
abbrev pub IsByPlanes : ColourMode → Type 0
IsByPlanes mode = mode ≡ colour.Planes

-- The triangle's colour can be computed in this mode, by these planes if the mode needs them.
pub record IsColourBy (t : Placed) (c : Colour) : Type 0 where
  pub is_mode : IsColourMode t c.mode
  pub are_planes : IsByPlanes c.mode → AreColourPlanes t c.planes

-- Where alpha is written, the equation of alpha is that of the blend state `over`, or of `none`.
abbrev pub IsAlphaKnown : Bool → Bool → Equation → Type 0
IsAlphaKnown over false e = Unit {0}
IsAlphaKnown false true e = AreAlike e replace
IsAlphaKnown true true e = AreAlike e premultiplied_over

-- The merge writes red, green and blue.
abbrev pub WritesEachColour : Merge → Type 0
WritesEachColour m = m.write ≡ true ∷ true ∷ true ∷ []

-- The merge writes red, green and blue, and alpha or not.
pub record WritesColours (over alpha : Bool) (m : Merge) : Type 0 where
  pub colours : WritesEachColour m
  pub with_alpha : m.blend.write_alpha ≡ alpha
  pub alpha_known : IsAlphaKnown over alpha m.blend.alpha

-- The merge writes neither red, green and blue nor alpha.
pub record WritesNoColour (m : Merge) : Type 0 where
  pub colours : m.write ≡ false ∷ false ∷ false ∷ []
  pub without_alpha : m.blend.write_alpha ≡ false

-- Samples can be merged sixteen at once in this mode, by the equation of the merge. The two
-- equations of draw lists have modes of their own, in which red, green and blue are written, and alpha is not, or by the blend state
-- of this equation. Any equation has a mode in which red, green and blue are written, and that of `none` one in which nothing but depths is.
abbrev pub IsMergeMode : Merge → DrawMode → Type 0
IsMergeMode m draw.Replace = IsKnown Replace m.blend.colour × WritesColours false false m
IsMergeMode m draw.Over = IsKnown Over m.blend.colour × WritesColours true false m
IsMergeMode m draw.ReplaceWithAlpha = IsKnown Replace m.blend.colour × WritesColours false true m
IsMergeMode m draw.OverWithAlpha = IsKnown Over m.blend.colour × WritesColours true true m
IsMergeMode m draw.Blend = WritesEachColour m
IsMergeMode m draw.Depths = IsKnown Replace m.blend.colour × WritesNoColour m
IsMergeMode m (draw.Otherwise known) = IsKnown known m.blend.colour

-- The triangle can be drawn in this mode by this depth and this colour. Without a mode it is drawn sample by sample, which every triangle can be.
abbrev pub IsReady : Placed → Option DrawMode → Depth → Colour → Type 0
IsReady t None depth colour = Unit {0}
IsReady t (Some mode) depth colour = IsMergeMode t.state.merge mode × IsDepthBy t depth × IsColourBy t colour

-- The colour equation of a draw list's `over`, or of its `none`.
abbrev pub known_of : Bool → KnownEquation
known_of false = Replace
known_of true = Over
