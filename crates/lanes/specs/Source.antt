-- What is drawn at the samples of a block.
use Rattle.std.specs.Prelude.{◌≡◌}
use Rattle.grid.specs.Position.{Position}
use Rattle.grid.specs.Triangle.{Covers}
use Rattle.shade.specs.declared.placed.Placed.{Placed}
use Rattle.shade.specs.declared.sample.CanvasSample.{CanvasSample}
use Rattle.shade.specs.declared.sample.Merge.{Merge}
use Rattle.shade.specs.declared.sample.Shaded.{Shaded}
use Rattle.shade.specs.Canvas.{IsCanvasApplied}
use Rattle.shade.specs.Placed.{IsFragmentAt}
use Rattle.lanes.specs.declared.source.Source.{Source}
use Rattle.lanes.specs.declared.source.Source.TheVariants.{Triangle, Fragment}
use Rattle.lanes.specs.Mode.{IsDepthBy, IsColourBy}

-- The fragment is that of a triangle of this merge at a point that the triangle covers.
pub record IsOfTriangle (m : Merge) (t : Placed) (p : Position) (f : Shaded) : Type 0 where
  pub same : t.state.merge ≡ m
  pub covered : Covers t.tri.a t.tri.b t.tri.c p
  pub is : IsFragmentAt t p f

-- The source gives this fragment at a point.
abbrev pub GivesFragment : Merge → Source → Position → Shaded → Type 0
GivesFragment m (Triangle t depth colour) p f = IsOfTriangle m t.now p f
GivesFragment m (Fragment shaded) p f = f ≡ shaded.now

-- A triangle's depth and colour can be computed in their modes.
abbrev pub IsReadySource : Source → Type 0
IsReadySource (Triangle t depth colour) = IsDepthBy t.now depth.now × IsColourBy t.now colour.now
IsReadySource (Fragment shaded) = Unit {0}

-- The sample at a point takes each fragment that the source gives there.
abbrev pub TakesFrom : Merge → Source → Position → CanvasSample → CanvasSample → Type 0
TakesFrom m source p old new = (f : Shaded) → GivesFragment m source p f → IsCanvasApplied m f old new
