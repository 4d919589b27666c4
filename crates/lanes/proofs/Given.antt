-- What the sources of a triangle give at a point that it covers is its fragment there.
use Rattle.std.proofs.Common.{refl, sym, subst, ℕ, ◌<◌, List, IsBitSet, slice_index}
use Rattle.grid.specs.Position.{Position}
use Rattle.grid.specs.Samples.{part_size}
use Rattle.grid.specs.Triangle.{Covers}
use Rattle.gradients.specs.Group.{position_in}
use Rattle.shade.specs.declared.placed.Placed.{Placed}
use Rattle.shade.specs.declared.sample.CanvasSample.{CanvasSample}
use Rattle.shade.specs.declared.sample.Merge.{Merge}
use Rattle.shade.specs.declared.sample.Shaded.{Shaded}
use Rattle.shade.specs.Canvas.{IsCanvasApplied, IsCanvasDrawnAt}
use Rattle.shade.specs.Placed.{IsFragmentAt}
use Rattle.shade.proofs.Drawn.{fragment}
use Rattle.shade.proofs.Values.{quotient-unique}
use Rattle.lanes.specs.declared.block_mask.BlockMask.{BlockMask}
use Rattle.lanes.specs.declared.block_samples.BlockSamples.{BlockSamples}
use Rattle.lanes.specs.declared.source.Source.{Source}
use Rattle.lanes.specs.declared.sources.DepthSource.{DepthSource}
use Rattle.lanes.specs.declared.sources.DepthSource.TheVariants.{Unused, Flat, Plane}
use Rattle.lanes.specs.declared.sources.ColourSource.{ColourSource}
use Rattle.lanes.specs.declared.sources.ColourSource.TheVariants as colour
use Rattle.lanes.specs.BlockMask.{first_of, CoversBlock, IsBlockDrawn, IsBlockDrawnBy}
use Rattle.lanes.specs.Sources.{GivesDepth, GivesColour, HasColourAt, IsDepthOf, IsColourOf, TakesGiven}
use Rattle.lanes.specs.Source.{GivesFragment, IsOfTriangle, TakesFrom}
use Rattle.lanes.proofs.Flat.{flat_value}

-- what is made of the samples in the masks of a block, said in another way
pub made_otherwise : (D E : Position → CanvasSample → CanvasSample → Type 0) (m : BlockMask) (old new : List BlockSamples)
    → ((s k : ℕ) → s < part_size m.count → k < 64 → IsBitSet (slice_index m.plane s) k → (x y : CanvasSample) → D (position_in (first_of m s) k) x y → E (position_in (first_of m s) k) x y)
    → IsBlockDrawnBy D m old new → IsBlockDrawnBy E m old new
made_otherwise D E m old new is h s l =
    let drawn = h s l in
    record { drawn = λ j from few set. is s j l few set _ _ (drawn.drawn j from few set); kept = drawn.kept; below = drawn.below; above = drawn.above }

module _ (t : Placed) (p : Position) (covers : Covers t.tri.a t.tri.b t.tri.c p) (f : Shaded) (is : IsFragmentAt t p f) where
  pub depth_given : (depth : DepthSource) → IsDepthOf t depth → GivesDepth t.state.merge depth p f.z
  depth_given Unused none = none
  depth_given (Flat z) flat = quotient-unique _ _ _ _ is.depth (flat_value t p t.z z flat covers)
  depth_given (Plane q plane) of_it =
      let same = of_it.0 in
      record { is_plane = rw same of_it.1; covered = rw same covers; is = rw same is.depth }

  pub colour_given : (source : ColourSource) → IsColourOf t source → GivesColour t.state.merge source p f
  colour_given (colour.Flat rgba) flat = record {
    red = λ w. quotient-unique _ _ _ _ is.red (flat_value t p _ _ (flat.red w) covers);
    green = λ w. quotient-unique _ _ _ _ is.green (flat_value t p _ _ (flat.green w) covers);
    blue = λ w. quotient-unique _ _ _ _ is.blue (flat_value t p _ _ (flat.blue w) covers);
    alpha = λ w. quotient-unique _ _ _ _ is.alpha (flat_value t p _ _ (flat.alpha w) covers);
  }
  colour_given (colour.Planes q planes) of_it =
      subst (λ (u : Placed). HasColourAt t.state.merge u planes.now p f) (sym of_it.0)
      (record { same = λ i. t.state.merge; are_planes = of_it.1; covered = covers; is = is })

-- what takes the fragments that the sources of depth and colour give takes those that the source gives
pub source_drawn : (merge : Merge) (source : Source) (depth : DepthSource) (colour : ColourSource) (m : BlockMask) (old new : List BlockSamples)
    → ((p : Position) (f : Shaded) → GivesFragment merge source p f → GivesDepth merge depth p f.z)
    → ((n : Merge) (p : Position) (f : Shaded) → GivesFragment n source p f → GivesColour n colour p f)
    → IsBlockDrawnBy (TakesGiven merge depth colour) m old new → IsBlockDrawnBy (TakesFrom merge source) m old new
source_drawn merge source depth colour m old new depths colours =
    made_otherwise (TakesGiven merge depth colour) (TakesFrom merge source) m old new
    (λ s k few low set x y takes f gives. takes f (depths _ f gives) (colours merge _ f gives))

-- the sample at a point takes each fragment of the triangle there
abbrev pub TakesTriangle : Placed → Position → CanvasSample → CanvasSample → Type 0
TakesTriangle t p old new = (f : Shaded) → IsOfTriangle t.state.merge t p f → IsCanvasApplied t.state.merge f old new

-- so it is the triangle that is drawn there
pub triangle_drawn : (t : Placed) (m : BlockMask) (old new : List BlockSamples) → CoversBlock t m → IsBlockDrawnBy (TakesTriangle t) m old new → IsBlockDrawn t m old new
triangle_drawn t m old new covers =
    made_otherwise (TakesTriangle t) (IsCanvasDrawnAt t) m old new
    (λ s k few low set x y takes.
    let covered = covers s few k low set in
    let f = fragment t (position_in (first_of m s) k) covered in
    (f.0, f.1, takes f.0 (record { same = refl; covered = covered; is = f.1 })))
