-- What a polygon makes of the samples of a canvas.
use Rattle.std.specs.Prelude.{◌≡◌, ℕ, ◌/◌, ◌%◌, ◌^◌, ℤ, pos, negsuc, ◌+ℤ◌, ◌≤ℤ◌, ◌<ℤ◌, List, [], ◌∷◌, slice_index}
use Rattle.grid.specs.Position.{Position}
use Rattle.grid.specs.declared.pixels.PixelBox.{PixelBox}
use Rattle.grid.specs.declared.sample_count.SampleCount.{SampleCount}
use Rattle.shade.specs.declared.sample.CanvasSample.{CanvasSample}
use Rattle.shade.specs.declared.sample.Shaded.{Shaded}
use Rattle.shade.specs.declared.state.State.{State}
use Rattle.shade.specs.Canvas.{IsCanvasApplied}
use Rattle.lanes.specs.declared.block_samples.BlockSamples.{BlockSamples}
use Rattle.polygons.specs.declared.rule.Rule.{Rule}
use Rattle.polygons.specs.Polygon.{PolygonCovers}
use Rattle.polygons.specs.Rings.{rings_from}
use Rattle.polygons.specs.Screen.{screen_sample}
use Rattle.canvas.specs.declared.canvas.Canvas.{Canvas}
use Rattle.canvas.specs.declared.window.Origin.{Origin}
use Rattle.canvas.specs.Layout.{IsStoredIn, stored}
use Rattle.fills.specs.declared.polygon.Polygon.{Polygon}

-- Pixel (i, j) of the screen is in the rectangle, whose right and lower sides are outside of it (Direct3D 11, scissor test).
pub record IsInScissor (r : PixelBox) (i j : ℤ) : Type 0 where
  pub left : r.x0 ≤ℤ i
  pub right : i <ℤ r.x1
  pub top : r.y0 ≤ℤ j
  pub bottom : j <ℤ r.y1

-- A polygon as it is drawn: its rings, its rule, one colour and one depth for all of its samples, and its draw's state.
pub record Shape : Type 0 where
  pub rings : List (List Position)
  pub rule : Rule
  pub rgba : List ℕ
  pub z : ℕ
  pub state : State

-- The polygon meets sample s of pixel (i, j) of the screen, whatever depth is stored there. By its rule it covers the sample's position,
-- the pixel is in the scissor, and bit s of the sample mask is set.
pub record MeetsSample (shape : Shape) (count : SampleCount) (i j : ℤ) (s : ℕ) : Type 0 where
  pub covered : PolygonCovers shape.rule shape.rings (screen_sample i j s count)
  pub in_scissor : IsInScissor shape.state.scissor i j
  pub in_mask : shape.state.sample_mask / 2 ^ s % 2 ≡ 1

-- The polygon's colour and depth, which are the same at all samples.
abbrev pub fragment_of : Shape → Shaded
fragment_of shape = record { r = slice_index shape.rgba 0; g = slice_index shape.rgba 1; b = slice_index shape.rgba 2; a = slice_index shape.rgba 3; z = shape.z }

-- What the polygon makes of sample s of pixel (i, j) of the screen. If it meets the sample, the sample takes its colour and depth by the
-- depth test, the write mask and the blending of the draw (Direct3D 11, output merger). Any other sample is unchanged.
pub record Paints (shape : Shape) (count : SampleCount) (i j : ℤ) (s : ℕ) (old new : CanvasSample) : Type 0 where
  pub met : MeetsSample shape count i j s → IsCanvasApplied shape.state.merge (fragment_of shape) old new
  pub missed : ¬ MeetsSample shape count i j s → new ≡ old

-- What the polygons make of sample s of pixel (i, j) of the screen, one after another.
abbrev pub PaintAll : List Shape → SampleCount → ℤ → ℤ → ℕ → CanvasSample → CanvasSample → Type 0
PaintAll [] count i j s start end = end ≡ start
PaintAll (p ∷ ps) count i j s start end = (next : CanvasSample) × Paints p count i j s start next × PaintAll ps count i j s next end

-- Each sample of the tile rows from `first` to before `end` ends as what the polygons make of it, one after another. Pixel (0, 0) of the
-- canvas is the screen's pixel `origin`, so sample s of pixel (i, j) is sample s of pixel (i + x, j + y) of the screen.
abbrev pub ArePainted : List Shape → Origin → Canvas → ℕ → ℕ → List BlockSamples → List BlockSamples → Type 0
ArePainted shapes origin c first end old new =
    (i j s : ℕ) → IsStoredIn c first end i j s → PaintAll shapes c.count (pos i +ℤ origin.x) (pos j +ℤ origin.y) s (stored c first old i j s) (stored c first new i j s)

-- Each pixel of a canvas of any size with this origin lies in the guard band.
pub record IsOriginInBand (origin : Origin) : Type 0 where
  pub left : negsuc 32767 ≤ℤ origin.x
  pub right : origin.x ≤ℤ pos 28672
  pub top : negsuc 32767 ≤ℤ origin.y
  pub bottom : origin.y ≤ℤ pos 28672

-- The polygon as it is drawn, by its corners.
abbrev pub shape_of : Polygon → Shape
shape_of polygon = record {
  rings = rings_from polygon.rings.corners.now polygon.rings.start polygon.rings.ends.now;
  rule = polygon.rule;
  rgba = polygon.rgba;
  z = polygon.z;
  state = polygon.state;
}
