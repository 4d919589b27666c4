use Rattle.std.specs.Prelude.{◌≡◌, ℕ, ◌<◌, IfSome, length, slice_index}
use Rattle.grid.specs.Samples.{count_of}
use Rattle.shade.specs.declared.sample.Sample.{Sample}
use Rattle.draw_list.specs.Picture.{IsEnd, IsColour}
use Rattle.draw_list.specs.Place.{IsPlace}
use Rattle.draw_list.specs.Scene.{Scene}
use Rattle.list_history.specs.Counts.{AreCountsOf}
use Rattle.list_history.specs.Walk.{ListPlace}
use Rattle.list_history.specs.declared.sample_counts.SampleCounts.{SampleCounts}
use Rattle.why.specs.declared.arguments.Asked.{Asked}
use Rattle.why.specs.declared.arguments.AskedTriangle.{AskedTriangle}
use Rattle.why.specs.declared.text.Pixel.{Pixel}

-- The picture has the pixel that is asked for, and the pixel the sample, if one is named.
pub record HasAskedSample (l : Scene) (asked : Asked) : Type 0 where
  pub column : asked.x < l.width
  pub row : asked.y < l.height
  pub sample : IfSome asked.sample (λ s. s < count_of l.count)

-- Both are histories of the same sample of the same list.
pub record IsSameSample (old new : ListPlace) : Type 0 where
  pub scene : new.scene ≡ old.scene
  pub column : new.history.i ≡ old.history.i
  pub row : new.history.j ≡ old.history.j
  pub sample : new.history.s ≡ old.history.s

-- What the picture shows at pixel (i, j), be it of colours or of depths: the resolved colour, and the final depth of sample 0.
pub record IsShownAt (l : Scene) (i j : ℕ) (pixel : Pixel) : Type 0 where
  pub colour : IsColour l i j (slice_index pixel.colour 0) (slice_index pixel.colour 1) (slice_index pixel.colour 2)
  pub first : Sample
  pub is_end : IsEnd l i j 0 first
  pub depth : pixel.depth ≡ first.z

-- The list has the triangle that is asked for.
pub record HasAskedTriangle (l : Scene) (asked : AskedTriangle) : Type 0 where
  pub number : ℕ
  pub within : number < length l.triangles
  pub place : IsPlace l number asked.place

-- The counts are those of the triangle that is asked for.
pub record AreCountsOfAsked (l : Scene) (asked : AskedTriangle) (counts : SampleCounts) : Type 0 where
  pub number : ℕ
  pub place : IsPlace l number asked.place
  pub counted : AreCountsOf l number counts
