use Rattle.std.specs.Prelude.{ℕ, List}
use Rattle.grid.specs.declared.sample_count.SampleCount.{SampleCount}
use Rattle.shade.specs.declared.sample.Sample.{Sample}
use Rattle.shade.specs.declared.placed.Placed.{Placed}
use Rattle.draw_list.specs.declared.output.Output.{Output}

-- What the picture of a draw list is drawn from. It has the size in pixels, the samples of a pixel, the colour and depth that each
-- sample begins with, what the picture shows, all triangles in draw order, and how many of them each draw has.
pub record Scene : Type 0 where
  pub width : ℕ
  pub height : ℕ
  pub count : SampleCount
  pub clear : Sample
  pub output : Output
  pub triangles : List Placed
  pub draws : List ℕ
