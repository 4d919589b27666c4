-- What a draw list says of the picture before its draws.
use Rattle.std.specs.Prelude.{codes, [], ◌∷◌}
use Rattle.serde_json.specs.Data.{Data}
use Rattle.serde_json.specs.Find.{get}
use Rattle.grid.specs.declared.sample_count.SampleCount.{SampleCount}
use Rattle.grid.specs.declared.sample_count.SampleCount.TheVariants as samples
use Rattle.shade.specs.declared.sample.Sample.{Sample}
use Rattle.draw_list.specs.declared.output.Output.{Output}
use Rattle.draw_list.specs.declared.output.Output.TheVariants as output
use Rattle.list_json.specs.Denotes.{OrDefault, IsSampleCount, IsClearColour, IsDepthNumber, IsOutput}

-- What a value says of the picture: the samples of a pixel, what each sample begins with, and what the picture shows.
pub record IsBeginning (value : Data) (count : SampleCount) (clear : Sample) (shows : Output) : Type 0 where
  pub samples : OrDefault samples.One IsSampleCount (get (codes "samples") value) count
  pub colour : OrDefault (0 ∷ 0 ∷ 0 ∷ []) IsClearColour (get (codes "clear") value) (clear.r ∷ clear.g ∷ clear.b ∷ [])
  pub depth : OrDefault 65535 IsDepthNumber (get (codes "clear_depth") value) clear.z
  pub output : OrDefault output.Color IsOutput (get (codes "output") value) shows
