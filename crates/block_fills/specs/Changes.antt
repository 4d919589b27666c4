-- How fragments change the samples that take them.
use Rattle.std.specs.Prelude.{false, ◌≡◌}
use Rattle.grid.specs.declared.sample_count.SampleCount.{SampleCount}
use Rattle.shade.specs.declared.depth.DepthTest.TheVariants.{Always}
use Rattle.shade.specs.declared.sample.Merge.{Merge}
use Rattle.shade.specs.declared.state.State.{State}
use Rattle.shade.specs.Presets.{over}
use Rattle.shade.specs.Merging.{Writes}
use Rattle.canvas.specs.Hidden.{ReplacesColours}

-- A fragment in this state gives its colour to each sample that takes it, and changes neither depth nor alpha.
pub record ReplacesAlone (state : State) (count : SampleCount) : Type 0 where
  pub colours : ReplacesColours state count
  pub depth : state.merge.depth_write ≡ false
  pub alpha : state.merge.blend.write_alpha ≡ false

-- A fragment with this merge blends its colour over that of each sample, and changes neither depth nor alpha. This is source-over of
-- Porter and Duff 1984, by the fragment's alpha.
pub record BlendsAlone (merge : Merge) : Type 0 where
  pub passes : merge.test ≡ Always
  pub red : Writes merge 0
  pub green : Writes merge 1
  pub blue : Writes merge 2
  pub over : merge.blend.colour ≡ over
  pub depth : merge.depth_write ≡ false
  pub alpha : merge.blend.write_alpha ≡ false
