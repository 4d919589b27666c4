-- What stands for the keys that a draw leaves out.
use Rattle.std.specs.Prelude.{[], ◌∷◌, true, false}
use Rattle.grid.specs.declared.cull.Cull.TheVariants as cull
use Rattle.grid.specs.declared.pixels.PixelBox.{PixelBox}
use Rattle.shade.specs.declared.depth.DepthTest.TheVariants as test
use Rattle.shade.specs.Presets.{none_blend}
use Rattle.shade.specs.declared.state.State.{State}

-- The state of a draw without any key of a state, on a picture of these pixels.
abbrev pub default_state : PixelBox → State
default_state picture = record {
  merge = record { test = test.Always; depth_write = false; write = true ∷ true ∷ true ∷ []; blend = none_blend };
  cull = cull.None;
  sample_mask = 15;
  scissor = picture;
}
