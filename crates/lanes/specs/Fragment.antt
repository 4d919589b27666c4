-- One fragment for many samples.
use Rattle.shade.specs.declared.sample.CanvasSample.{CanvasSample}
use Rattle.shade.specs.declared.sample.Shaded.{Shaded}
use Rattle.shade.specs.declared.state.State.{State}
use Rattle.shade.specs.Canvas.{IsCanvasApplied}

-- One colour and one depth for all samples, and the state in which they are drawn.
pub record FlatFragment : Type 0 where
  pub shaded : Shaded
  pub state : State

-- What a sample becomes that takes the fragment, by the depth test, the write mask and the blending of its state.
abbrev pub Takes : FlatFragment → CanvasSample → CanvasSample → Type 0
Takes f = IsCanvasApplied f.state.merge f.shaded
