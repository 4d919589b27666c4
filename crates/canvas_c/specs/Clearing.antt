-- What samples are made when they are cleared.
use Rattle.std.specs.Prelude.{if◌then◌else◌}
use Rattle.shade.specs.declared.sample.CanvasSample.{CanvasSample}
use Rattle.canvas_c.specs.declared.cleared.Clear.{Clear}
use Rattle.canvas_c.specs.declared.piece.CanvasHead.{CanvasHead}
use Rattle.canvas_c.specs.Pieces.{has_alpha}

-- The sample of the caller's numbers. A canvas without alpha has 255 there.
abbrev pub cleared_to : CanvasHead → Clear → CanvasSample
cleared_to head clear = record { r = clear.red; g = clear.green; b = clear.blue; alpha = if has_alpha head then clear.alpha else 255; z = clear.depth }
