use Rattle.std.specs.Prelude.{ℕ}
use Rattle.strokes.specs.declared.style.Style.{Style}

-- The style with another width.
abbrev pub widened : Style → ℕ → Style
widened style width = record style { width = width }
