-- What a pen marks that goes along a path.
use Rattle.std.specs.Prelude.{◌≡◌, ◌⊎◌, ◌↔◌, ℕ, ◌*◌, ◌<◌, List, ◌++◌, length}
use Rattle.grid.specs.Position.{Position}
use Rattle.grid.specs.Samples.{count_of}
use Rattle.polygons.specs.Strip.{strip_sample}
use Rattle.strokes.specs.declared.blocks.Blocks.{Blocks}
use Rattle.strokes.specs.declared.style.Style.{Style}
use Rattle.strokes.specs.declared.tip.Tip.{Tip}
use Rattle.strokes.specs.Path.{moves}
use Rattle.strokes.specs.Walking.{OnwardsCover}
use Rattle.strokes.specs.Marking.{IsMarkedAt}

-- What is covered from here on by a pen that goes through these points.
abbrev pub TipCovers : Style → Tip → List Position → Position → Type 0
TipCovers style tip rest p = OnwardsCover style tip.before tip.at (moves tip.at rest) p

-- A pen marked what it covers on its way through these points. What was marked before, or was to be covered from there on, is marked now,
-- or is to be covered from here on.
pub record MarksOnwards (style : Style) (blocks : Blocks) (from : Tip) (points : List Position) (to : Tip) (old new : List (List ℕ)) : Type 0 where
  pub len : length new ≡ length old
  pub bits : (rest : List Position) (s row k : ℕ) → s < count_of blocks.strip.count → row < 64 → k < 8 * blocks.columns
      → (IsMarkedAt old blocks.columns s row k ⊎ TipCovers style from (points ++ rest) (strip_sample blocks.strip s row k))
      ↔ (IsMarkedAt new blocks.columns s row k ⊎ TipCovers style to rest (strip_sample blocks.strip s row k))
