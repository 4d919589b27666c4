-- The scratch memory of a call that draws polygons.
use Rattle.std.specs.Prelude.{ℕ, ◌==◌, ◌+◌, ◌*◌, ◌/◌, if◌then◌else◌}
use Rattle.grid.specs.Samples.{parts_of, pattern_of}
use Rattle.polygons.specs.Cells.{flags_by}
use Rattle.polygons.specs.declared.rule.Rule.{Rule}
use Rattle.polygons.specs.declared.rule.Rule.TheVariants.{EvenOdd, NonZero}
use Rattle.canvas_c.specs.declared.piece.CanvasHead.{CanvasHead}
use Rattle.canvas_c.specs.declared.scratch.ScratchLayout.{ScratchLayout}

-- The rules by their numbers.
abbrev pub rule_of : ℕ → Rule
rule_of n = if n == 0 then EvenOdd else NonZero

-- How many columns of blocks a canvas of this width has.
abbrev pub columns_of_blocks : ℕ → ℕ
columns_of_blocks width = 8 * ((width + 63) / 64)

-- How many columns of flags polygons on the canvas need by the rule of this number. For each part of at most four samples of a pixel there
-- is one for each column of blocks and each flag that a sample has by the rule. 0 samples are one.
abbrev pub flag_columns_listed : CanvasHead → ℕ → ℕ
flag_columns_listed head fill_rule = parts_of (pattern_of head.samples) * (flags_by (rule_of fill_rule) * columns_of_blocks head.width)

-- How many columns of counters they need by the nonzero rule. For each part there is one for each column of blocks.
abbrev pub counter_columns_listed : CanvasHead → ℕ
counter_columns_listed head = parts_of (pattern_of head.samples) * columns_of_blocks head.width

-- Columns of flags of 256 bytes each, and after them columns of counters of 8,192 bytes each.
abbrev pub layout_of : ℕ → ℕ → ScratchLayout
layout_of flags counters =
    record { flag_columns = flags; counter_columns = counters; counters_at = 256 * flags; size = 256 * flags + 8192 * counters }

-- What polygons on the canvas need by the rule of this number. By the even-odd rule there are no counters.
abbrev pub layout_listed : CanvasHead → ℕ → ScratchLayout
layout_listed head fill_rule =
    layout_of (flag_columns_listed head fill_rule) (if fill_rule == 0 then 0 else counter_columns_listed head)
