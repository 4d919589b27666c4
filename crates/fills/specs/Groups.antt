-- Polygons that are drawn together, tile row by tile row.
use Rattle.std.specs.Prelude.{◌≡◌, ℕ, ◌-◌, ◌<◌, ◌≤◌, List, length, slice_index_or}
use Rattle.canvas.specs.declared.canvas.Canvas.{Canvas}
use Rattle.canvas.specs.declared.window.Origin.{Origin}
use Rattle.polygons.specs.declared.arrays.Polygons.{Polygons}
use Rattle.polygons.specs.declared.rule.Rule.TheVariants.{NonZero}
use Rattle.polygons.specs.Cells.{AreZeros}
use Rattle.fills.specs.declared.batch.Style.{Style}
use Rattle.fills.specs.declared.group.Group.{Group}
use Rattle.fills.specs.declared.group.Span.{Span}
use Rattle.fills.specs.Batches.{AreFit, HasColours, HasCornersInBand, shape_in}
use Rattle.fills.specs.Painting.{IsOriginInBand}
use Rattle.fills.specs.Parts.{flag_columns_of, counter_columns_of, LiesInRows}

-- The tile rows that the group says of polygon k.
abbrev pub span_of : Group → ℕ → Span
span_of group k = slice_index_or group.spans (k - group.first) (record { top = 0; bottom = 0 })

-- Of each polygon of the group it says in which tile rows all samples lie that it meets, if the boxes are right.
abbrev pub SaysRowsOf : Group → Polygons → Style → Origin → Canvas → Type 0
SaysRowsOf group polygons style origin c =
    AreFit polygons → (k : ℕ) → group.first ≤ k → k < group.end → LiesInRows (shape_in polygons style k) origin c (span_of group k).top (span_of group k).bottom

-- If it says of a polygon that there are some rows, the corners of this polygon are inside of the guard band.
abbrev pub HasSeen : Group → Polygons → Type 0
HasSeen group polygons = (k : ℕ) → group.first ≤ k → k < group.end → (span_of group k).top < (span_of group k).bottom → HasCornersInBand polygons k

-- The polygons of the group can be drawn on a canvas of this size. Each has a colour, and the scratch memory is large enough and ready.
pub record CanBeDrawn (group : Group) (polygons : Polygons) (style : Style) (origin : Origin) (c : Canvas) (flags counters : List (List ℕ)) : Type 0 where
  pub rows : SaysRowsOf group polygons style origin c
  pub seen : HasSeen group polygons
  pub some : group.first < group.end
  pub within : group.end ≤ length polygons.polygon_ends.now
  pub colours : HasColours style.ids style.colours.now (length polygons.polygon_ends.now)
  pub in_band : IsOriginInBand origin
  pub columns : flag_columns_of style.rule c ≤ length flags
  pub zeros : AreZeros flags
  pub counted : style.rule ≡ NonZero → counter_columns_of c ≤ length counters
