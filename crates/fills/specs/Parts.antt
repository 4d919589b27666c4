-- What of a canvas a polygon meets.
use Rattle.std.specs.Prelude.{◌↔◌, ℕ, ◌+◌, ◌-◌, ◌*◌, ◌/◌, ◌%◌, ◌<◌, ◌≤◌, ◌==◌, if◌then◌else◌, pos, ◌+ℤ◌, List, slice_index, IsBitSet}
use Rattle.grid.specs.Samples.{parts_of}
use Rattle.grid.specs.declared.sample_count.SampleCount.{SampleCount}
use Rattle.shade.specs.declared.equation.Equation.{Equation}
use Rattle.shade.specs.declared.factor.BlendFactor.{BlendFactor}
use Rattle.shade.specs.declared.factor.BlendFactor.TheVariants.{Zero, One, SourceColour, InverseSourceColour, SourceAlpha, InverseSourceAlpha, StoredAlpha, InverseStoredAlpha, StoredColour, InverseStoredColour, SourceAlphaSaturated, Constant, InverseConstant}
use Rattle.shade.specs.declared.sample.Merge.{Merge}
use Rattle.lanes.specs.Fragment.{FlatFragment}
use Rattle.polygons.specs.declared.extent.Extent.{Extent}
use Rattle.polygons.specs.declared.rule.Rule.{Rule}
use Rattle.polygons.specs.Cells.{flags_by, mask_at}
use Rattle.polygons.specs.Polygon.{PolygonCovers}
use Rattle.polygons.specs.Rings.{IsInExtent}
use Rattle.polygons.specs.Screen.{screen_sample}
use Rattle.canvas.specs.declared.canvas.Canvas.{Canvas}
use Rattle.canvas.specs.declared.window.Origin.{Origin}
use Rattle.canvas.specs.Layout.{IsStoredIn, columns_of, rows_of, stored}
use Rattle.canvas.specs.Window.{moved_state}
use Rattle.fills.specs.declared.polygon.Polygon.{Polygon}
use Rattle.fills.specs.declared.window.Window.{Window}
use Rattle.fills.specs.Painting.{MeetsSample, Shape, fragment_of, shape_of}

-- A factor of colours that are opaque, without alpha: what is multiplied by alpha stays, and nothing is left beside it.
abbrev pub opaque_factor : BlendFactor → BlendFactor
opaque_factor Zero = Zero
opaque_factor One = One
opaque_factor SourceColour = SourceColour
opaque_factor InverseSourceColour = InverseSourceColour
opaque_factor SourceAlpha = One
opaque_factor InverseSourceAlpha = Zero
opaque_factor StoredAlpha = StoredAlpha
opaque_factor InverseStoredAlpha = InverseStoredAlpha
opaque_factor StoredColour = StoredColour
opaque_factor InverseStoredColour = InverseStoredColour
opaque_factor SourceAlphaSaturated = SourceAlphaSaturated
opaque_factor Constant = Constant
opaque_factor InverseConstant = InverseConstant

-- A factor of colours with this alpha, without alpha if it is opaque.
abbrev pub factor_by : ℕ → BlendFactor → BlendFactor
factor_by alpha f = if alpha == 255 then opaque_factor f else f

-- The equation of colours with this alpha.
abbrev pub equation_by : ℕ → Equation → Equation
equation_by alpha e = record { source = factor_by alpha e.source; stored = factor_by alpha e.stored; operation = e.operation }

-- How the samples of a polygon are merged, by an equation for its alpha.
abbrev pub merge_by : ℕ → Merge → Merge
merge_by alpha m = record m { blend = record m.blend { colour = equation_by alpha m.blend.colour } }

-- The polygon's fragment as it is merged. Its scissor is as seen from the origin, and its merge is that for its alpha.
abbrev pub seen_fragment : Polygon → Origin → FlatFragment
seen_fragment polygon origin = record {
  shaded = fragment_of (shape_of polygon);
  state = record (moved_state origin.x origin.y polygon.state) { merge = merge_by (slice_index polygon.rgba 3) polygon.state.merge };
}

-- How many columns of flags the canvas needs. For each part of at most four samples of a pixel there is one for each column of blocks and
-- each flag that a sample has by the rule.
abbrev pub flag_columns_of : Rule → Canvas → ℕ
flag_columns_of rule c = parts_of c.count * (flags_by rule * (8 * columns_of c))

-- How many columns of counters the canvas needs by the nonzero rule. For each part there is one for each column of blocks.
abbrev pub counter_columns_of : Canvas → ℕ
counter_columns_of c = parts_of c.count * (8 * columns_of c)

-- The polygon meets sample s of pixel (i, j) of the canvas.
abbrev pub MeetsHere : Polygon → Origin → SampleCount → ℕ → ℕ → ℕ → Type 0
MeetsHere polygon origin count i j s = MeetsSample (shape_of polygon) count (pos i +ℤ origin.x) (pos j +ℤ origin.y) s

-- The flags are the masks of the samples of a tile row that the polygon covers. There are `many` columns of blocks, from column `first`
-- on, and `each` columns of flags for each part.
abbrev pub AreMasksOfRow : Polygon → Origin → Canvas → ℕ → ℕ → ℕ → ℕ → List (List ℕ) → Type 0
AreMasksOfRow polygon origin c row first many each flags =
    (i j s : ℕ) → IsStoredIn c row (row + 1) i j s → first ≤ i / 8 → i / 8 < first + many
    → (IsBitSet (mask_at flags each (i / 8 - first) (j % 64 / 8) s) (8 * (j % 8) + i % 8) ↔ PolygonCovers polygon.rule (shape_of polygon).rings (screen_sample (pos i +ℤ origin.x) (pos j +ℤ origin.y) s c.count))

-- Each sample of the canvas that lies in the box is in a column of blocks and a tile row of the window.
abbrev pub HoldsSamples : Window → Extent → Origin → Canvas → Type 0
HoldsSamples w e origin c =
    (i j s : ℕ) → i / 64 < columns_of c → j / 64 < rows_of c → IsInExtent e (screen_sample (pos i +ℤ origin.x) (pos j +ℤ origin.y) s c.count)
    → (w.left ≤ i / 8) × (i / 8 < w.right) × (w.top ≤ j / 64) × (j / 64 < w.bottom)

-- Each sample of the canvas that the polygon meets lies in the tile rows from `top` to before `bottom`.
abbrev pub LiesInRows : Shape → Origin → Canvas → ℕ → ℕ → Type 0
LiesInRows shape origin c top bottom =
    (i j s : ℕ) → IsStoredIn c 0 (rows_of c) i j s → MeetsSample shape c.count (pos i +ℤ origin.x) (pos j +ℤ origin.y) s → (top ≤ j / 64) × (j / 64 < bottom)
