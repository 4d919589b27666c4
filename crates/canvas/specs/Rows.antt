-- The tiles that many triangles can meet, row by row.
use Rattle.std.specs.Prelude.{◌≡◌, ℕ, ◌+◌, ◌*◌, ◌/◌, ◌<◌, List, map, take, length, slice_get, slice_index, slice_index_or, Some, IsBitSet}
use Rattle.shade.specs.declared.sample.CanvasSample.{CanvasSample}
use Rattle.shade.specs.declared.placed.Placed.{Placed}
use Rattle.shade.specs.Placed.{Meets}
use Rattle.shade.specs.Canvas.{CanvasEnds}
use Rattle.raster.specs.declared.tile.Tile.{Tile}
use Rattle.raster.specs.Samples.{IsSampleOf}
use Rattle.reach.specs.declared.span.Span.{Span}
use Rattle.reach.specs.Bounds.{HasPlace}
use Rattle.reach.specs.Reach.{IsInSpan}
use Rattle.canvas.specs.declared.canvas.Canvas.{Canvas}
use Rattle.canvas.specs.Layout.{IsStoredIn}

-- A triangle whose bit is not set meets no sample of the tile.
abbrev pub IsMaskOf : List Placed → Tile → ℕ → Type 0
IsMaskOf ts tile mask =
    (k : ℕ) (t : Placed) → slice_get ts k ≡ Some t → ¬ IsBitSet mask k
    → (row column s : ℕ) → IsSampleOf tile row column s → ¬ Meets t tile.count (8 * tile.bx + column) (8 * tile.by + row) s

-- The triangles of these numbers; `none` stands for a number past the last triangle.
abbrev pub numbered : List Placed → Placed → List ℕ → List Placed
numbered ts none numbers = map (λ n. slice_index_or ts n none) numbers

-- The first numbers are those of triangles, each with the columns of tiles in which it can meet a sample of this tile row.
-- What they make of a sample of the tile row, the first n triangles make of it.
pub record AreOfRow (ts : List Placed) (c : Canvas) (row n : ℕ) (numbers firsts ends : List ℕ) (many : ℕ) (span : Span) : Type 0 where
  pub below : (p : ℕ) → p < many → slice_index numbers p < length ts
  pub columns : (p : ℕ) (t : Placed) → p < many → slice_get ts (slice_index numbers p) ≡ Some t
      → (i j s : ℕ) → IsStoredIn c row (row + 1) i j s → Meets t c.count i j s → HasPlace firsts ends p (i / 64) × IsInSpan span (i / 64)
  pub makes : (none : Placed) (i j s : ℕ) → IsStoredIn c row (row + 1) i j s → (x y : CanvasSample)
      → CanvasEnds (numbered ts none (take many numbers)) c.count i j s x y → CanvasEnds (take n ts) c.count i j s x y

-- Those of the triangles of these numbers that meet a sample of the tile have its column among theirs.
abbrev pub AreOfTile : List Placed → List ℕ → List ℕ → List ℕ → ℕ → ℕ → Tile → Type 0
AreOfTile ts numbers firsts ends many column tile =
    (p : ℕ) (t : Placed) → p < many → slice_get ts (slice_index numbers p) ≡ Some t
    → (row across s : ℕ) → IsSampleOf tile row across s → Meets t tile.count (8 * tile.bx + across) (8 * tile.by + row) s → HasPlace firsts ends p column
