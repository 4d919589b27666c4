-- Which rows and columns of tiles a triangle can meet.
use Rattle.std.specs.Prelude.{◌≡◌, ℕ, ◌/◌, ◌<◌, ◌≤◌, List, slice_get, slice_index, Some, IsBitSet}
use Rattle.grid.specs.Pixels.{side_of}
use Rattle.grid.specs.Samples.{count_of, sample_position}
use Rattle.grid.specs.Triangle.{Covers}
use Rattle.grid.specs.declared.pixels.TileSide.{TileSide}
use Rattle.grid.specs.declared.sample_count.SampleCount.{SampleCount}
use Rattle.grid.specs.declared.triangle.Tri.{Tri}
use Rattle.shade.specs.declared.placed.Placed.{Placed}
use Rattle.shade.specs.Placed.{Meets}
use Rattle.reach.specs.declared.span.Span.{Span}
use Rattle.reach.specs.declared.marks.Marks.{Marks}
use Rattle.reach.specs.declared.marks.Reached.{Reached}

-- n is in the span, from its first number to before its end.
pub record IsInSpan (span : Span) (n : ℕ) : Type 0 where
  pub from : span.first ≤ n
  pub below : n < span.end

-- The triangle meets sample s of pixel (i, j) of the screen, which is 4096 by 4096 pixels.
pub record MeetsOnScreen (t : Placed) (count : SampleCount) (i j s : ℕ) : Type 0 where
  pub column : i < 4096
  pub row : j < 4096
  pub is_sample : s < count_of count
  pub meets : Meets t count i j s

-- The tiles of this size of each sample that the triangle meets are in these columns and rows of tiles.
abbrev pub HaveMet : Placed → TileSide → Span → Span → Type 0
HaveMet t side columns rows =
    (count : SampleCount) (i j s : ℕ) → MeetsOnScreen t count i j s → IsInSpan columns (i / side_of side) × IsInSpan rows (j / side_of side)

-- The triangle covers no sample of the tile of this size in a column and a row of tiles.
abbrev pub MissesTile : Tri → SampleCount → TileSide → ℕ → ℕ → Type 0
MissesTile t count side column row =
    (i j s : ℕ) → i / side_of side ≡ column → j / side_of side ≡ row → s < count_of count → ¬ Covers t.a t.b t.c (sample_position i j s count)

-- Those of some columns of tiles in which the triangle covers a sample of this tile row are among the others.
abbrev pub HaveReached : Tri → SampleCount → TileSide → ℕ → Span → Span → Type 0
HaveReached t count side row columns others =
    (i j s : ℕ) → j / side_of side ≡ row → s < count_of count → Covers t.a t.b t.c (sample_position i j s count)
    → IsInSpan columns (i / side_of side) → IsInSpan others (i / side_of side)

-- Column n of the tiles, or tile row n, bears the mark of triangle k.
pub record IsMarked (marks : Marks) (n k : ℕ) : Type 0 where
  pub in_span : IsInSpan marks.span n
  pub bit : IsBitSet (slice_index marks.words n) k

-- A column of tiles and a tile row bear the mark of triangle k if it meets a sample in them.
abbrev pub AreReached : List Placed → Reached → Type 0
AreReached ts r =
    (k : ℕ) (t : Placed) → slice_get ts k ≡ Some t → (count : SampleCount) (i j s : ℕ) → MeetsOnScreen t count i j s
    → IsMarked r.columns (i / 64) k × IsMarked r.rows (j / 64) k
