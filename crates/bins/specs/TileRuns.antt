-- Runs of tiles that triangles can meet.
use Rattle.std.specs.Prelude.{◌≡◌, ◌⊎◌, ℕ, ◌+◌, ◌*◌, ◌<◌, ◌≤◌, Bool, ◌&&◌, nat_le, nat_lt, List, map, length, slice_get, Some}
use Rattle.std.specs.List.{All, Contains, filter}
use Rattle.std.specs.List.Sorted.{IsStrictlyIncreasing}
use Rattle.shade.specs.declared.placed.Placed.{Placed}
use Rattle.draw_list.specs.Scene.{Scene}
use Rattle.bins.specs.declared.tile_run.TileRun.{TileRun}
use Rattle.bins.specs.Bin.{MeetsRect}
use Rattle.tiling.specs.Grid.{TileGrid, columns_of, rect_of}

-- Whether a run has this tile.
abbrev pub has_tile : ℕ → TileRun → Bool
has_tile tile run = nat_le run.first tile && nat_lt tile run.end

-- The triangles whose runs have the tile, in the order of the runs.
abbrev pub triangles_at : List TileRun → ℕ → List ℕ
triangles_at runs tile = map (λ (run : TileRun). run.number) (filter (has_tile tile) runs)

-- The run lies within the first `tiles` tiles.
pub record IsTileRunOver (tiles : ℕ) (run : TileRun) : Type 0 where
  pub rising : run.first ≤ run.end
  pub within : run.end ≤ tiles

-- Triangle m comes before triangle n; or it is that one, and the tile stands above the row.
abbrev pub IsVisitedBefore : TileGrid → ℕ → ℕ → ℕ → ℕ → Type 0
IsVisitedBefore g n row m tile = (m < n) ⊎ ((m ≡ n) × (tile < row * columns_of g))

-- The runs of the triangles before number n, and of triangle n in the first `row` of these tile rows. They lie over the tiles of
-- `rows` tile rows from `first_row` on, and tiles are counted from the first of these tile rows on.
pub record AreTileRuns (l : Scene) (g : TileGrid) (first_row rows : ℕ) (n row : ℕ) (runs : List TileRun) : Type 0 where
  pub few : length runs ≤ n * rows + row
  pub over : All (IsTileRunOver (rows * columns_of g)) runs
  pub earlier : All (λ (run : TileRun). (run.number < n) ⊎ ((run.number ≡ n) × (run.end ≤ row * columns_of g))) runs
  pub ascending : (tile : ℕ) → IsStrictlyIncreasing (triangles_at runs tile)
  pub whole : (m tile : ℕ) (t : Placed) → IsVisitedBefore g n row m tile → tile < rows * columns_of g → slice_get l.triangles m ≡ Some t → MeetsRect t l.count (rect_of g (first_row * columns_of g + tile)) → Contains (triangles_at runs tile) m

-- The numbers of the triangles before number n that can meet a tile of these rows, in draw order.
pub record AreCandidates (l : Scene) (g : TileGrid) (first_row rows : ℕ) (n : ℕ) (numbers : List ℕ) : Type 0 where
  pub before : All (λ number. number < n) numbers
  pub ascending : IsStrictlyIncreasing numbers
  pub whole : (m tile : ℕ) (t : Placed) → m < n → tile < rows * columns_of g → slice_get l.triangles m ≡ Some t → MeetsRect t l.count (rect_of g (first_row * columns_of g + tile)) → Contains numbers m
