-- Which triangles are drawn in a tile.
use Rattle.std.specs.Prelude.{◌≡◌, ℕ, ◌+◌, ◌-◌, ◌*◌, ◌<◌, ◌≤◌, List, [], length, slice_get, slice_index_or, Some}
use Rattle.std.specs.List.{All, Contains}
use Rattle.std.specs.List.Sorted.{IsStrictlyIncreasing}
use Rattle.grid.specs.Pixels.{IsInBox}
use Rattle.grid.specs.Samples.{count_of}
use Rattle.grid.specs.declared.pixels.PixelBox.{PixelBox}
use Rattle.grid.specs.declared.sample_count.SampleCount.{SampleCount}
use Rattle.shade.specs.declared.placed.Placed.{Placed}
use Rattle.shade.specs.Placed.{Meets}
use Rattle.draw_list.specs.Scene.{Scene}
use Rattle.tiling.specs.Grid.{TileGrid, columns_of, rect_of}

-- The triangle meets a sample of a pixel of the rectangle, whatever depth is stored there.
pub record MeetsRect (t : Placed) (count : SampleCount) (r : PixelBox) : Type 0 where
  pub column : ℕ
  pub row : ℕ
  pub sample : ℕ
  pub is_sample : sample < count_of count
  pub inside : IsInBox r column row
  pub meets : Meets t count column row sample

-- The bin is strictly ascending, and has numbers of triangles, among them that of each triangle that is needed.
pub record IsBin (l : Scene) (IsNeeded : Placed → Type 0) (bin : List ℕ) : Type 0 where
  pub ascending : IsStrictlyIncreasing bin
  pub numbers : All (λ n. n < length l.triangles) bin
  pub whole : (n : ℕ) (t : Placed) → slice_get l.triangles n ≡ Some t → IsNeeded t → Contains bin n

-- A bin of tile k: it has each triangle that meets a sample of the tile.
abbrev pub IsBinOf : Scene → TileGrid → ℕ → List ℕ → Type 0
IsBinOf l g k bin = IsBin l (λ t. MeetsRect t l.count (rect_of g k)) bin

-- The bins of consecutive tiles, and the number of the first of these tiles.
pub record TileBins : Type 0 where
  pub first : ℕ
  pub bins : List (List ℕ)

-- Tile k is one of those whose bins these are.
pub record HasBin (b : TileBins) (k : ℕ) : Type 0 where
  pub from : b.first ≤ k
  pub below : k < b.first + length b.bins

-- The bin of tile k, and an empty one if the tile has none here.
abbrev pub bin_of : TileBins → ℕ → List ℕ
bin_of b k = slice_index_or b.bins (k - b.first) []

-- The bins of these tile rows, each with the triangles that meet its tile.
pub record AreBins (l : Scene) (g : TileGrid) (first_row rows : ℕ) (b : TileBins) : Type 0 where
  pub first : b.first ≡ first_row * columns_of g
  pub number : length b.bins ≡ rows * columns_of g
  pub each : (k : ℕ) → HasBin b k → IsBinOf l g k (bin_of b k)

-- Each of these bins is one of its tile.
abbrev pub AreOfTiles : Scene → TileGrid → TileBins → Type 0
AreOfTiles l g b = (k : ℕ) → HasBin b k → IsBinOf l g k (bin_of b k)

-- The bins of some tile rows from this one on, at least one.
pub record AreBinsFrom (l : Scene) (g : TileGrid) (first_row : ℕ) (b : TileBins) : Type 0 where
  pub rows : ℕ
  pub some : 1 ≤ rows
  pub bins : AreBins l g first_row rows b
