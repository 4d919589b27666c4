-- Bins that have those of some tile rows.
use Rattle.std.proofs.Common.{rules, ◌≡◌, ap, ℕ, ◌+◌, ◌-◌, ◌*◌, ◌≤◌, Result, Ok, Err, IfOk, Vec, vec_len, arith}
use Rattle.std.proofs.Math.Nat.{mul-le-mul_right}
use Rattle.draw_list.specs.Scene.{Scene}
use Rattle.bins.specs.Bin.{TileBins, AreBins, AreBinsFrom}
use Rattle.bins.proofs.Binned.{has_tile_of_rows}
use Rattle.pool.specs.Work.{RightInOrder}
use Rattle.tiling.specs.Grid.{TileGrid, columns_of}
use Rattle.tiling.specs.Tiles.{AreTiles, IsTileIn}
use Rattle.tiling.specs.declared.tile_pixels.TilePixels.{TilePixels}
use Rattle.tile_rows.specs.TileRows.{HaveBins}

pub have_all : (l : Scene) (g : TileGrid) (first end : ℕ) (b : TileBins) → AreBins l g first (end - first) b → HaveBins l g first end b
have_all l g first end b are = record { has = λ n h. has_tile_of_rows l g first (end - first) n b h are; each = are.each }

-- the first of the tile rows whose bins they are
pub have_first : (l : Scene) (g : TileGrid) (row : ℕ) (b : TileBins) → AreBinsFrom l g row b → HaveBins l g row (row + 1) b
have_first l g row b are = record {
  has = λ n h.
      let one : (row + 1 - row) * columns_of g ≡ 1 * columns_of g = ap (λ n. n * columns_of g) (omega arith) in
      let more : 1 * columns_of g ≤ are.rows * columns_of g = mul-le-mul_right (columns_of g) are.some in
      has_tile_of_rows l g row are.rows n b (omega (arith, h, one, more)) are.bins;
  each = are.bins.each;
}

-- the tiles that workers return are those of the tile rows
pub tiles_of_answers : {Z E : Type 0} (l : Scene) (g : TileGrid) (first end many : ℕ) (answers : Result (Vec TilePixels Z) E) → many ≡ (end - first) * columns_of g → IfOk answers (λ tiles. vec_len tiles ≡ many)
    → IfOk answers (λ tiles. RightInOrder (IsTileIn l g first) tiles.items) → IfOk answers (λ tiles. AreTiles l g first end tiles.items)
tiles_of_answers l g first end many (Ok tiles) e len right = record { number = search rules; each = right }
tiles_of_answers l g first end many (Err fault) e len right = tt
