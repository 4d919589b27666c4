-- Tile rows one below the other, and the file that all of them make.
use Rattle.std.proofs.Common.{◌≡◌, ap, subst, ◌∙◌, ℕ, ◌+◌, ◌-◌, ◌*◌, ◌<◌, ◌≤◌, min, List, ◌++◌, append_assoc, arith}
use Rattle.std.proofs.Math.Nat.{mul-le-mul_left}
use Rattle.grid.specs.Pixels.{side_of}
use Rattle.grid.specs.declared.pixels.TileSide.{TileSide}
use Rattle.draw_list.specs.Picture.{IsPicturePart}
use Rattle.draw_list.specs.Scene.{Scene}
use Rattle.draw_list.proofs.Parts.{part-append}
use Rattle.tiling.specs.Grid.{TileGrid, tiles_over}
use Rattle.tiling.specs.TileRow.{AddsTileRow, AddsTileRows}
use Rattle.tiling.proofs.Intervals.{interval_before, interval_next}

-- a tile row by what its parts are called
pub adds_of : (l l' : Scene) (g g' : TileGrid) (row row' : ℕ) (old new : List ℕ) → l' ≡ l → g' ≡ g → row' ≡ row → AddsTileRow l' g' row' old new → AddsTileRow l g row old new
adds_of l l' g g' row row' old new e f h bytes = rw (← e, ← f, ← h) bytes

-- tile rows behind those above them
pub added_behind : (l : Scene) (side : TileSide) (first row end : ℕ) (old bytes new : List ℕ) → first ≤ row → row ≤ end → row < tiles_over l.height side
    → AddsTileRows l side first row old bytes → AddsTileRows l side row end bytes new → AddsTileRows l side first end old new
added_behind l side first row end old bytes new order order' within above h =
    let begin : ℕ = side_of side * row in
    let top : min l.height begin ≡ begin = interval_before row l.height side within in
    let low : side_of side * first ≤ begin = mul-le-mul_left (side_of side) order in
    let more : begin ≤ side_of side * end = mul-le-mul_left (side_of side) order' in
    let high : ℕ = min l.height (side_of side * end) - begin in
    let upper : min l.height begin - side_of side * first ≡ begin - side_of side * first = ap (λ n. n - side_of side * first) top in
    let below : begin ≡ side_of side * first + (begin - side_of side * first) = omega arith in
    let a = subst (λ n. IsPicturePart l 0 (side_of side * first) l.width n above.bytes) upper above.are in
    let b = subst (λ y. IsPicturePart l 0 y l.width high h.bytes) below h.are in
    let both = part-append l 0 (side_of side * first) l.width (begin - side_of side * first) high above.bytes h.bytes a b in
    let sum : (begin - side_of side * first) + high ≡ min l.height (side_of side * end) - side_of side * first = omega arith in
    record {
      bytes = above.bytes ++ h.bytes;
      are = subst (λ n. IsPicturePart l 0 (side_of side * first) l.width n (above.bytes ++ h.bytes)) sum both;
      behind = h.behind ∙ (ap (λ xs. xs ++ h.bytes) above.behind ∙ append_assoc old above.bytes h.bytes);
    }

-- one tile row more
pub added_next : (l : Scene) (g : TileGrid) (first row : ℕ) (old bytes new : List ℕ) → g.height ≡ l.height → first ≤ row → row < tiles_over l.height g.side
    → AddsTileRows l g.side first row old bytes → AddsTileRow l g row bytes new → AddsTileRows l g.side first (row + 1) old new
added_next l g first row old bytes new same order within above h =
    let side : ℕ = side_of g.side in
    let next : min l.height (side * (row + 1)) ≡ side * row + (min l.height (side * row + side) - side * row) = interval_next row l.height g.side within in
    let high : min g.height (side * row + side) - side * row ≡ min l.height (side * (row + 1)) - side * row = ap (λ n. min n (side * row + side) - side * row) same ∙ omega arith in
    let one : AddsTileRows l g.side row (row + 1) bytes new = record { bytes = h.bytes; are = subst (λ n. IsPicturePart l 0 (side * row) l.width n h.bytes) high h.is; behind = h.behind } in
    added_behind l g.side first row (row + 1) old bytes new order (omega arith) within above one

-- tile rows by what their parts are called
pub added_by_names : (l l' : Scene) (g g' : TileGrid) (row first end : ℕ) (old new : List ℕ) → l' ≡ l → g' ≡ g → first ≡ row → end ≡ row + 1 → AddsTileRows l' g'.side first end old new → AddsTileRows l g.side row (row + 1) old new
added_by_names l l' g g' row first end old new d e f h bytes = rw (← d, ← e, ← h, ← f) bytes
