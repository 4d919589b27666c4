-- A tile by its column and its row, and the runs that it adds to the rows of its tile row.
use Rattle.std.proofs.Common.{◌≡◌, ◌⊎◌, inl, inr, refl, sym, ap, subst, ◌∙◌, ℕ, ◌+◌, ◌-◌, ◌*◌, ◌/◌, ◌%◌, ◌<◌, ◌≤◌, min, List, ◌++◌, Result, Ok, Err, IfOk, zero-add, append_assoc, length-append, arith}
use Rattle.std.proofs.lemmas.Bool.{cases_lt}
use Rattle.std.proofs.lemmas.Nat.{same_from_place}
use Rattle.std.proofs.Math.Nat.{mod-lt, div-add-mod'}
use Rattle.std.proofs.lemmas.Int.{ints}
use Rattle.grid.specs.Pixels.{side_of}
use Rattle.grid.specs.declared.pixels.PixelBox.{PixelBox}
use Rattle.draw_list.specs.PixelPrefix.{IsPixelPrefix, IsPixelRun}
use Rattle.draw_list.specs.Scene.{Scene}
use Rattle.draw_list.specs.Picture.{IsPixel, pixel_at}
use Rattle.draw_list.proofs.PixelPrefix.{prefix_run, part_of_rows}
use Rattle.draw_list.proofs.Pixels.{bytes_of_both, same_pixel, pixel_before, pixel_behind}
use Rattle.tiling.specs.Grid.{TileGrid, columns_of, rect_at, rect_of, tiles_over}
use Rattle.tiling.specs.Pixels.{AddsPixelRun, IsPictureIn}
use Rattle.tiling.specs.declared.tile_pixels.TilePixels.{TilePixels}
use Rattle.tiling.specs.TileRow.{AddsTileRow, IsColumn, tile_row_height, tile_row_top, column_left, column_width}
use Rattle.tiling.proofs.Intervals.{interval_next, interval_before}

-- the tile of this column and row has this number
pub tile_of_column : (row column columns : ℕ) → column < columns → ((row * columns + column) % columns ≡ column) × ((row * columns + column) / columns ≡ row)
tile_of_column row column columns h =
    let k : ℕ = row * columns + column in
    let wide : 0 < columns = omega arith in
    let same = same_from_place (k / columns) (k % columns) row column columns (mod-lt k wide) h (div-add-mod' k columns) in
    (same.1, same.0)

pub column_of_tile : (l : Scene) (g : TileGrid) (row column k : ℕ) (pixels : TilePixels) → k ≡ row * columns_of g + column → column < columns_of g
    → pixels.rect ≡ rect_of g k → IsPictureIn l pixels.rect pixels.bytes.items → IsColumn l g row column pixels
column_of_tile l g row column k pixels e h rect picture =
    let place = tile_of_column row column (columns_of g) h in
    let here : pixels.rect ≡ rect_at g column row = rw (e, place.0, place.1) at rect in
    let left = picture.left in
    let top = picture.top in
    let right = picture.right in
    let bottom = picture.bottom in
    let x0 = ap (λ (r : PixelBox). r.x0) here in
    let y0 = ap (λ (r : PixelBox). r.y0) here in
    let x1 = ap (λ (r : PixelBox). r.x1) here in
    let y1 = ap (λ (r : PixelBox). r.y1) here in
    let x : picture.x ≡ column_left g column = omega (arith, ints) in
    let y : picture.y ≡ tile_row_top g row = omega (arith, ints) in
    let width : picture.width ≡ column_width g column = omega (arith, ints) in
    let height : picture.height ≡ tile_row_height g row = omega (arith, ints) in
    record { rect = here; part = rw (x, y, width, height) at picture.part }

pub column_of_answer : {E : Type 0} (l : Scene) (g : TileGrid) (row column k : ℕ) (answer : Result TilePixels E) → k ≡ row * columns_of g + column → column < columns_of g
    → IfOk answer (λ pixels. pixels.rect ≡ rect_of g k) → IfOk answer (λ pixels. IsPictureIn l pixels.rect pixels.bytes.items) → IfOk answer (IsColumn l g row column)
column_of_answer l g row column k (Ok pixels) e h rect picture = column_of_tile l g row column k pixels e h rect picture
column_of_answer l g row column k (Err e') e h rect picture = tt

-- two runs side by side
module _ (l : Scene) (i j m n : ℕ) (a b : List ℕ) (h : IsPixelRun l i j m a) (k : IsPixelRun l (i + m) j n b) where
  pixel : (t : ℕ) → t < m + n → (t < m) ⊎ (m ≤ t) → IsPixel l (i + t) j (pixel_at l.output t (a ++ b))
  pixel t below (inl left) = same_pixel l (i + t) j (i + t) j _ _ refl refl (sym (pixel_before l.output m t a b h.size left)) (h.pixels t left)
  pixel t below (inr right) =
      let column : (i + m) + (t - m) ≡ i + t = omega arith in
      same_pixel l ((i + m) + (t - m)) j (i + t) j _ _ column refl (sym (pixel_behind l.output m (t - m) t a b h.size (omega arith))) (k.pixels (t - m) (omega arith))

  pub run_append : IsPixelRun l i j (m + n) (a ++ b)
  run_append = record {
    size = omega (arith, length-append a b, h.size, k.size, bytes_of_both l.output m n);
    pixels = λ t below. pixel t below (cases_lt t m);
  }

-- a tile's run behind those of the tiles on its left
pub column_added : (l : Scene) (g : TileGrid) (y column : ℕ) (old bytes run all : List ℕ) → column < columns_of g → g.width ≡ l.width
    → AddsPixelRun l 0 y (min l.width (side_of g.side * column)) old bytes
    → IsPixelRun l (column_left g column) y (column_width g column) run
    → all ≡ bytes ++ run
    → AddsPixelRun l 0 y (min l.width (side_of g.side * (column + 1))) old all
column_added l g y column old bytes run all h same added more e =
    let left : ℕ = side_of g.side * column in
    let many : ℕ = min l.width (left + side_of g.side) - left in
    let within : column < tiles_over l.width g.side = rw (← same) h in
    let before : min l.width left ≡ left = interval_before column l.width g.side within in
    let next : min l.width (side_of g.side * (column + 1)) ≡ left + many = interval_next column l.width g.side within in
    let wide : column_width g column ≡ many = ap (λ n. min n (left + side_of g.side) - left) same in
    let is : IsPixelRun l 0 y left added.run = subst (λ n. IsPixelRun l 0 y n added.run) before added.is in
    let run' : IsPixelRun l (0 + left) y many run = subst (λ x. IsPixelRun l x y many run) (sym (zero-add left)) (subst (λ n. IsPixelRun l left y n run) wide more) in
    let both = run_append l 0 y left many added.run run is run' in
    record {
      run = added.run ++ run;
      is = subst (λ n. IsPixelRun l 0 y n (added.run ++ run)) (sym next) both;
      behind = e ∙ (ap (λ b. b ++ run) added.behind ∙ append_assoc old added.run run);
    }

-- The new bytes are the old ones, and behind them the first n pixels of the picture's rows from row y on.
pub record AddsPixelPrefix (l : Scene) (y n : ℕ) (old new : List ℕ) : Type 0 where
  pub rows : List ℕ
  pub is : IsPixelPrefix l 0 y l.width n rows
  pub behind : new ≡ old ++ rows

-- a row behind those above it
pub row_added : (l : Scene) (y j : ℕ) (old bytes all : List ℕ) → AddsPixelPrefix l y (j * l.width) old bytes → AddsPixelRun l 0 (y + j) l.width bytes all → AddsPixelPrefix l y ((j + 1) * l.width) old all
row_added l y j old bytes all above added =
    let more = prefix_run l 0 y l.width (j * l.width) 0 j l.width above.rows added.run above.is (omega arith) (omega arith) added.is in
    let count : (j + 1) * l.width ≡ j * l.width + l.width = omega arith in
    record {
      rows = above.rows ++ added.run;
      is = rw count more;
      behind = added.behind ∙ (ap (λ b. b ++ added.run) above.behind ∙ append_assoc old above.rows added.run);
    }

-- all rows of a tile row were added
pub tile_row_added : (l : Scene) (g : TileGrid) (row j : ℕ) (old new : List ℕ) → j ≡ tile_row_height g row → AddsPixelPrefix l (tile_row_top g row) (j * l.width) old new → AddsTileRow l g row old new
tile_row_added l g row j old new all added = record {
  bytes = added.rows;
  is = part_of_rows l 0 (tile_row_top g row) l.width (tile_row_height g row) added.rows (rw all at added.is);
  behind = added.behind;
}
