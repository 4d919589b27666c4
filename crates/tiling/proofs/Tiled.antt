-- Tiles that are counted row by row from a first tile row on.
use Rattle.std.proofs.Common.{◌≡◌, refl, sym, ap, subst, ◌∙◌, ℕ, ◌+◌, ◌-◌, ◌*◌, ◌/◌, ◌%◌, ◌<◌, ◌≤◌, zero, suc, List, [], ◌∷◌, ◌++◌, length, take, drop, slice_get, Some, Result, IfOk, zero-add, arith}
use Rattle.std.proofs.lemmas.List.{length_push, length-take, length-drop}
use Rattle.std.proofs.lemmas.Option.{none-some, same_Some, slice_get_within}
use Rattle.std.proofs.Math.Nat.{mod-lt, div-add-mod', mul-le-mul_left}
use Rattle.draw_list.specs.Scene.{Scene}
use Rattle.tiling.specs.Grid.{TileGrid, columns_of, rect_of, rows_of}
use Rattle.tiling.specs.Pixels.{IsPictureIn}
use Rattle.tiling.specs.declared.tile_pixels.TilePixels.{TilePixels}
use Rattle.tiling.specs.TileRow.{AreColumns, IsColumn}
use Rattle.tiling.specs.Tiles.{AreTiles, IsTileIn}
use Rattle.tiling.proofs.Columns.{column_of_answer, tile_of_column}

-- the tile of this number among those from a tile row on, by its row and its column
place : (first n c : ℕ) → first * c + n ≡ (first + n / c) * c + n % c
place first n c = omega (arith, div-add-mod' n c)

pub tile_of_answer : {E : Type 0} (l : Scene) (g : TileGrid) (first n k : ℕ) (answer : Result TilePixels E) → k ≡ first * columns_of g + n → 0 < columns_of g
    → IfOk answer (λ pixels. pixels.rect ≡ rect_of g k) → IfOk answer (λ pixels. IsPictureIn l pixels.rect pixels.bytes.items) → IfOk answer (IsTileIn l g first n)
tile_of_answer l g first n k answer e wide rect picture =
    column_of_answer l g (first + n / columns_of g) (n % columns_of g) k answer (e ∙ place first n (columns_of g)) (mod-lt n wide) rect picture

-- what holds of each item by its place holds with one more
each_pushed : {X : Type 0} (P : ℕ → X → Type 0) (xs : List X) (x : X) → ((k : ℕ) (y : X) → slice_get xs k ≡ Some y → P k y) → P (length xs) x → (k : ℕ) (y : X) → slice_get (xs ++ x ∷ []) k ≡ Some y → P k y
each_pushed P [] x each last zero y e = subst (P 0) (same_Some x y e) last
each_pushed P [] x each last (suc k) y e = absurd (none-some y e)
each_pushed P (z ∷ zs) x each last zero y e = each zero y e
each_pushed P (z ∷ zs) x each last (suc k) y e = each_pushed (λ n. P (suc n)) zs x (λ n. each (suc n)) last k y e

-- The first `many` tiles from a tile row on.
pub record AreFirst (l : Scene) (g : TileGrid) (first many : ℕ) (tiles : List TilePixels) : Type 0 where
  pub number : length tiles ≡ many
  pub each : (n : ℕ) (pixels : TilePixels) → slice_get tiles n ≡ Some pixels → IsTileIn l g first n pixels

pub no_tiles : (l : Scene) (g : TileGrid) (first many : ℕ) (tiles : List TilePixels) → many ≡ 0 → tiles ≡ [] → AreFirst l g first many tiles
no_tiles l g first many tiles none e =
    rw (none, e) (record { number = refl; each = λ n pixels found. absurd (none-some pixels found) })

pub tile_pushed : (l : Scene) (g : TileGrid) (first many : ℕ) (tiles new : List TilePixels) (pixels : TilePixels) → AreFirst l g first many tiles → IsTileIn l g first many pixels → new ≡ tiles ++ pixels ∷ [] → AreFirst l g first (many + 1) new
tile_pushed l g first many tiles new pixels before last e =
    let last' : IsTileIn l g first (length tiles) pixels = subst (λ n. IsTileIn l g first n pixels) (sym before.number) last in
    rw e (record { number = length_push tiles pixels ∙ ap (λ n. n + 1) before.number; each = each_pushed (IsTileIn l g first) tiles pixels before.each last' })

pub all_tiles : (l : Scene) (g : TileGrid) (first end many : ℕ) (tiles : List TilePixels) → many ≡ (end - first) * columns_of g → AreFirst l g first many tiles → AreTiles l g first end tiles
all_tiles l g first end many tiles e all = record { number = all.number ∙ e; each = all.each }

pub no_tiles_between : (l : Scene) (g : TileGrid) (first end : ℕ) (tiles : List TilePixels) → first ≡ end → tiles ≡ [] → AreTiles l g first end tiles
no_tiles_between l g first end tiles same none =
    let product : (end - first) * columns_of g ≡ 0 * columns_of g = ap (λ n. n * columns_of g) (omega arith) in
    all_tiles l g first end 0 tiles (omega (arith, product)) (no_tiles l g first 0 tiles refl none)

pub tiles_of : (l l' : Scene) (g g' : TileGrid) (first first' end end' : ℕ) (tiles : List TilePixels) → l' ≡ l → g' ≡ g → first' ≡ first → end' ≡ end → AreTiles l' g' first' end' tiles → AreTiles l g first end tiles
tiles_of l l' g g' first first' end end' tiles d e f h are = rw (← d, ← e, ← f, ← h) are

-- an item of a part of a list
get_taken : {X : Type 0} (n i : ℕ) (xs : List X) (x : X) → slice_get (take n xs) i ≡ Some x → slice_get xs i ≡ Some x
get_taken zero i xs x e = absurd (none-some x e)
get_taken (suc n) i [] x e = absurd (none-some x e)
get_taken (suc n) zero (y ∷ ys) x e = e
get_taken (suc n) (suc i) (y ∷ ys) x e = get_taken n i ys x e

get_dropped : {X : Type 0} (n i : ℕ) (xs : List X) → slice_get (drop n xs) i ≡ slice_get xs (n + i)
get_dropped zero i xs = ap (slice_get xs) (sym (zero-add i))
get_dropped (suc n) i [] = refl
get_dropped (suc n) i (y ∷ ys) = let next : suc (n + i) ≡ suc n + i = omega arith in get_dropped n i ys ∙ ap (slice_get (y ∷ ys)) next

-- a tile of some tile rows is one of the picture
pub tile_within : (g : TileGrid) (first end n : ℕ) → first ≤ end → end ≤ rows_of g → n < (end - first) * columns_of g → first * columns_of g + n < columns_of g * rows_of g
tile_within g first end n ordered within h =
    let all : first + (end - first) ≡ end = omega arith in
    let product : (first + (end - first)) * columns_of g ≡ end * columns_of g = ap (λ x. x * columns_of g) all in
    let more : columns_of g * end ≤ columns_of g * rows_of g = mul-le-mul_left (columns_of g) within in
    omega arith

-- of the tiles those of one tile row
module _ (l : Scene) (g : TileGrid) (first end row : ℕ) (tiles : List TilePixels) (are : AreTiles l g first end tiles) (from : first ≤ row) (below : row < end) where
  abbrev columns : ℕ
  columns = columns_of g

  abbrev start : ℕ
  start = (row - first) * columns

  pub row_fits : start + columns ≤ length tiles
  row_fits =
      let more : columns * (row - first + 1) ≤ columns * (end - first) = mul-le-mul_left columns (omega arith) in
      omega (arith, are.number)

  pub row_of_tiles : (part : List TilePixels) → part ≡ take columns (drop start tiles) → AreColumns l g row part
  row_of_tiles part e =
      let fits = row_fits in
      let size : length part ≡ columns = ap length e ∙ length-take columns (drop start tiles) ∙ omega (arith, length-drop start tiles) in
      let each : (column : ℕ) (pixels : TilePixels) → slice_get part column ≡ Some pixels → IsColumn l g row column pixels =
      λ column pixels found.
      let in_part : slice_get (take columns (drop start tiles)) column ≡ Some pixels = rw e at found in
      let in_tiles : slice_get tiles (start + column) ≡ Some pixels = sym (get_dropped start column tiles) ∙ get_taken columns column (drop start tiles) pixels in_part in
      let within : column < columns = rw size at (slice_get_within part column pixels found) in
      let at = tile_of_column (row - first) column columns within in
      let here : first + (row - first) ≡ row = omega arith in
      subst (λ r. IsColumn l g r column pixels) here (rw (at.0, at.1) at (are.each (start + column) pixels in_tiles)) in
      record { number = size; each = each }
