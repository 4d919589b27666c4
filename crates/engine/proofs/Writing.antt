-- Tile rows that are written one after another, and what a fault among them explains.
use Rattle.std.proofs.Common.{◌≡◌, ◌⊎◌, inl, inr, sym, ap, subst, ◌∙◌, ℕ, ◌+◌, ◌-◌, ◌*◌, ◌<◌, ◌≤◌, min, List, [], ◌++◌, length, take, Option, IfSome, Result, Ok, Err, IfOk, IfErr, append-nil, length-append, arith}
use Rattle.std.proofs.lemmas.Bool.{cases_lt}
use Rattle.std.proofs.lemmas.List.{nil_from_length}
use Rattle.std.proofs.Math.Nat.{mul-le-mul, mul-le-mul_left}
use Rattle.std.proofs.KnownBytes.{Appends-nil, Appends-trans}
use Rattle.std.specs.Io.KnownBytes.{Appends}
use Rattle.grid.specs.Pixels.{side_of}
use Rattle.grid.specs.declared.pixels.TileSide.{TileSide}
use Rattle.draw_list.specs.declared.output.Output.{Output}
use Rattle.draw_list.specs.declared.output.Output.TheVariants.{Color, Depth}
use Rattle.draw_list.specs.Scene.{Scene}
use Rattle.draw_list.specs.Picture.{IsPicturePart, output_pixel_bytes}
use Rattle.draw_list.proofs.Parts.{part-append}
use Rattle.draw_list.proofs.Pixels.{bytes_of_none, bytes_up_to}
use Rattle.bins.specs.Bin.{TileBins, AreBins}
use Rattle.tiling.specs.Grid.{TileGrid, tiles_over}
use Rattle.tiling.specs.TileRow.{AddsTileRows, AreTileRows}
use Rattle.engine.specs.Runs.{WritesAll}
use Rattle.engine.specs.Picture.{CutsRows, EndsRows, ExplainsPicture, ExplainsRows, WritesRows}
use Rattle.engine.specs.declared.picture.PictureFault.{PictureFault}
use Rattle.engine.specs.declared.picture.PictureFault.TheVariants.{NotBegun, OutOfMemory, WriteFailed}
use Rattle.picture_file.proofs.Beginnings.{Appends-front}
use Rattle.engine.proofs.Written.{HasWritten, all_written, tile_rows_cut, tile_rows_written, whole_tile_rows}

-- no rows of pixels
no_rows : (l : Scene) (y height : ℕ) → height ≡ 0 → IsPicturePart l 0 y l.width height []
no_rows l y height none = rw none (record { size = sym (bytes_of_none l.output (0 * l.width) (omega arith)); pixels = λ i j wide high. absurd (omega arith) })

pub no_tile_rows : (l : Scene) (side : TileSide) (row : ℕ) → AreTileRows l side row row []
no_tile_rows l side row = no_rows l (side_of side * row) _ (omega arith)

-- tile rows and those below them
module _ (l : Scene) (side : TileSide) (first middle end : ℕ) (order : first ≤ middle) (order' : middle ≤ end) (upper lower : List ℕ) (h : AreTileRows l side first middle upper) (k : AreTileRows l side middle end lower) where
  top : side_of side * first ≤ side_of side * middle
  top = mul-le-mul_left (side_of side) order

  bottom : side_of side * middle ≤ side_of side * end
  bottom = mul-le-mul_left (side_of side) order'

  inside : side_of side * middle ≤ l.height → AreTileRows l side first end (upper ++ lower)
  inside within =
      let above = top in
      let below = bottom in
      let high : ℕ = min l.height (side_of side * middle) - side_of side * first in
      let low : ℕ = min l.height (side_of side * end) - side_of side * middle in
      let begin : side_of side * middle ≡ side_of side * first + high = omega arith in
      let lower' = subst (λ y. IsPicturePart l 0 y l.width low lower) begin k in
      let both = part-append l 0 (side_of side * first) l.width high low upper lower h lower' in
      let sum : high + low ≡ min l.height (side_of side * end) - side_of side * first = omega arith in
      subst (λ n. IsPicturePart l 0 (side_of side * first) l.width n (upper ++ lower)) sum both

  past : l.height < side_of side * middle → AreTileRows l side first end (upper ++ lower)
  past behind =
      let above = top in
      let below = bottom in
      let flat : (min l.height (side_of side * end) - side_of side * middle) * l.width ≡ 0 * l.width = ap (λ n. n * l.width) (omega arith) in
      let nothing : length lower ≡ 0 = k.size ∙ bytes_of_none l.output _ (omega (arith, flat)) in
      let none : lower ≡ [] = nil_from_length lower nothing in
      let same : min l.height (side_of side * middle) ≡ min l.height (side_of side * end) = omega arith in
      let all : AreTileRows l side first end upper = subst (λ n. IsPicturePart l 0 (side_of side * first) l.width (n - side_of side * first) upper) same h in
      subst (AreTileRows l side first end) (sym (ap (λ xs. upper ++ xs) none ∙ append-nil upper)) all

  pub tile_rows_behind : AreTileRows l side first end (upper ++ lower)
  tile_rows_behind = here (cases_lt l.height (side_of side * middle)) where
    here : (l.height < side_of side * middle) ⊎ (side_of side * middle ≤ l.height) → AreTileRows l side first end (upper ++ lower)
    here (inl behind) = past behind
    here (inr within) = inside within

-- the bytes of one tile row by what its parts are called, where there were none before
pub tile_row_of : (l l' : Scene) (g g' : TileGrid) (row first end : ℕ) (old new : List ℕ) → l' ≡ l → g' ≡ g → first ≡ row → end ≡ row + 1 → old ≡ [] → AddsTileRows l' g'.side first end old new → AreTileRows l g.side row (row + 1) new
tile_row_of l l' g g' row first end old new d e f h none adds =
    let same : new ≡ adds.bytes = adds.behind ∙ ap (λ xs. xs ++ adds.bytes) none in
    let here : AreTileRows l' g'.side first end new = subst (AreTileRows l' g'.side first end) (sym same) adds.are in
    rw (← d, ← e, ← h, ← f) here

pub bins_of : (l l' : Scene) (g g' : TileGrid) (first first' end end' : ℕ) (bins : Option TileBins) → l' ≡ l → g' ≡ g → first' ≡ first → end' ≡ end → IfSome bins (AreBins l' g' first' (end' - first')) → IfSome bins (AreBins l g first (end - first))
bins_of l l' g g' first first' end end' bins d e f h are = rw (← d, ← e, ← f, ← h) are

-- a picture has at most 50,331,648 bytes
pub few_bytes : (l : Scene) (side : TileSide) (first end : ℕ) (bytes : List ℕ) → l.width ≤ 4096 → l.height ≤ 4096 → AreTileRows l side first end bytes → length bytes ≤ 50331648
few_bytes l side first end bytes wide high are =
    let rows : min l.height (side_of side * end) - side_of side * first ≤ 4096 = omega arith in
    let pixels : (min l.height (side_of side * end) - side_of side * first) * l.width ≤ 4096 * 4096 = mul-le-mul rows wide in
    let all = bytes_up_to l.output _ _ pixels in
    let size = are.size in
    let most = greatest l.output in
    omega arith where
      greatest : (o : Output) → output_pixel_bytes o * (4096 * 4096) ≤ 50331648
      greatest Color = omega arith
      greatest Depth = omega arith

module _ (l : Scene) (side : TileSide) where
  -- nothing is written yet
  pub none_written : (row count : ℕ) (held : Option (List ℕ)) → WritesRows l side row row count count held held
  none_written row count held = record { rows = []; are = no_tile_rows l side row; many = omega arith; written = Appends-nil held }

  -- a fault of the first of some tile rows
  pub explains_more : (first end end' before : ℕ) (e : PictureFault) (held held' : Option (List ℕ)) → end ≤ end' → ExplainsRows l side first end before e held held' → ExplainsRows l side first end' before e held held'
  explains_more first end end' before NotBegun held held' order k = elim k [ ]
  explains_more first end end' before (OutOfMemory row) held held' order k = (k.0, omega (arith, k.1), k.2)
  explains_more first end end' before (WriteFailed count) held held' order k = k

  module _ (first middle before count : ℕ) (order : first ≤ middle) (held held' : Option (List ℕ)) (h : WritesRows l side first middle before count held held') where
    -- more tile rows are written behind others
    pub more_written : (end count' : ℕ) (bytes : List ℕ) (held'' : Option (List ℕ)) → middle ≤ end → AreTileRows l side middle end bytes → count' ≡ count + length bytes → Appends held' held'' bytes
        → WritesRows l side first end before count' held held''
    more_written end count' bytes held'' order' are many written =
        let size = h.many in record {
          rows = h.rows ++ bytes;
          are = tile_rows_behind l side first middle end order order' h.rows bytes h.are are;
          many = omega (arith, length-append h.rows bytes);
          written = Appends-trans held held' held'' h.rows bytes h.written written;
        }

    pub then_written : (end count' : ℕ) (held'' : Option (List ℕ)) → middle ≤ end → WritesRows l side middle end count count' held' held'' → WritesRows l side first end before count' held held''
    then_written end count' held'' order' k = more_written end count' k.rows held'' order' k.are k.many k.written

    -- or a beginning of them
    pub more_cut : (end count' : ℕ) (bytes : List ℕ) (held'' : Option (List ℕ)) → middle ≤ end → AreTileRows l side middle end bytes → (count ≤ count') × (count' ≤ count + length bytes)
        → Appends held' held'' (take (count' - count) bytes) → CutsRows l side first before count' held held''
    more_cut end count' bytes held'' order' are within written =
        let size = h.many in
        let low = within.0 in
        let high = within.1 in
        let rest : count' - count ≡ (count' - before) - length h.rows = omega arith in record {
          end = end;
          ordered = omega arith;
          rows = h.rows ++ bytes;
          are = tile_rows_behind l side first middle end order order' h.rows bytes h.are are;
          within = (omega arith, omega (arith, length-append h.rows bytes));
          written = Appends-front held held' held'' h.rows bytes (count' - before) (omega arith) h.written (subst (λ n. Appends held' held'' (take n bytes)) rest written);
        }

    -- what a fault explains of tile rows behind others
    pub explains_behind : (end : ℕ) (e : PictureFault) (held'' : Option (List ℕ)) → ExplainsRows l side middle end count e held' held'' → ExplainsRows l side first end before e held held''
    explains_behind end NotBegun held'' k = elim k [ ]
    explains_behind end (OutOfMemory row) held'' k = (omega (arith, k.0), k.1, (k.2.0, then_written row k.2.0 held'' k.0 k.2.1))
    explains_behind end (WriteFailed count') held'' k = more_cut k.end count' k.rows held'' k.ordered k.are k.within k.written

-- what a fault explains by what the parts are called
pub explains_of : (l l' : Scene) (g g' : TileGrid) (first first' end end' before : ℕ) (e : PictureFault) (held held' : Option (List ℕ)) → l' ≡ l → g' ≡ g → first' ≡ first → end' ≤ end
    → ExplainsRows l' g'.side first' end' before e held held' → ExplainsRows l g.side first end before e held held'
explains_of l l' g g' first first' end end' before e held held' d h f order k =
    explains_more l g.side first end' end before e held held' order (rw (← d, ← h, ← f) k)

-- what is said of tile rows by what the parts are called
pub by_names : (l l' : Scene) (g g' : TileGrid) (side : TileSide) (first first' end end' : ℕ) → l' ≡ l → g' ≡ g → g.side ≡ side → first' ≡ first → end' ≡ end
    → (P : Scene → TileSide → ℕ → ℕ → Type 0) → P l' g'.side first' end' → P l side first end
by_names l l' g g' side first first' end end' d e same f h P k =
    let list = subst (λ l. P l g'.side first' end') d k in
    let grid = subst (λ (g : TileGrid). P l g.side first' end') e list in
    let tile = subst (λ side. P l side first' end') same grid in
    let begin = subst (λ first. P l side first end') f tile in
    subst (λ end. P l side first end) h begin

-- behind the header they are the file
module _ (l : Scene) (side : TileSide) (rows header : ℕ) (wide : 1 ≤ l.width) (some : 0 < tiles_over l.height side) (all : rows ≡ tiles_over l.height side) (held held' : Option (List ℕ)) (h : HasWritten l side 0 header held held') where
  behind : (row count : ℕ) (held'' : Option (List ℕ)) → WritesRows l side 0 row header count held' held'' → HasWritten l side row count held held''
  behind row count held'' k = tile_rows_written l side 0 header held held' wide some h row (omega arith) k.rows k.are count held'' k.many k.written

  file_written : (count : ℕ) (held'' : Option (List ℕ)) → WritesRows l side 0 rows header count held' held'' → WritesAll l count held held''
  file_written count held'' k = all_written l side rows count held held'' (omega arith) (behind rows count held'' k)

  file_explained : (e : PictureFault) (held'' : Option (List ℕ)) → ExplainsRows l side 0 rows header e held' held'' → ExplainsPicture l side e held held''
  file_explained NotBegun held'' k = elim k [ ]
  file_explained (OutOfMemory row) held'' k = whole_tile_rows l side row k.2.0 held held'' wide (omega (arith, k.1)) (behind row k.2.0 held'' k.2.1)
  file_explained (WriteFailed count) held'' k = tile_rows_cut l side 0 header held held' wide some h k.end (omega arith) k.rows k.are count held'' k.within k.written

  -- so the file is written whole, or the error explains what was of it
  pub file_ended : (result : Result ℕ PictureFault) (held'' : Option (List ℕ)) (failed failed' : ℕ) → EndsRows l side 0 rows header result held' held'' failed failed'
      → IfOk result (λ count. WritesAll l count held held'') × IfErr result (λ e. ExplainsPicture l side e held held'')
  file_ended (Ok count) held'' failed failed' ends = (file_written count held'' ends.rows, tt)
  file_ended (Err e) held'' failed failed' ends = (tt, file_explained e held'' ends.fault)
