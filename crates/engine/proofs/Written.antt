-- What a writer has of a picture's file, tile row after tile row.
use Rattle.std.proofs.Common.{◌≡◌, refl, sym, ap, subst, ◌∙◌, ℕ, ◌+◌, ◌-◌, ◌*◌, ◌<◌, ◌≤◌, min, List, [], ◌++◌, length, take, Option, zero-add, append_assoc, append-nil, length-append, arith}
use Rattle.std.proofs.lemmas.List.{take-append-le}
use Rattle.std.proofs.Math.Nat.{mul-le-mul_left}
use Rattle.std.proofs.Math.Seq.{take-append_seam}
use Rattle.std.proofs.KnownBytes.{Appends-trans}
use Rattle.std.specs.Io.KnownBytes.{Appends}
use Rattle.grid.specs.Pixels.{side_of}
use Rattle.grid.specs.declared.pixels.TileSide.{TileSide}
use Rattle.draw_list.specs.declared.output.Output.{Output}
use Rattle.draw_list.specs.Scene.{Scene}
use Rattle.draw_list.specs.Picture.{IsPicturePart}
use Rattle.draw_list.proofs.Exists.{part-exists}
use Rattle.draw_list.proofs.Parts.{part-append}
use Rattle.draw_list.proofs.Pixels.{bytes_of_none}
use Rattle.tiling.specs.Grid.{tiles_over}
use Rattle.tiling.specs.TileRow.{AreTileRows}
use Rattle.picture_file.specs.File.{header_of, file_of, IsPictureFile}
use Rattle.engine.specs.Runs.{WritesAll, WritesTileRows, WritesFileUpTo, bytes_before}
use Rattle.picture_file.proofs.Beginnings.{Appends-front}
use Rattle.tiling.proofs.Intervals.{begins_within, interval_before, intervals_all}

-- rows that are there, and the others of the picture
pub file_with : (l : Scene) (y : ℕ) (rows : List ℕ) → 1 ≤ l.width → y ≤ l.height → IsPicturePart l 0 0 l.width y rows → (rest : List ℕ) × IsPictureFile l (file_of l.output l.width l.height (rows ++ rest))
file_with l y rows wide within part =
    let rest = part-exists l 0 y l.width (l.height - y) wide in
    let below : IsPicturePart l 0 (0 + y) l.width (l.height - y) rest.0 = subst (λ top. IsPicturePart l 0 top l.width (l.height - y) rest.0) (sym (zero-add y)) rest.1 in
    let high : y + (l.height - y) ≡ l.height = omega arith in
    (rest.0, record { rows = rows ++ rest.0; picture = rw high at (part-append l 0 0 l.width y (l.height - y) rows rest.0 part below); whole = refl })

no_rows : (l : Scene) → IsPicturePart l 0 0 l.width 0 []
no_rows l = record { size = sym (bytes_of_none l.output (0 * l.width) (omega arith)); pixels = λ i j wide high. absurd (omega arith) }

-- the header was cut short
pub header_cut : (l : Scene) (output : Output) (width height n : ℕ) (held held_after : Option (List ℕ)) → output ≡ l.output → width ≡ l.width → height ≡ l.height → 1 ≤ l.width → n ≤ length (header_of output width height)
    → Appends held held_after (take n (header_of output width height)) → WritesFileUpTo l n held held_after
header_cut l output width height n held held_after d e f wide short written =
    let all = file_with l 0 [] wide (omega arith) (no_rows l) in
    let header : header_of output width height ≡ header_of l.output l.width l.height = rw (d, e, f) refl in
    let short' : n ≤ length (header_of l.output l.width l.height) = subst (λ h. n ≤ length h) header short in
    let front : take n (header_of l.output l.width l.height ++ all.0) ≡ take n (header_of l.output l.width l.height) = rw take-append-le refl in
    record {
      file = file_of l.output l.width l.height all.0;
      picture = all.1;
      within = omega (arith, length-append (header_of l.output l.width l.height) all.0);
      written = subst (Appends held held_after) (ap (take n) header ∙ sym front) written;
    }

-- The header and the tile rows before this one were written, `count` bytes together.
pub record HasWritten (l : Scene) (side : TileSide) (row count : ℕ) (held held_after : Option (List ℕ)) : Type 0 where
  pub rows : List ℕ
  pub part : IsPicturePart l 0 0 l.width (min l.height (side_of side * row)) rows
  pub written : Appends held held_after (header_of l.output l.width l.height ++ rows)
  pub many : count ≡ length (header_of l.output l.width l.height) + length rows

pub header_written : (l : Scene) (side : TileSide) (begin : ℕ) (output : Output) (width height count : ℕ) (held held_after : Option (List ℕ)) → begin ≡ 0 → output ≡ l.output → width ≡ l.width → height ≡ l.height
    → count ≡ length (header_of output width height) → Appends held held_after (header_of output width height) → HasWritten l side begin count held held_after
header_written l side begin output width height count held held_after top d e f many written =
    let header : header_of output width height ≡ header_of l.output l.width l.height = rw (d, e, f) refl in
    let none : min l.height (side_of side * begin) ≡ 0 = rw top (omega arith) in
    record {
      rows = [];
      part = rw none (no_rows l);
      written = subst (Appends held held_after) (header ∙ sym (append-nil (header_of l.output l.width l.height))) written;
      many = many ∙ ap length header ∙ omega arith;
    }

module _ (l : Scene) (side : TileSide) (first count : ℕ) (held held' : Option (List ℕ)) (wide : 1 ≤ l.width) (within : first < tiles_over l.height side) (h : HasWritten l side first count held held') where
  abbrev header : List ℕ
  header = header_of l.output l.width l.height

  abbrev before : List ℕ
  before = header ++ h.rows

  top : min l.height (side_of side * first) ≡ side_of side * first
  top = interval_before first l.height side within

  below_top : side_of side * first < l.height
  below_top = begins_within first l.height side within

  -- no tile row more was written
  pub whole_tile_rows : WritesTileRows l side first held held'
  whole_tile_rows =
      let part : IsPicturePart l 0 0 l.width (side_of side * first) h.rows = rw top at h.part in
      let start = below_top in
      let all = file_with l (side_of side * first) h.rows wide (omega arith) part in
      let size = part.size in
      let long : bytes_before l side first ≡ length before = omega (arith, length-append header h.rows) in
      let front : take (bytes_before l side first) (before ++ all.0) ≡ before = ap (λ n. take n (before ++ all.0)) long ∙ take-append_seam before all.0 in
      let file : file_of l.output l.width l.height (h.rows ++ all.0) ≡ before ++ all.0 = sym (append_assoc header h.rows all.0) in
      record {
        file = file_of l.output l.width l.height (h.rows ++ all.0);
        picture = all.1;
        within = below_top;
        written = subst (Appends held held') (sym (ap (take (bytes_before l side first)) file ∙ front)) h.written;
      }

  module _ (end : ℕ) (ordered : first ≤ end) (bytes : List ℕ) (are : AreTileRows l side first end bytes) where
    rows_more : IsPicturePart l 0 0 l.width (min l.height (side_of side * end)) (h.rows ++ bytes)
    rows_more =
        let start = below_top in
        let begin = top in
        let more : side_of side * first ≤ side_of side * end = mul-le-mul_left (side_of side) ordered in
        let high : ℕ = min l.height (side_of side * end) - side_of side * first in
        let low : side_of side * first ≡ 0 + min l.height (side_of side * first) = omega arith in
        let below = subst (λ y. IsPicturePart l 0 y l.width high bytes) low are in
        let both = part-append l 0 0 l.width (min l.height (side_of side * first)) high h.rows bytes h.part below in
        let sum : min l.height (side_of side * first) + high ≡ min l.height (side_of side * end) = omega arith in
        subst (λ n. IsPicturePart l 0 0 l.width n (h.rows ++ bytes)) sum both

    -- the tile rows were written whole
    pub tile_rows_written : (count' : ℕ) (held'' : Option (List ℕ)) → count' ≡ count + length bytes → Appends held' held'' bytes → HasWritten l side end count' held held''
    tile_rows_written count' held'' more written =
        let many = h.many in record {
          rows = h.rows ++ bytes;
          part = rows_more;
          written = subst (Appends held held'') (append_assoc header h.rows bytes) (Appends-trans held held' held'' before bytes h.written written);
          many = omega (arith, length-append h.rows bytes);
        }

    -- or they were cut short
    pub tile_rows_cut : (n : ℕ) (held'' : Option (List ℕ)) → (count ≤ n) × (n ≤ count + length bytes) → Appends held' held'' (take (n - count) bytes) → WritesFileUpTo l n held held''
    tile_rows_cut n held'' within' written =
        let all = file_with l (min l.height (side_of side * end)) (h.rows ++ bytes) wide (omega arith) rows_more in
        let many : count ≡ length before = h.many ∙ sym (length-append header h.rows) in
        let low = within'.0 in
        let high = within'.1 in
        let went = Appends-front held held' held'' before bytes n (omega arith) h.written (subst (λ k. Appends held' held'' (take (n - k) bytes)) many written) in
        let file : file_of l.output l.width l.height ((h.rows ++ bytes) ++ all.0) ≡ (before ++ bytes) ++ all.0 =
        ap (λ r. header ++ r) (append_assoc h.rows bytes all.0) ∙ sym (append_assoc header h.rows (bytes ++ all.0)) ∙ sym (append_assoc before bytes all.0) in
        let short : n ≤ length (before ++ bytes) = omega (arith, length-append before bytes) in
        let front : take n ((before ++ bytes) ++ all.0) ≡ take n (before ++ bytes) = take-append-le n (before ++ bytes) all.0 short in
        record {
          file = file_of l.output l.width l.height ((h.rows ++ bytes) ++ all.0);
          picture = all.1;
          within = subst (λ f. n ≤ length f) (sym file) (omega (arith, length-append (before ++ bytes) all.0));
          written = subst (Appends held held'') (sym (ap (take n) file ∙ front)) went;
        }

-- all tile rows were written
pub all_written : (l : Scene) (side : TileSide) (row count : ℕ) (held held' : Option (List ℕ)) → tiles_over l.height side ≤ row → HasWritten l side row count held held' → WritesAll l count held held'
all_written l side row count held held' past h =
    let all = intervals_all row l.height side past in
    let part : IsPicturePart l 0 0 l.width l.height h.rows = rw all at h.part in
    record {
      file = file_of l.output l.width l.height h.rows;
      picture = record { rows = h.rows; picture = part; whole = refl };
      many = h.many ∙ sym (length-append (header_of l.output l.width l.height) h.rows);
      written = h.written;
    }
