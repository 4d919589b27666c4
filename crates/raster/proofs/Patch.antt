-- The 4 by 4 pixels that hold those of a rectangle in a block.
use Rattle.std.proofs.Common.{◌≡◌, arith, Option, None, Some, IfSome, ℕ, ◌+◌, ◌*◌, ℤ, pos, ◌+ℤ◌, ◌-ℤ◌, ◌≤ℤ◌}
use Rattle.std.proofs.lemmas.Int.{ints, int_min_is, int_max_is}
use Rattle.std.specs.Int.{int_min, int_max}
use Rattle.grid.specs.declared.pixels.PixelBox.{PixelBox}
use Rattle.grid.specs.declared.triangle.Tri.{Tri}
use Rattle.cover.specs.Bounds.{HoldsCovered}
use Rattle.cover.specs.Square.{CoversInPatch}
use Rattle.raster.specs.declared.tile.Tile.{Tile}
use Rattle.raster.specs.Drawing.{LiesIn, block_of}
use Rattle.raster.specs.Region.{AreInFour}
use Rattle.raster.proofs.Rows.{corner_on_screen}

pub four_from : (low high : ℤ) (block k : ℕ) (first : ℤ) → first ≡ int_max (pos (8 * block)) (int_min low (pos (8 * block + 4))) → int_min high (pos (8 * block + 8)) ≤ℤ (first +ℤ pos 4) → pos k ≡ first -ℤ pos (8 * block) → AreInFour low high block k
four_from low high block k first is end begins =
    let least = int_min_is low (pos (8 * block + 4)) in
    let end_is = int_min_is high (pos (8 * block + 8)) in
    let greatest = int_max_is (pos (8 * block)) (int_min low (pos (8 * block + 4))) in
    record {
      in_block = omega (arith, ints);
      held = λ i above below from to. (omega (arith, ints), omega (arith, ints));
    }

-- the box of a triangle in a block, by columns and by rows
abbrev pub IsPatchOf : PixelBox → ℕ → ℕ → ℕ × ℕ → Type 0
IsPatchOf bounds bx by p = AreInFour bounds.x0 bounds.x1 bx p.0 × AreInFour bounds.y0 bounds.y1 by p.1

covered_in_patch : (t : Tri) (tile : Tile) (bounds : PixelBox) (bx by : ℕ) (p : ℕ × ℕ) → LiesIn tile bx by 8 → HoldsCovered t bounds → IsPatchOf bounds bx by p → CoversInPatch (block_of t tile bx by) p.0 p.1
covered_in_patch t tile bounds bx by p lies covering four = record {
  across = four.0.in_block;
  along = four.1.in_block;
  held = λ s row column small high wide covered.
      let across = corner_on_screen tile.side tile.bx tile.column in
      let down = corner_on_screen tile.side tile.by tile.row in
      let box = covering tile.count (8 * bx + column) (8 * by + row) s (omega (arith, across, lies.right, wide)) (omega (arith, down, lies.bottom, high)) small covered in
      let columns = four.0.held (8 * bx + column) box.left box.right (omega arith) (omega (arith, wide)) in
      let rows = four.1.held (8 * by + row) box.top box.bottom (omega arith) (omega (arith, high)) in
      record { from_column = omega (arith, columns.0); to_column = omega (arith, columns.1); from_row = omega (arith, rows.0); to_row = omega (arith, rows.1) };
}

pub patches_of_block : (t : Tri) (tile : Tile) (bounds : PixelBox) (bx by : ℕ) → LiesIn tile bx by 8 → HoldsCovered t bounds → (patch : Option (ℕ × ℕ)) → IfSome patch (IsPatchOf bounds bx by)
    → IfSome patch (λ p. CoversInPatch (block_of t tile bx by) p.0 p.1)
patches_of_block t tile bounds bx by lies covering None four = tt
patches_of_block t tile bounds bx by lies covering (Some p) four = covered_in_patch t tile bounds bx by p lies covering four
