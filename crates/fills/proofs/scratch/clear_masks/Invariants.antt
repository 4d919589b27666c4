use Rattle.std.proofs.Common.{◌≡◌, ℕ, ◌*◌, ◌<◌, slice_index}
use Rattle.polygons.specs.ManyRows.{row_of}
use Rattle.polygons.specs.Cells.{AreMasksAlone}
use Rattle.fills.proofs.scratch.clear_masks.Given as goal

abbrev pub invariant-loop-part : goal.invariant-loop-part
invariant-loop-part l = record {
  zeros : (column i : ℕ) → column < l.part * l.each → slice_index (row_of l.flags column) i ≡ 0;
  others : AreMasksAlone l.many l.each l.flags;
}
