use Rattle.std.proofs.Common.{◌≡◌, ℕ, ◌-◌, ◌*◌, List, min, arith}
use Rattle.lanes.specs.declared.block_samples.BlockSamples.{BlockSamples}
use Rattle.lanes.specs.Block.{stored_at}
use Rattle.readout.specs.declared.format.Format.{Format}
use Rattle.readout.specs.declared.pixel_rows.PixelRows.{PixelRows}
use Rattle.blocks.specs.Layout.{pixel_in_block}
use Rattle.readout.specs.Pixels.{shown_rows}
use Rattle.readout.specs.Colours.{IsSampleColour, LiesInBlock, LiesInPart, AreWrittenTo}
use Rattle.readout.proofs.Written.{written_as}
use Rattle.readout.proofs.colours.write_block.Goals as goal

-- the part of a block that is in the picture
shown_part : (rows : PixelRows) (plane : BlockSamples) (across down width height : ℕ) (format : Format) (old new : List ℕ) → let c = rows.tile_rows.canvas in let first : ℕ = rows.tile_rows.first in
    width ≡ min (c.width - 8 * across) 8 → height ≡ min (shown_rows c first rows.tile_rows.end - 8 * down) 8
    → AreWrittenTo rows (LiesInPart first across down width height) (λ i j bytes. IsSampleColour format (stored_at plane (pixel_in_block i j)) bytes) old new
    → AreWrittenTo rows (LiesInBlock first across down) (λ i j bytes. IsSampleColour format (stored_at plane (pixel_in_block i j)) bytes) old new
shown_part rows plane across down width height format old new wide high =
    written_as rows.tile_rows.canvas rows.tile_rows.first rows.tile_rows.end rows.unit rows.stride P (LiesInPart rows.tile_rows.first across down width height) (LiesInBlock rows.tile_rows.first across down) P old new
    (λ i j h here. record { left = omega (arith, here.column); right = omega (arith, here.column, wide, h.column); top = omega (arith, here.row); bottom = omega (arith, here.row, high, h.row, h.below, h.from) })
    (λ i j h here. record { column = omega (arith, here.left, here.right, wide); row = omega (arith, here.top, here.bottom, high) })
    (λ i j bytes h here order. order)
  where
    P : ℕ → ℕ → (ℕ → ℕ) → Type 0
    P i j bytes = IsSampleColour format (stored_at plane (pixel_in_block i j)) bytes

pub returns-then-height-eq8 : goal.returns-then-height-eq8
returns-then-height-eq8 c =
    shown_part c.args.rows.now c.args.plane.now c.args.across c.args.down 8 8 c.args.format c.args.bytes.now _ (omega (arith, c.if-width-eq8.true, c.min-width.ensures)) (omega (arith, c.if-height-eq8.true, c.min-height.ensures, c.count.ensures)) c.write_part.ensures

pub returns-else-width-eq8 : goal.returns-else-width-eq8
returns-else-width-eq8 c =
    shown_part c.args.rows.now c.args.plane.now c.args.across c.args.down c.min-width.result c.min-height.result c.args.format c.args.bytes.now _ c.min-width.ensures (omega (arith, c.min-height.ensures, c.count.ensures)) c.write_part-else-width-eq8.ensures
