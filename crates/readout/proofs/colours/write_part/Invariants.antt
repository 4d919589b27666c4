use Rattle.lanes.specs.Block.{stored_at}
use Rattle.blocks.specs.Layout.{pixel_in_block}
use Rattle.readout.specs.Colours.{LiesInPart, IsSampleColour, AreWrittenTo}
use Rattle.readout.proofs.colours.write_part.Given as goal

abbrev pub invariant-loop-row : goal.invariant-loop-row
invariant-loop-row l =
    AreWrittenTo l.rows (LiesInPart l.rows.tile_rows.first l.across l.down l.width l.row)
    (λ i j bytes. IsSampleColour l.format (stored_at l.plane (pixel_in_block i j)) bytes) l.fn.bytes l.bytes
