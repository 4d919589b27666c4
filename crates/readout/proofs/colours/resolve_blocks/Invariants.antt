use Rattle.std.proofs.Common.{◌≡◌, ◌+◌, ◌*◌, ◌/◌, ◌<◌}
use Rattle.readout.specs.Colours.{IsPixelOf, AreWrittenTo}
use Rattle.readout.proofs.colours.resolve_blocks.Given as goal

abbrev pub invariant-loop-across : goal.invariant-loop-across
invariant-loop-across l =
    AreWrittenTo l.rows (λ i j. (i / 8 < l.across) × (j / 8 ≡ 8 * l.rows.tile_rows.first + l.down))
    (λ i j bytes. IsPixelOf l.rows.tile_rows.canvas l.rows.tile_rows.first l.planes l.format i j bytes) l.fn.bytes l.bytes
