use Rattle.std.proofs.Common.{◌∙◌, refl}
use Rattle.std.proofs.lemmas.List.{get_or-replicate}
use Rattle.lanes.specs.Block.{stored_at}
use Rattle.readout.proofs.TileEntries.{in_channels}
use Rattle.readout.proofs.tile_colours.fill_plane.Goals as goal

pub returns : goal.returns
returns c k h =
    let rgb = c.channels-r.ensures in
    in_channels _ _ _ c.args.colour (stored_at c.args.plane.now k) (stored_at c.args.plane.now k) (get_or-replicate 64 k c.channels-r.result.0 0 h ∙ rgb.0) (get_or-replicate 64 k c.channels-r.result.1 0 h ∙ rgb.1) (get_or-replicate 64 k c.channels-r.result.2 0 h ∙ rgb.2) refl
