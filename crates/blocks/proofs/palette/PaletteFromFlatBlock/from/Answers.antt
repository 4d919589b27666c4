use Rattle.std.proofs.Common.{slice_index, [], ◌∷◌}
use Rattle.std.proofs.lemmas.List.{get_or-replicate}
use Rattle.blocks.proofs.Palettes.{two_samples}
use Rattle.blocks.proofs.palette.PaletteFromFlatBlock.from.Goals as goal

pub returns : goal.returns
returns c s p h =
    let flat = c.args.flat in
    two_samples (flat.first ∷ flat.second ∷ flat.first ∷ flat.first ∷ []) (slice_index flat.masks s) p _ (get_or-replicate 16 s 0 0 h)
