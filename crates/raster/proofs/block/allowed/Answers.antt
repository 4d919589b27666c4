use Rattle.std.proofs.Common.{◌+◌, ◌*◌, ◌↔◌, ◌∷◌, [], List, slice_index, slice_index_or, IsBitSet, bit_and}
use Rattle.grid.specs.Samples.{part_size}
use Rattle.raster.specs.Drawing.{Allows}
use Rattle.raster.proofs.BlockDrawn.{allowed_plane, masked_further, each_of_four, part_at_most}
use Rattle.raster.proofs.block.allowed.Goals as goal

pub returns-clause-allowed : goal.returns-clause-allowed
returns-clause-allowed c row column s high wide small =
    let state = c.args.state.now in
    let masks = c.args.masks.now in
    let plane = allowed_plane state c.args.bx c.args.by c.args.scissor c.requires.scissor in
    let planes : List _ =
    bit_and (bit_and (slice_index_or masks 0 0) c.args.scissor) c.in_sample_mask.result
    ∷ bit_and (bit_and (slice_index_or masks 1 0) c.args.scissor) c.in_sample_mask-2.result
    ∷ bit_and (bit_and (slice_index_or masks 2 0) c.args.scissor) c.in_sample_mask-3.result
    ∷ bit_and (bit_and (slice_index_or masks 3 0) c.args.scissor) c.in_sample_mask-4.result
    ∷ [] in
    let further = masked_further state.sample_mask c.args.from in
    let few = part_at_most c.args.count in
    each_of_four (λ k. IsBitSet (slice_index planes k) (8 * row + column) ↔ (IsBitSet (slice_index masks k) (8 * row + column) × Allows state (8 * c.args.bx + column) (8 * c.args.by + row) (c.args.from + k)))
    (part_size c.args.count) few.1
    (λ l. plane (c.args.from + 0) _ _ (further 0 _ c.in_sample_mask.ensures) row column high wide)
    (λ l. plane (c.args.from + 1) _ _ (further 1 _ c.in_sample_mask-2.ensures) row column high wide)
    (λ l. plane (c.args.from + 2) _ _ (further 2 _ c.in_sample_mask-3.ensures) row column high wide)
    (λ l. plane (c.args.from + 3) _ _ (further 3 _ c.in_sample_mask-4.ensures) row column high wide) s small
