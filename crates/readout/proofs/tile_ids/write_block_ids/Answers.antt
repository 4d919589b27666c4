use Rattle.std.proofs.Common.{true, ◌≡◌, ◌∙◌, ap, sym, ◌+◌, ◌*◌, ◌/◌, ◌%◌, ℕ, arith}
use Rattle.std.proofs.lemmas.List.{map-id}
use Rattle.lanes.specs.Block.{stored_at}
use Rattle.blocks.specs.Layout.{block_in_tile, pixel_in_block, in_list, is_plain, way_in_tile, id_of}
use Rattle.blocks.proofs.TilePlanes.{in_block, by_none}
use Rattle.readout.proofs.tile_ids.write_block_ids.Goals as goal

pub returns-in-Some : goal.returns-in-Some
returns-in-Some c i j here =
    let pixel : 0 + pixel_in_block i j ≡ pixel_in_block i j = omega arith in
    (rw (map-id) at c.write_entries.ensures (pixel_in_block i j) (omega arith))
    ∙ ap (λ m. id_of (stored_at c.in-Some.plane m)) pixel
    ∙ ap id_of (c.in-Some.ensures.merged i j here)

pub returns-in-None : goal.returns-in-None
returns-in-None c i j here =
    let xs = c.args.samples.now in
    let k : ℕ = c.args.k in
    let first : block_in_tile (8 * (k % 8)) (8 * (k / 8)) ≡ k = omega (arith, c.requires.block) in
    let other : is_plain (way_in_tile xs (block_in_tile (8 * (k % 8)) (8 * (k / 8)))) ≡ true = ap (λ m. is_plain (way_in_tile xs m)) first ∙ by_none (is_plain (way_in_tile xs k)) c.in-None.ensures.some.1 in
    let pixel : 0 + pixel_in_block i j ≡ pixel_in_block i j = omega arith in
    (rw (map-id) at c.write_entries-in-None.ensures (pixel_in_block i j) (omega arith))
    ∙ ap (λ m. id_of (stored_at (in_list xs c.place_in_tile-place.result) m)) pixel
    ∙ ap (λ p. id_of (stored_at (in_list xs p) (pixel_in_block i j))) c.place_in_tile-place.ensures.value
    ∙ ap id_of (in_block c.args.count xs (8 * (k % 8)) (8 * (k / 8)) i j c.args.s (here ∙ sym first) other)
