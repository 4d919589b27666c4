use Rattle.std.proofs.Common.{true, ◌≡◌, ◌∙◌, ap, sym, refl, ◌+◌, ◌-◌, ◌*◌, ◌/◌, ◌%◌, ℕ, take, drop, arith}
use Rattle.lanes.specs.Block.{stored_at}
use Rattle.blocks.specs.Layout.{planes_of_tile, block_in_tile, pixel_in_block, place_in_tile, is_plain, in_list, way_in_tile}
use Rattle.blocks.proofs.Cut.{part_of}
use Rattle.blocks.proofs.Places.{none}
use Rattle.canvas.proofs.Places.{tile_of, tile_way, within_row}
use Rattle.blocks.proofs.TilePlanes.{in_block}
use Rattle.readout.proofs.place.place.Goals as goal

pub returns-clause-within : goal.returns-clause-within
returns-clause-within c =
    let self = c.args.canvas.now in
    let inside = within_row self (c.args.i / 64) c.place_in_tile.result c.requires.column c.place_in_tile.ensures.within in
    let start : c.args.i / 64 * c.planes_of_tile-each.result ≡ c.args.i / 64 * planes_of_tile self.count = ap (λ n. c.args.i / 64 * n) c.planes_of_tile-each.ensures.value in
    omega (arith, inside, start)

pub returns-clause-row : goal.returns-clause-row
returns-clause-row c other k l =
    let self = c.args.canvas.now in
    let i : ℕ = c.args.i in
    let j : ℕ = c.args.j in
    let s : ℕ = c.args.s in
    let xs = c.args.samples.now in
    let each : ℕ = c.planes_of_tile-each.result in
    let first : ℕ = i / 64 * each in
    let n : ℕ = first + each - first in
    let part = take n (drop first xs) in
    let size : n ≡ planes_of_tile self.count = omega (arith, c.planes_of_tile-each.ensures.value) in
    let start : first ≡ i / 64 * planes_of_tile self.count = ap (λ m. i / 64 * m) c.planes_of_tile-each.ensures.value in
    let tile : i / 64 ≡ (i + k) / 64 = omega (arith, l) in
    let block : block_in_tile (i + k) j ≡ block_in_tile i j = omega (arith, l) in
    let pixel : 8 * (j % 8) + (i % 8 + k) ≡ pixel_in_block (i + k) j = omega (arith, l) in
    let plain : is_plain (way_in_tile part (block_in_tile i j)) ≡ true = ap is_plain (tile_way self i j s (j / 64) xs n first refl size start) ∙ other in
    ap (λ plane. stored_at plane (8 * (j % 8) + (i % 8 + k))) (sym (part_of xs first n none c.place_in_tile.result (omega (arith, size, c.place_in_tile.ensures.within))))
    ∙ ap (λ p. stored_at (in_list part p) (8 * (j % 8) + (i % 8 + k))) c.place_in_tile.ensures.value
    ∙ ap (λ p. stored_at (in_list part (place_in_tile self.count (in_list part) i j s)) p) pixel
    ∙ in_block self.count part i j (i + k) j s block plain
    ∙ tile_of self (i + k) j s (j / 64) xs n first refl size (start ∙ ap (λ m. m * planes_of_tile self.count) tile) c.requires.sample
