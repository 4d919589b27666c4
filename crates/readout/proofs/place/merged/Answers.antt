use Rattle.std.proofs.Common.{◌≡◌, ◌∙◌, ap, sym, refl, ◌+◌, ◌-◌, ◌*◌, ◌/◌, ◌%◌, ℕ, take, drop, arith}
use Rattle.std.proofs.lemmas.Option.{IfSome_then}
use Rattle.lanes.specs.declared.block_samples.BlockSamples.{BlockSamples}
use Rattle.lanes.specs.Block.{stored_at}
use Rattle.blocks.specs.Layout.{planes_of_tile, block_in_tile, pixel_in_block, is_plain, way_in_tile}
use Rattle.canvas.specs.Layout.{way_in_row}
use Rattle.canvas.proofs.Places.{tile_of, tile_way}
use Rattle.readout.proofs.place.merged.Goals as goal

pub returns : goal.returns
returns c =
    let self = c.args.canvas.now in
    let i : ℕ = c.args.i in
    let j : ℕ = c.args.j in
    let s : ℕ = c.args.s in
    let xs = c.args.samples.now in
    let each : ℕ = c.planes_of_tile-each.result in
    let first : ℕ = i / 64 * each in
    let n : ℕ = first + each - first in
    let part = take n (drop first xs) in
    let size : n ≡ planes_of_tile self.count = omega (arith, c.planes_of_tile-each.ensures.value) in
    let start : first ≡ i / 64 * planes_of_tile self.count = ap (λ m. i / 64 * m) c.planes_of_tile-each.ensures.value in
    let block : c.block_in_tile.result ≡ block_in_tile i j = c.block_in_tile.ensures.value in
    let way : way_in_tile part c.block_in_tile.result ≡ way_in_row self xs i j = ap (way_in_tile part) block ∙ tile_way self i j s (j / 64) xs n first refl size start in
    record {
      some = (λ is. ap is_plain (sym way) ∙ c.merged_in_tile.ensures.some.0 is, λ is. c.merged_in_tile.ensures.some.1 (ap is_plain way ∙ is));
      row = IfSome_then c.merged_in_tile.result c.merged_in_tile.ensures.merged
          (λ (plane : BlockSamples) has k l.
          let tile : i / 64 ≡ (i + k) / 64 = omega (arith, l) in
          let here : block_in_tile (i + k) j ≡ block_in_tile i j = omega (arith, l) in
          let pixel : 8 * (j % 8) + (i % 8 + k) ≡ pixel_in_block (i + k) j = omega (arith, l) in
          ap (stored_at plane) pixel
          ∙ has (i + k) j (here ∙ sym block)
          ∙ tile_of self (i + k) j s (j / 64) xs n first refl size (start ∙ ap (λ m. m * planes_of_tile self.count) tile) c.requires.sample);
    }
