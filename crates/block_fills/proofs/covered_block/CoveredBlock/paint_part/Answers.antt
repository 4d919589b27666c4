use Rattle.std.proofs.Common.{◌≡◌, ◌+◌, ◌-◌, ◌≤◌, ℕ, ap, length, arith}
use Rattle.grid.specs.Samples.{count_of}
use Rattle.block_fills.proofs.Tiles.{still_own, tile_painted}
use Rattle.block_fills.proofs.covered_block.CoveredBlock.paint_part.Goals as goal

pub draw_fragment-requires-clause-whole : goal.draw_fragment-requires-clause-whole
draw_fragment-requires-clause-whole c is = let allows = c.args.self.now.allows is in allows.in_scissor

pub returns-clause-own : goal.returns-clause-own
returns-clause-own c =
    let tile = c.args.self.now.tile.now in
    let old = c.args.samples.now in
    let own : ℕ = 1 + c.count.result in
    let at : own ≡ 1 + count_of tile.count = ap (λ n. 1 + n) c.count.ensures in
    let fits : own ≤ length old = omega (arith, at, c.requires.samples) in
    let n : ℕ = length old - own in
    still_own c.args.self.now.fragment.now tile c.args.self.now.side c.args.self.now.bx c.args.self.now.by c.args.from c.args.masks.now old c.draw_fragment.new.samples n own (omega (arith, fits, c.requires.samples)) at
    (omega (arith, fits)) (omega (arith, c.draw_fragment.auto.samples, fits)) c.requires.own c.draw_fragment.ensures

pub returns-clause-painted : goal.returns-clause-painted
returns-clause-painted c =
    let tile = c.args.self.now.tile.now in
    let old = c.args.samples.now in
    let own : ℕ = 1 + c.count.result in
    let at : own ≡ 1 + count_of tile.count = ap (λ n. 1 + n) c.count.ensures in
    let fits : own ≤ length old = omega (arith, at, c.requires.samples) in
    let n : ℕ = length old - own in
    tile_painted c.args.self.now.fragment.now tile c.args.self.now.side c.args.self.now.bx c.args.self.now.by c.args.from c.args.masks.now old c.draw_fragment.new.samples n own (omega (arith, fits, c.requires.samples)) at
    (omega (arith, fits)) (omega (arith, c.draw_fragment.auto.samples, fits)) c.requires.own c.draw_fragment.ensures
