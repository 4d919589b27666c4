use Rattle.std.proofs.Common.{◌≡◌, ℕ, ◌*◌, ◌<◌, length, arith, rules}
use Rattle.std.proofs.Math.Nat.{zero-mul, mul_comm}
use Rattle.draw_list.specs.Scene.{Scene}
use Rattle.tiling.specs.Grid.{TileGrid, columns_of, rows_of, tiles_of}
use Rattle.bins.specs.Bin.{TileBins, HasBin, AreBins}
use Rattle.refused_tiles.proofs.drawn_tiles.Goals as goal

has_each_tile : (l : Scene) (g : TileGrid) (rows k : ℕ) (b : TileBins) → AreBins l g 0 rows b → rows ≡ rows_of g → k < tiles_of g → HasBin b k
has_each_tile l g rows k b are all h =
    let first : b.first ≡ 0 = omega (arith, are.first, zero-mul (columns_of g)) in
    let number : length b.bins ≡ rows_of g * columns_of g = rw all at are.number in
    record { from = omega arith; below = omega (arith, h, number, mul_comm (rows_of g) (columns_of g)) }

pub render-requires-clause-has_tile : goal.render-requires-clause-has_tile
render-requires-clause-has_tile c =
    has_each_tile c.args.list.now _ _ c.loop-k.k _ c.in_ok-bins.ensures (search rules) (search rules)

pub render-requires-clause-bin : goal.render-requires-clause-bin
render-requires-clause-bin c =
    c.in_ok-bins.ensures.each c.loop-k.k (has_each_tile c.args.list.now _ _ c.loop-k.k _ c.in_ok-bins.ensures (search rules) (search rules))
