use Rattle.std.proofs.Common.{◌<◌, ◌≤◌, nat_abs, to_z, of_z, w32, arith}
use Rattle.std.proofs.lemmas.Int.{ints, clamps}
use Rattle.reach.proofs.TileColumns.{tile_from, tile_before}
use Rattle.reach.proofs.span.Span.with_pixels.Goals as goal

pub returns-clause-all : goal.returns-clause-all
returns-clause-all c = λ i on_screen from before.
    let low = nat_abs (to_z w32 (of_z w32 c.clamp.result)) in
    let high = nat_abs (to_z w32 (of_z w32 c.clamp-2.result)) in
    let least : low ≤ i = omega (arith, ints, clamps, from) in
    let most : i < high = omega (arith, ints, clamps, before, on_screen) in
    rw (c.div_ceil.ensures, c.pixels-pixels.ensures) (record { from = tile_from c.args.side i low least; below = tile_before c.args.side i high most })
