use Rattle.std.proofs.Common.{arith}
use Rattle.std.proofs.lemmas.Int.{ints}
use Rattle.polygons.proofs.short.is_short.Goals as goal

pub returns-then-is_nearer : goal.returns-then-is_nearer
returns-then-is_nearer c =
    let ax = c.x.ensures in let bx = c.x-2.ensures in let ay = c.y.ensures in let by = c.y-then-is_nearer.ensures in
    let ax' = ax.in_band in let bx' = bx.in_band in let ay' = ay.in_band in let by' = by.in_band in (
      λ t.
          let x = c.is_nearer.ensures.0 c.if-is_nearer.true in
          let y = c.is_near.ensures.0 t in
          let x0 = x.0 in let x1 = x.1 in let y0 = y.0 in let y1 = y.1 in
          record {
            down = omega (arith, ints, ay.value, by.value);
            up = omega (arith, ints, ay.value, by.value);
            right = omega (arith, ints, ax.value, bx.value);
            left = omega (arith, ints, ax.value, bx.value);
          },
      λ short.
          let down = short.down in let up = short.up in
          c.is_near.ensures.1 (omega (arith, ints, ay.value, by.value), omega (arith, ints, ay.value, by.value)),
    )
