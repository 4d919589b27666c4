use Rattle.std.proofs.Common.{arith}
use Rattle.std.proofs.lemmas.Int.{ints}
use Rattle.fills.proofs.row.strip_at.Goals as goal

pub invariant_of-result : goal.invariant_of-result
invariant_of-result c =
    let o = c.requires.origin in
    record {
      across = record { low = omega (arith, ints, o.left, o.right, c.requires.column); high = omega (arith, ints, o.left, o.right, c.requires.column) };
      below = record { low = omega (arith, ints, o.top, o.bottom, c.requires.row); high = omega (arith, ints, o.top, o.bottom, c.requires.row) };
    }
