use Rattle.std.proofs.Common.{rules, arith}
use Rattle.std.proofs.lemmas.Int.{ints}
use Rattle.polygons.proofs.extent.Extent.is_in_band.Goals as goal

pub returns-then-is_some : goal.returns-then-is_some
returns-then-is_some c within p h =
    let first = c.new.ensures.some.0 (search rules) in
    let last = c.new-then-is_some.ensures.some.0 (search rules) in
    let formed = c.well_formed in
    record {
      x = record { low = let b = first.0.low in let l = h.left in omega (arith, ints); high = let b = last.0.high in let r = h.right in omega (arith, ints) };
      y = record { low = let b = first.1.low in let t = h.top in omega (arith, ints); high = let b = last.1.high in let u = h.bottom in omega (arith, ints) };
    }
