use Rattle.std.proofs.Common.{◌≡◌, arith, w32, to_z, of_z}
use Rattle.std.proofs.lemmas.Int.{ints}
use Rattle.strokes.proofs.span.Span.cut_both.Goals as goal

pub returns : goal.returns
returns c k =
    let px : to_z w32 (of_z w32 c.args.x) ≡ c.args.x = omega (arith, ints, c.requires.x.low, c.requires.x.high) in
    let py : to_z w32 (of_z w32 c.args.y) ≡ c.args.y = omega (arith, ints, c.requires.y.low, c.requires.y.high) in
    let first = rw (px, py) at (c.cut.ensures k) in
    let second = rw (px, py) at (c.cut-2.ensures k) in (
      λ h. let q = second.0 h in let r = first.0 (q.0) in (r.0, record { first = r.1; second = q.1 }),
      λ h. let sides = h.1 in second.1 (first.1 (h.0, sides.first), sides.second),
    )
