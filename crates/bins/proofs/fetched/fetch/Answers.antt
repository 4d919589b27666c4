use Rattle.std.proofs.Common.{◌<◌, ◌∙◌, length, arith}
use Rattle.std.proofs.lemmas.List.{length-set}
use Rattle.bins.proofs.Fetching.{fetched_more}
use Rattle.bins.proofs.fetched.fetch.Goals as goal

pub loop-place-preserved : goal.loop-place-preserved
loop-place-preserved c =
    let triangles = c.loop-place.triangles in
    let place = c.loop-place.place in
    let inside : place < length triangles = omega (arith, c.loop-place.invariant.1) in (
      fetched_more c.args.list.now c.args.numbers.now c.args.first place triangles c.triangle.result c.loop-place.invariant.0 inside c.triangle.ensures,
      length-set triangles place c.triangle.result ∙ c.loop-place.invariant.1,
    )
