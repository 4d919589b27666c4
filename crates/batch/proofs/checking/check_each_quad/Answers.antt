use Rattle.std.proofs.Common.{rules, ◌<◌, ◌≤◌, ◌/◌, [], length, arith}
use Rattle.std.specs.List.{All}
use Rattle.std.proofs.lemmas.List.{take_all}
use Rattle.std.proofs.lemmas.List.Elements.{All-more}
use Rattle.batch.specs.declared.fault.BatchCause.TheVariants.{NotConvex}
use Rattle.batch.specs.Causes.{at_element}
use Rattle.batch.specs.Checks.{IsQuadSeen}
use Rattle.batch.specs.Listed.{quads_of}
use Rattle.batch.proofs.Chunks.{count_of_chunks}
use Rattle.batch.proofs.Elements.{each_fails, each_passes}
use Rattle.batch.proofs.checking.check_each_quad.Goals as goal

pub quad-requires-clause-fits : goal.quad-requires-clause-fits
quad-requires-clause-fits g c = omega (arith, c.count-number-end.ensures, c.count-number-end.type_inv)

pub loop-number-preserved : goal.loop-number-preserved
loop-number-preserved g c =
    let origin = c.args.origin.now in
    let indices = g.I.Indices.listed c.args.indices.now in
    let quads = quads_of indices in
    let inside : c.loop-number.number < length quads = omega (arith, c.loop-number-test.true, c.count-number-end.ensures, count_of_chunks 4 (length indices / 4) indices) in
    let here : IsQuadSeen origin.x origin.y (g.V.Vertices.listed c.args.vertices.now) c.quad.result = c.is_quad_seen.ensures.0 (search rules) in
    All-more (IsQuadSeen origin.x origin.y (g.V.Vertices.listed c.args.vertices.now)) quads c.loop-number.number [] inside c.loop-number.invariant (rw c.quad.ensures at here)

pub returns-then-not-is_quad_seen : goal.returns-then-not-is_quad_seen
returns-then-not-is_quad_seen g c =
    let origin = c.args.origin.now in
    let indices = g.I.Indices.listed c.args.indices.now in
    let quads = quads_of indices in
    let inside : c.loop-number.number < length quads = omega (arith, c.loop-number-test.true, c.count-number-end.ensures, count_of_chunks 4 (length indices / 4) indices) in
    let here : ¬ IsQuadSeen origin.x origin.y (g.V.Vertices.listed c.args.vertices.now) c.quad.result = search rules in
    rw c.at_element.ensures (each_fails (IsQuadSeen origin.x origin.y (g.V.Vertices.listed c.args.vertices.now)) (λ number quad. at_element NotConvex number) quads c.loop-number.number [] inside c.loop-number.invariant (rw c.quad.ensures at here))

pub returns : goal.returns
returns g c =
    let origin = c.args.origin.now in
    let indices = g.I.Indices.listed c.args.indices.now in
    let quads = quads_of indices in
    let past : length quads ≤ c.loop-number.number = omega (arith, c.loop-number-test.false, c.count-number-end.ensures, count_of_chunks 4 (length indices / 4) indices) in
    let all : All (IsQuadSeen origin.x origin.y (g.V.Vertices.listed c.args.vertices.now)) quads = rw (take_all c.loop-number.number quads past) at c.loop-number.invariant in
    (each_passes (IsQuadSeen origin.x origin.y (g.V.Vertices.listed c.args.vertices.now)) (λ number quad. at_element NotConvex number) 0 quads all, tt)
