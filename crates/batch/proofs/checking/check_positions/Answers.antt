use Rattle.std.proofs.Common.{rules, ◌<◌, ◌≤◌, length, arith}
use Rattle.std.proofs.lemmas.List.{take_all}
use Rattle.std.proofs.lemmas.List.Elements.{All-more}
use Rattle.batch.specs.declared.fault.BatchCause.TheVariants.{BadPosition}
use Rattle.batch.specs.Causes.{at_element}
use Rattle.batch.specs.Seen.{vertex_at, CanBeSeen, AreSeen}
use Rattle.batch.proofs.Elements.{each_fails, each_passes}
use Rattle.batch.proofs.checking.check_positions.Goals as goal

pub loop-place-preserved : goal.loop-place-preserved
loop-place-preserved g c =
    let indices = g.I.Indices.listed c.args.indices.now in
    let origin = c.args.origin.now in
    let inside : c.loop-place.place < length indices = omega (arith, c.loop-place-test.true, c.count-place-end.ensures) in
    let here : CanBeSeen origin.x origin.y (vertex_at (g.V.Vertices.listed c.args.vertices.now) c.at-vertex.result) = c.is_seen.ensures.0 (search rules) in
    All-more (λ k. CanBeSeen origin.x origin.y (vertex_at (g.V.Vertices.listed c.args.vertices.now) k)) indices c.loop-place.place 0 inside c.loop-place.invariant (rw c.at-vertex.ensures at here)

pub returns-then-not-is_seen : goal.returns-then-not-is_seen
returns-then-not-is_seen g c =
    let indices = g.I.Indices.listed c.args.indices.now in
    let origin = c.args.origin.now in
    let inside : c.loop-place.place < length indices = omega (arith, c.loop-place-test.true, c.count-place-end.ensures) in
    let here : ¬ CanBeSeen origin.x origin.y (vertex_at (g.V.Vertices.listed c.args.vertices.now) c.at-vertex.result) = search rules in
    rw (c.at_element.ensures, c.at-vertex.ensures)
    (each_fails (λ k. CanBeSeen origin.x origin.y (vertex_at (g.V.Vertices.listed c.args.vertices.now) k)) (λ number k. at_element BadPosition k) indices c.loop-place.place 0 inside c.loop-place.invariant (rw c.at-vertex.ensures at here))

pub returns : goal.returns
returns g c =
    let indices = g.I.Indices.listed c.args.indices.now in
    let origin = c.args.origin.now in
    let past : length indices ≤ c.loop-place.place = omega (arith, c.loop-place-test.false, c.count-place-end.ensures) in
    let all : AreSeen origin.x origin.y (g.V.Vertices.listed c.args.vertices.now) indices = rw (take_all c.loop-place.place indices past) at c.loop-place.invariant in
    (each_passes (λ k. CanBeSeen origin.x origin.y (vertex_at (g.V.Vertices.listed c.args.vertices.now) k)) (λ number k. at_element BadPosition k) 0 indices all, tt)
