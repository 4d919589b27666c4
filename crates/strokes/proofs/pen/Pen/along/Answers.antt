use Rattle.std.proofs.Common.{◌≡◌, [], ◌∷◌, ◌+◌, ◌++◌, drop}
use Rattle.std.proofs.lemmas.List.{drop_all}
use Rattle.strokes.proofs.Walks.{dropped}
use Rattle.strokes.proofs.pen.Pen.along.Goals as goal

pub loop-next-preserved : goal.loop-next-preserved
loop-next-preserved c rest =
    let ps = c.args.points.now in
    let i = c.loop-next.next-index in
    let d : drop i ps ≡ c.next-item.result ∷ drop (i + 1) ps = dropped ps i c.next-item.result c.loop-next-test.true c.next-item.is in
    let before = rw d at (c.loop-next.invariant rest) in
    let step = c.to-pen.ensures (drop (i + 1) ps ++ rest) in
    (λ k. step.0 (before.0 k), λ k. before.1 (step.1 k))

pub returns : goal.returns
returns c rest =
    let d : drop c.loop-next.next-index c.args.points.now ≡ [] = drop_all c.loop-next.next-index c.args.points.now c.loop-next-test.false in
    rw d at (c.loop-next.invariant rest)
