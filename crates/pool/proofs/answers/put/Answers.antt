use Rattle.std.proofs.Common.{arith, vec_len}
use Rattle.std.specs.Vec.Iter.{into_iter_items}
use Rattle.pool.proofs.Placing.{Putting-next}
use Rattle.pool.proofs.answers.put.Goals as goal

pub loop-number-preserved-in-Some : goal.loop-number-preserved-in-Some
loop-number-preserved-in-Some g c =
    let at = c.loop-number in
    let steps = c.in-Some.ensures.steps in (
      at.invariant.0,
      Putting-next (g.J.Job.right c.args._job.now) (vec_len c.args.places.now) c.args.places.now.items c.args.pairs.items at.places.items (into_iter_items at.number-iterator) (into_iter_items c.next.new.self) c.in-Some.number c.in-Some.answer steps.0
          (omega (arith, at.places.ok, at.invariant.0)) at.invariant.1,
    )

pub loop-number-preserved : goal.loop-number-preserved
loop-number-preserved g c =
    let at = c.loop-number in
    let steps = c.in-Some.ensures.steps in (
      at.invariant.0,
      Putting-next (g.J.Job.right c.args._job.now) (vec_len c.args.places.now) c.args.places.now.items c.args.pairs.items at.places.items (into_iter_items at.number-iterator) (into_iter_items c.next.new.self) c.in-Some.number c.in-Some.answer steps.0
          (omega (arith, at.places.ok, at.invariant.0)) at.invariant.1,
    )
