use Rattle.std.proofs.Common.{◌≡◌, vec_len}
use Rattle.std.specs.Vec.Iter.{into_iter_items}
use Rattle.pool.proofs.Placing.{Putting}
use Rattle.pool.proofs.answers.put.Given as goal

-- the pairs that are left are still to be put
abbrev pub invariant-loop-number : goal.invariant-loop-number
invariant-loop-number g l =
    (vec_len l.places ≡ vec_len l.initial.places)
    × Putting (g.J.Job.right l._job) (vec_len l.initial.places) l.initial.places.items l.fn.pairs.items l.places.items (into_iter_items l.number-iterator)
