use Rattle.std.proofs.Common.{◌≡◌, ◌+◌, ◌≤◌, ◌++◌, map, Some, All, IsTrue, is_some, vec_len, vec_capacity}
use Rattle.std.specs.Vec.Iter.{into_iter_items, into_iter_len}
use Rattle.pool.proofs.answers.answers_of.Given as goal

abbrev pub invariant-loop-place : goal.invariant-loop-place
invariant-loop-place g l =
    (map (λ answer. Some answer) l.answers.items ++ into_iter_items l.place-iterator ≡ into_iter_items l.initial.place-iterator)
    × All (λ place. IsTrue (is_some place)) (into_iter_items l.place-iterator)
    × (vec_len l.answers + into_iter_len l.place-iterator ≤ vec_capacity l.answers)
