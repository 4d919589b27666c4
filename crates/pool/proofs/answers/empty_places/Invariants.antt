use Rattle.std.proofs.Common.{◌≡◌, ◌≤◌, vec_len, vec_capacity, All, None}
use Rattle.pool.proofs.answers.empty_places.Given as goal

abbrev pub invariant-loop : goal.invariant-loop
invariant-loop g l = (vec_len l.places ≡ l.counter) × (l.n ≤ vec_capacity l.places) × All (λ place. place ≡ None) l.places.items
