-- The checks of a batch allocate nothing.
use Rattle.std.specs.Prelude.{ℕ, ℤ, ◌+◌, Option, List, [], ◌∷◌, take, drop}
use Rattle.checks.specs.Checking.{reported_as}
use Rattle.checks.proofs.Checking.{Allocates, allocates_both, allocates_as}
use Rattle.batch.specs.declared.draw.BatchDraw.{BatchDraw}
use Rattle.batch.specs.declared.vertex.BatchVertex.{BatchVertex}
use Rattle.batch.specs.declared.fault.BatchFault.{BatchFault}
use Rattle.batch.specs.Causes.{in_draw}
use Rattle.batch.specs.Ids.{ids_after}
use Rattle.batch.specs.Listed.{draws_of}
use Rattle.batch.specs.OwnIndices.{indices_behind, own_indices}
use Rattle.batch.proofs.Elements.{elements_allocate}
use Rattle.batch.specs.Checks.{triangles_listed, draw_checks, draws_checks, batch_checks}

draws_allocate : (x y : ℤ) (number : ℕ) (ids : Option ℕ) (ds : List BatchDraw) (vs : List BatchVertex) (is : Option (List ℕ)) → Allocates (λ (fault : BatchFault). ⊥) (draws_checks x y number ids ds vs is)
draws_allocate x y number ids [] vs is = record {}
draws_allocate x y number ids (d ∷ ds) vs is =
    let later = draws_checks x y (number + 1) (ids_after ids (triangles_listed d is)) ds (drop d.vertices vs) (indices_behind d.indices is) in
    allocates_both (λ (fault : BatchFault). ⊥) (reported_as (in_draw number) (draw_checks x y ids d vs is)) later
    (allocates_as (in_draw number) (λ (fault : BatchFault). ⊥) (draw_checks x y ids d vs is) (elements_allocate x y (take d.vertices vs) d.topology (own_indices d is))) (draws_allocate x y (number + 1) _ ds _ _)

pub none_allocate : (x y : ℤ) (ids : Option ℕ) (ds : List BatchDraw) (vs : List BatchVertex) (is : Option (List ℕ)) → Allocates (λ (fault : BatchFault). ⊥) (batch_checks x y ids ds vs is)
none_allocate x y ids ds vs is = draws_allocate x y 0 ids (draws_of ds vs is) vs is
