-- A check for each element, and the elements of a draw.
use Rattle.std.specs.Prelude.{⊤}
use Rattle.std.proofs.Common.{Result, Ok, Err, inl, inr, ap, subst, ℕ, ℤ, zero, suc, ◌+◌, ◌<◌, ◌≡◌, List, [], ◌∷◌, length, take, get_or, arith}
use Rattle.std.specs.List.{All}
use Rattle.std.proofs.lemmas.List.Elements.{All-nil, All-cons, All-head, All-tail}
use Rattle.checks.specs.Checking.{Checks, Pass, FirstIs, IsJudged, followed_by}
use Rattle.draw_list.specs.Primitives.{PrimitiveListing, triangle_list, triangle_strip, quad_list}
use Rattle.checks.proofs.Checking.{Allocates, allocates_both, pass_both, pass_each, fails_later}
use Rattle.batch.specs.declared.fault.DrawFault.{DrawFault}
use Rattle.batch.specs.declared.vertex.BatchVertex.{BatchVertex}
use Rattle.batch.specs.Listed.{primitives_listed}
use Rattle.batch.specs.Seen.{NameSeenVertices}
use Rattle.batch.specs.Checks.{each_check, index_checks, position_checks, quad_checks, element_checks}

module _ {X : Type 0} (Holds : X → Type 0) (fault : ℕ → X → DrawFault) where
  pub each_passes : (number : ℕ) (xs : List X) → All Holds xs → Pass (each_check Holds fault number xs)
  each_passes number [] all = record {}
  each_passes number (x ∷ xs) all = (All-head Holds x xs all, each_passes (number + 1) xs (All-tail Holds x xs all))

  pub each_passed : (number : ℕ) (xs : List X) → Pass (each_check Holds fault number xs) → All Holds xs
  each_passed number [] pass = All-nil Holds
  each_passed number (x ∷ xs) pass = All-cons Holds x xs pass.0 (each_passed (number + 1) xs pass.1)

  fails_from : (number : ℕ) (xs : List X) (i : ℕ) (d : X) → i < length xs → All Holds (take i xs) → ¬ Holds (get_or xs i d)
      → FirstIs (each_check Holds fault number xs) (fault (number + i) (get_or xs i d))
  fails_from number [] i d less before fails = absurd (omega (arith, less))
  fails_from number (x ∷ xs) zero d less before fails =
      let same : number ≡ number + 0 = omega arith in
      inl (fails, ap (λ n. fault n x) same)
  fails_from number (x ∷ xs) (suc i) d less before fails =
      let same : number + 1 + i ≡ number + suc i = omega arith in
      let later = fails_from (number + 1) xs i d (omega (arith, less)) (All-tail Holds x (take i xs) before) fails in
      inr (All-head Holds x (take i xs) before, subst (λ n. FirstIs (each_check Holds fault (number + 1) xs) (fault n (get_or xs i d))) same later)

  pub each_fails : (xs : List X) (i : ℕ) (d : X) → i < length xs → All Holds (take i xs) → ¬ Holds (get_or xs i d) → FirstIs (each_check Holds fault 0 xs) (fault i (get_or xs i d))
  each_fails xs i d less before fails =
      let same : 0 + i ≡ i = omega arith in
      subst (λ n. FirstIs (each_check Holds fault 0 xs) (fault n (get_or xs i d))) same (fails_from 0 xs i d less before fails)

  pub each_allocates : (number : ℕ) (xs : List X) → Allocates (λ (failed : DrawFault). ⊥) (each_check Holds fault number xs)
  each_allocates number [] = record {}
  each_allocates number (x ∷ xs) = each_allocates (number + 1) xs

-- ---- the elements of a draw
module _ (x y : ℤ) (vs : List BatchVertex) where
  pub names_seen : (topology : ℕ) (is : List ℕ) → Pass (element_checks x y vs topology is) → NameSeenVertices x y vs is
  names_seen topology is pass =
      let quads = quad_checks x y vs (primitives_listed topology is) in
      let named = pass_each (index_checks (length vs) is) (followed_by (position_checks x y vs is) quads) pass in
      let seen = pass_each (position_checks x y vs is) quads named.1 in
      record { named = each_passed _ _ 0 is named.0; seen = each_passed _ _ 0 is seen.0 }

  quads_allocate : (listing : PrimitiveListing) → Allocates (λ (failed : DrawFault). ⊥) (quad_checks x y vs listing)
  quads_allocate (triangle_list triangles) = record {}
  quads_allocate (triangle_strip indices) = record {}
  quads_allocate (quad_list quads) = each_allocates _ _ 0 quads

  pub elements_allocate : (topology : ℕ) (is : List ℕ) → Allocates (λ (failed : DrawFault). ⊥) (element_checks x y vs topology is)
  elements_allocate topology is =
      let quads = quad_checks x y vs (primitives_listed topology is) in
      allocates_both (λ (failed : DrawFault). ⊥) (index_checks (length vs) is) (followed_by (position_checks x y vs is) quads) (each_allocates _ _ 0 is)
      (allocates_both (λ (failed : DrawFault). ⊥) (position_checks x y vs is) quads (each_allocates _ _ 0 is) (quads_allocate (primitives_listed topology is)))

-- ---- what the later checks say is what all of them say, if the first ones pass
pub judged_later : (first later : Checks DrawFault) (r : Result ⊤ DrawFault) → Pass first → IsJudged later (λ done. ⊤) r → IsJudged (followed_by first later) (λ done. ⊤) r
judged_later first later (Ok x) pass judged = (pass_both first later pass judged.0, tt)
judged_later first later (Err e) pass judged = fails_later first later e pass judged
