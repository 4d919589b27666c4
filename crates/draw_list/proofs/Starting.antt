-- The draw in which a triangle of a draw list stands.
use Rattle.std.proofs.Common.{◌≡◌, ◌⊎◌, inl, inr, refl, sym, ap, ◌∙◌, ℕ, ◌+◌, ◌-◌, ◌<◌, ◌≤◌, List, [], ◌∷◌, length, map, take, get_or, slice_get, slice_index, Some, arith}
use Rattle.std.specs.List.{flat_map, sum, sum_by}
use Rattle.std.specs.List.Sorted.{IsNonDecreasing}
use Rattle.std.proofs.lemmas.Bool.{cases_lt}
use Rattle.std.proofs.lemmas.Grind.{get_or_default_zero}
use Rattle.std.proofs.lemmas.List.{take_all, take-map, length-map, get_or-map, get_or_default}
use Rattle.std.proofs.lemmas.List.Sorted.{IsNonDecreasingBy-from_all_adjacent}
use Rattle.std.proofs.lemmas.List.Sums.{sum_by_more, sum-map}
use Rattle.draw_list.specs.declared.draw.Draw.{Draw}
use Rattle.draw_list.specs.declared.place.TrianglePlace.{TrianglePlace}
use Rattle.draw_list.specs.Primitives.{count_of_triangles}
use Rattle.draw_list.specs.Scene.{Scene}
use Rattle.draw_list.specs.Starts.{AreStarts}
use Rattle.draw_list.specs.Place.{IsPlace}
use Rattle.draw_list.specs.Listing.{draw_listing, placed, placed_all}
use Rattle.draw_list.proofs.Numbering.{count_of, indices_of_draw, triangle_at}

-- some draw, where there is one
first_draw : (ds : List Draw) (k : ℕ) → k < length ds → Draw
first_draw [] k h = absurd (omega arith)
first_draw (d ∷ ds) k h = d

-- The triangle of a number stands in a draw that starts at another number.
pub record StandsIn (ds : List Draw) (number start : ℕ) (d : Draw) : Type 0 where
  pub within : number - start < count_of d
  pub found : slice_get (flat_map placed_all (map draw_listing ds)) number ≡ Some (placed (draw_listing d) (get_or (indices_of_draw d) (number - start) []))

counts : (ds : List Draw) → map (λ d. count_of_triangles d.primitives) (map draw_listing ds) ≡ map count_of ds
counts [] = refl
counts (d ∷ ds) = ap (λ ns. count_of d ∷ ns) (counts ds)

taken : (ds : List Draw) (k : ℕ) → sum (take k (map count_of ds)) ≡ sum_by count_of (take k ds)
taken ds k = ap sum (take-map count_of k ds) ∙ sum-map count_of (take k ds)

module _ (ds : List Draw) (starts : List ℕ) (h : AreStarts ds starts) where
  next_start : (k : ℕ) (d : Draw) → k + 1 < length ds → slice_index starts (k + 1) ≡ slice_index starts k + count_of (get_or ds k d)
  next_start k d below =
      h.each (k + 1) below ∙ sum_by_more count_of ds k d (omega arith) ∙ ap (λ n. n + count_of (get_or ds k d)) (sym (h.each k (omega arith)))

  pub ascending : IsNonDecreasing starts
  ascending = IsNonDecreasingBy-from_all_adjacent (λ n. n) starts (λ k e below.
      let size = h.size in
      let more = next_start k (first_draw ds k (omega arith)) (omega arith) in
      let here = get_or_default_zero starts k e (omega arith) in
      let there = get_or_default_zero starts (k + 1) e below in
      omega arith)

  module _ (number i : ℕ) (d : Draw) (low : slice_index starts i ≤ number) (last : (k : ℕ) → i < k → k < length starts → number < slice_index starts k) (below : i < length ds) (within : number < sum_by count_of ds) where
    end_of : ((i + 1) < length ds) ⊎ (length ds ≤ (i + 1)) → number < slice_index starts i + count_of (get_or ds i d)
    end_of (inl more) =
        let size = h.size in
        let next = last (i + 1) (omega arith) (omega arith) in
        omega (arith, next_start i d more)
    end_of (inr past) =
        let all : sum_by count_of (take (i + 1) ds) ≡ sum_by count_of ds = ap (sum_by count_of) (take_all (i + 1) ds past) in
        omega (arith, sum_by_more count_of ds i d below, h.each i below)

    -- it stands in the last draw that starts at its number or before
    pub stands : (start : ℕ) → d ≡ get_or ds i d → start ≡ get_or starts i start → StandsIn ds number start d
    stands start is starts_at =
        let size = h.size in
        let same : start ≡ slice_index starts i = starts_at ∙ get_or_default_zero starts i start (omega arith) in
        let many : count_of (get_or ds i d) ≡ count_of d = sym (ap count_of is) in
        let end = end_of (cases_lt (i + 1) (length ds)) in
        let left : number - start < count_of d = omega arith in
        record { within = left; found = triangle_at ds i (number - start) number d below is left (omega (arith, h.each i below)) }

    -- its draw, and its number there
    pub place_of : (l : Scene) (start : ℕ) → l.draws ≡ map (λ e. count_of_triangles e.primitives) (map draw_listing ds) → d ≡ get_or ds i d → start ≡ get_or starts i start
        → IsPlace l number (record { draw = i; triangle = number - start })
    place_of l start listed is starts_at =
        let size = h.size in
        let all : l.draws ≡ map count_of ds = listed ∙ counts ds in
        let there : i < length (map count_of ds) = rw length-map below in
        let many : slice_index (map count_of ds) i ≡ count_of d = sym (get_or_default_zero _ i (count_of d) there) ∙ get_or-map count_of ds i d (count_of d) below ∙ sym (ap count_of is) in
        let same : start ≡ slice_index starts i = starts_at ∙ get_or_default_zero starts i start (omega arith) in
        record {
          draw = rw all there;
          within = rw (all, many) ((stands start is starts_at).within);
          behind = rw all (omega (arith, h.each i below, taken ds i));
        }

pub place_at : (ds : List Draw) (starts : List ℕ) → AreStarts ds starts → (number i : ℕ) → slice_index starts i ≤ number → ((k : ℕ) → i < k → k < length starts → number < slice_index starts k) → i < length ds → number < sum_by count_of ds
    → (l : Scene) (start : ℕ) → l.draws ≡ map (λ e. count_of_triangles e.primitives) (map draw_listing ds) → start ≡ get_or starts i start → IsPlace l number (record { draw = i; triangle = number - start })
place_at ds starts h number i low last below within l start listed starts_at =
    let first = first_draw ds i below in
    place_of ds starts h number i (get_or ds i first) low last below within l start listed (get_or_default ds i first (get_or ds i first) below) starts_at
