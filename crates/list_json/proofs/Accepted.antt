-- What denotes a draw list is within the limits of a draw list.
use Rattle.std.proofs.Common.{◌≡◌, ℕ, ◌<◌, List, [], ◌∷◌, length, slice_index, Option, arith}
use Rattle.std.proofs.lemmas.Int.{ints}
use Rattle.std.specs.List.{All}
use Rattle.std.proofs.lemmas.List.Elements.{All-nil, All-cons}
use Rattle.serde_json.specs.Data.{Data, Items, no_items, item}
use Rattle.grid.specs.declared.pixels.PixelBox.{PixelBox}
use Rattle.draw_list.specs.Primitives.{PrimitiveListing, triangle_list, triangle_strip, quad_list, IsQuadOver, AreOver}
use Rattle.draw_list.specs.declared.draw.Vertex.{Vertex}
use Rattle.draw_list.specs.Listing.{DrawListing, Listing, IsDrawWithinLimits, IsListingWithinLimits}
use Rattle.list_json.specs.Denotes.{Each, IsTriangle, IsStripIndex, IsQuad, IsPrimitives, IsDraw, IsListing}

each_all : {X : Type 0} (Is : Data → X → Type 0) (P : X → Type 0) → ((d : Data) (x : X) → Is d x → P x) → (ds : Items) (xs : List X) → Each Is ds xs → All P xs
each_all Is P each no_items [] h = All-nil P
each_all Is P each no_items (x ∷ xs) h = absurd h
each_all Is P each (item d ds) [] h = absurd h
each_all Is P each (item d ds) (x ∷ xs) h = All-cons P x xs (each d x h.0) (each_all Is P each ds xs h.1)

three : (P : ℕ → Type 0) (xs : List ℕ) → length xs ≡ 3 → P (slice_index xs 0) → P (slice_index xs 1) → P (slice_index xs 2) → All P xs
three P [] e p q r = absurd (omega arith)
three P (a ∷ []) e p q r = absurd (omega arith)
three P (a ∷ b ∷ []) e p q r = absurd (omega arith)
three P (a ∷ b ∷ c ∷ []) e p q r = All-cons P a (b ∷ c ∷ []) p (All-cons P b (c ∷ []) q (All-cons P c [] r (All-nil P)))
three P (a ∷ b ∷ c ∷ d ∷ xs) e p q r = absurd (omega arith)

triangle_within : (n : ℕ) (d : Data) (t : List ℕ) → IsTriangle n d t → All (λ k. k < n) t
triangle_within n d t is = three (λ k. k < n) t is.indices is.first.1 is.second.1 is.third.1

four : (P : ℕ → Type 0) (xs : List ℕ) → length xs ≡ 4 → P (slice_index xs 0) → P (slice_index xs 1) → P (slice_index xs 2) → P (slice_index xs 3) → All P xs
four P [] e p q r s = absurd (omega arith)
four P (a ∷ xs) e p q r s = All-cons P a xs p (three P xs (omega arith) q r s)

quad_over : (vs : List Vertex) (d : Data) (quad : List ℕ) → IsQuad vs d quad → IsQuadOver vs quad
quad_over vs d quad is = record {
  indices = four (λ k. k < length vs) quad is.indices is.first.1 is.second.1 is.third.1 is.fourth.1;
  convex = is.convex;
}

primitives_over : (vs : List Vertex) (t s q : Option Data) (p : PrimitiveListing) → IsPrimitives vs t s q p → AreOver vs p
primitives_over vs t s q (triangle_list found) is =
    each_all (IsTriangle (length vs)) (λ triangle. All (λ k. k < length vs) triangle) (triangle_within (length vs)) _ found is.0.parts
primitives_over vs t s q (triangle_strip found) is = each_all (IsStripIndex (length vs)) (λ k. k < length vs) (λ d k at. at.1) _ found is.0.parts
primitives_over vs t s q (quad_list found) is = each_all (IsQuad vs) (IsQuadOver vs) (quad_over vs) _ found is.0.parts

draw_within : (picture : PixelBox) (d : Data) (draw : DrawListing) → IsDraw picture d draw → IsDrawWithinLimits draw
draw_within picture d draw is = record {
  vertices = is.vertices.at_most;
  primitives = primitives_over draw.vertices _ _ _ draw.primitives is.primitives;
}

pub listing_within : (d : Data) (l : Listing) → IsListing d l → IsListingWithinLimits l
listing_within d l is = record {
  wide = omega (arith, ints, is.width.1);
  width = omega (arith, ints, is.width.2);
  high = omega (arith, ints, is.height.1);
  height = omega (arith, ints, is.height.2);
  draws = record {
    number = is.draws.at_most;
    each = each_all _ IsDrawWithinLimits (draw_within _) _ l.draws is.draws.parts;
    triangles = is.triangles;
  };
}
