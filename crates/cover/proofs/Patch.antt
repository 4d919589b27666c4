-- The masks of a block of which four rows of four pixels alone are covered, by the masks of these.
use Rattle.std.proofs.Common.{◌≡◌, ◌↔◌, refl, ◌∙◌, arith, zero, suc, [], ◌∷◌, ℕ, ◌+◌, ◌-◌, ◌*◌, ◌<◌, ◌≤◌, ℤ, List, IsBitSet, slice_index, ap}
use Rattle.grid.specs.Samples.{count_of, IsPart, offsets_x, offsets_y, box_start}
use Rattle.grid.specs.declared.pixels.TileSide.{TileSide}
use Rattle.grid.specs.declared.sample_count.SampleCount.{SampleCount}
use Rattle.grid.specs.declared.triangle.Tri.{Tri}
use Rattle.cover.specs.declared.edge.Edge.{Edge}
use Rattle.cover.specs.declared.edges.Edges.{Edges}
use Rattle.cover.specs.declared.edges.Values.{Values}
use Rattle.cover.specs.declared.masks.Masks.{Masks}
use Rattle.cover.specs.Block.{IsInPatch}
use Rattle.cover.specs.Edge.{grown}
use Rattle.cover.specs.Edges.{AreGrown, IsInsideAfter}
use Rattle.cover.specs.Inside.{IsSquareOf}
use Rattle.cover.specs.Masks.{AreMasksWhere, AreMasksOfPart, to_column, to_row}
use Rattle.cover.specs.Square.{CoversInPatch}
use Rattle.cover.proofs.Corners.{sample_test}
use Rattle.cover.proofs.Joined.{place_x, place_y, further_on, part_at_most}

-- four words and what is made of each
pub four_words_made : (Q : ℕ → ℕ → Type 0) (xs : List ℕ) (a b c d : ℕ) → Q (slice_index xs 0) a → Q (slice_index xs 1) b → Q (slice_index xs 2) c → Q (slice_index xs 3) d
    → (s : ℕ) → s < 4 → Q (slice_index xs s) (slice_index (a ∷ b ∷ c ∷ d ∷ []) s)
four_words_made Q xs a b c d p q r t zero lt = p
four_words_made Q xs a b c d p q r t (suc zero) lt = q
four_words_made Q xs a b c d p q r t (suc (suc zero)) lt = r
four_words_made Q xs a b c d p q r t (suc (suc (suc zero))) lt = t
four_words_made Q xs a b c d p q r t (suc (suc (suc (suc s)))) lt = absurd (omega (arith, lt))

pub no_fifth_word : (a b c d s : ℕ) → 4 ≤ s → slice_index (a ∷ b ∷ c ∷ d ∷ []) s ≡ 0
no_fifth_word a b c d zero h = absurd (omega (arith, h))
no_fifth_word a b c d (suc zero) h = absurd (omega (arith, h))
no_fifth_word a b c d (suc (suc zero)) h = absurd (omega (arith, h))
no_fifth_word a b c d (suc (suc (suc zero))) h = absurd (omega (arith, h))
no_fifth_word a b c d (suc (suc (suc (suc s)))) h = refl

-- a function further on from the first pixel of a patch
moved : (e : Edge) (at v : ℤ) (m n right down m' n' : ℕ) → v ≡ grown e at right down → m + right ≡ m' → n + down ≡ n' → grown e v m n ≡ grown e at m' n'
moved e at v m n right down m' n' is across along =
    ap (λ z. grown e z m n) is ∙ further_on e at right down m n ∙ (λ i. grown e at (across i) (along i))

inside_patch : (e : Edges) (at v : Values) (m n right down m' n' : ℕ) → AreGrown e at right down v → m + right ≡ m' → n + down ≡ n' → IsInsideAfter e v m n ↔ IsInsideAfter e at m' n'
inside_patch e at v m n right down m' n' g across along =
    let ab = moved e.ab at.ab v.ab m n right down m' n' g.ab across along in
    let bc = moved e.bc at.bc v.bc m n right down m' n' g.bc across along in
    let ca = moved e.ca at.ca v.ca m n right down m' n' g.ca across along in (
      λ k. record { ab = rw (← ab) k.ab; bc = rw (← bc) k.bc; ca = rw (← ca) k.ca },
      λ k. record { ab = rw ab k.ab; bc = rw bc k.bc; ca = rw ca k.ca },
    )

from_first : (offset first place : ℕ) → first ≤ place → 256 * (place - first) + offset + 256 * first ≡ 256 * place + offset
from_first offset first place h = omega (arith, h)

pub masks_of_patch : (t : Tri) (e : Edges) (at v : Values) (bx by : ℕ) (side : TileSide) (count : SampleCount) (from left top : ℕ) (m n : Masks) → IsPart count from → IsSquareOf t e at bx by side count
    → CoversInPatch (record { triangle = t; bx = bx; by = by; side = side; count = count }) left top → AreGrown e at (256 * left) (256 * top) v
    → AreMasksWhere 4 (λ s row column. IsInsideAfter e v (to_column count s column) (to_row count s row)) count from m
    → ((s row column : ℕ) → s < 4 → row < 8 → column < 8
    → (IsBitSet (slice_index n.plane s) (8 * row + column) ↔ (IsInPatch left top row column × IsBitSet (slice_index m.plane s) (4 * (row - top) + (column - left)))))
    → ((s : ℕ) → slice_index m.plane s ≡ 0 → slice_index n.plane s ≡ 0)
    → AreMasksOfPart t bx by count from n
masks_of_patch t e at v bx by side count from left top m n part h patch g k is empty = record {
  covered = λ s lt row column below within.
      let sample = from + s in
      let real : sample < count_of count = omega (arith, lt, part) in
      let bit = is s row column (omega (arith, lt, part_at_most count)) below within in
      let in_patch : IsInPatch left top row column → IsBitSet (slice_index m.plane s) (4 * (row - top) + (column - left)) ↔ IsInsideAfter e v (to_column count sample (column - left)) (to_row count sample (row - top)) =
      λ p. k.exact s (row - top) (column - left) lt (omega (arith, p.from_row, p.to_row)) (omega (arith, p.from_column, p.to_column)) in
      let inside : IsInPatch left top row column → IsInsideAfter e v (to_column count sample (column - left)) (to_row count sample (row - top)) ↔ IsInsideAfter e at (to_column count sample column) (to_row count sample row) =
      λ p. inside_patch e at v _ _ (256 * left) (256 * top) _ _ g (from_first (slice_index (offsets_x count) sample - box_start count) left column p.from_column) (from_first (slice_index (offsets_y count) sample - box_start count) top row p.from_row) in
      let test = sample_test t e at bx by side count h sample row column (to_column count sample column) (to_row count sample row) (place_x count sample bx column real) (place_y count sample by row real) in (
        λ set. (let here = bit.0 set in test.0 ((inside here.0).0 ((in_patch here.0).0 here.1))),
        λ covered. (let p = patch.held sample row column real below within covered in bit.1 (p, (in_patch p).1 ((inside p).1 (test.1 covered)))),
      );
  empty = λ s le. empty s (k.empty s le);
}
