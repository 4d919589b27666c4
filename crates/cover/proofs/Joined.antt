-- The samples of a block in the box round them, and masks of them.
use Rattle.std.proofs.Common.{◌≡◌, ◌↔◌, inl, inr, refl, sym, ap, ap₂, ◌∙◌, subst, [], ◌∷◌, arith, ℕ, zero, suc, ◌+◌, ◌-◌, ◌*◌, ◌^◌, ◌<◌, ◌≤◌, bit_and, IsBitSet, ℤ, pos, ◌+ℤ◌, ◌*ℤ◌, ◌<ℤ◌, ◌≤ℤ◌, w64, to_z, of_z, slice_index}
use Rattle.std.proofs.lemmas.Int.{ints, to_z-of_z}
use Rattle.grid.specs.Bounds.{IsWithin}
use Rattle.grid.specs.Samples.{count_of, part_size, IsPart, offsets_x, offsets_y, box_start}
use Rattle.grid.specs.declared.pixels.TileSide.{TileSide}
use Rattle.grid.specs.declared.pixels.TileSide.TheVariants.{T8}
use Rattle.grid.specs.declared.sample_count.SampleCount.{SampleCount}
use Rattle.grid.specs.declared.sample_count.SampleCount.TheVariants.{One, Two, Four, Eight, Sixteen}
use Rattle.grid.specs.declared.triangle.Tri.{Tri}
use Rattle.grid.proofs.Bounds.{IsWithin-mul}
use Rattle.grid.proofs.Ring.{var, plus, times, ring}
use Rattle.cover.specs.declared.edge.Edge.{Edge}
use Rattle.cover.specs.declared.edges.Edges.{Edges}
use Rattle.cover.specs.declared.edges.Values.{Values}
use Rattle.cover.specs.declared.masks.Masks.{Masks}
use Rattle.cover.specs.Edge.{grown}
use Rattle.cover.specs.Block.{IsScreenBounded, IsMaskSide}
use Rattle.cover.specs.Edges.{AreScreenBounded, IsInsideAfter}
use Rattle.cover.specs.Inside.{IsSquareOf}
use Rattle.cover.specs.Masks.{AreMasksWhere, AreWordsWhere, AreMasksOf, AreMasksOfPart, IsPlaneOf, to_column, to_row}
use Rattle.cover.specs.Square.{box_reach}
use Rattle.cover.proofs.Corners.{sample_test, room_x, room_y, ends_lt}
use Rattle.cover.proofs.Words.{set_in_both, full, empty_word, no_bits}

-- ---- where a sample lies in the box
pub column_in_reach : (count : SampleCount) (s column : ℕ) → s < count_of count → column < 8 → to_column count s column ≤ box_reach T8 count
column_in_reach count s column lt within = let room = room_x count s lt in omega (arith, room.low, room.high)

pub row_in_reach : (count : SampleCount) (s row : ℕ) → s < count_of count → row < 8 → to_row count s row ≤ box_reach T8 count
row_in_reach count s row lt within = let room = room_y count s lt in omega (arith, room.low, room.high)

pub place_x : (count : SampleCount) (s n column : ℕ) → s < count_of count → 2048 * n + box_start count + to_column count s column ≡ 256 * (8 * n + column) + slice_index (offsets_x count) s
place_x count s n column lt = let room = room_x count s lt in place (box_start count) (slice_index (offsets_x count) s) n column room.low
  where
    place : (start offset n column : ℕ) → start ≤ offset → 2048 * n + start + (256 * column + (offset - start)) ≡ 256 * (8 * n + column) + offset
    place start offset n column low = omega arith

pub place_y : (count : SampleCount) (s n row : ℕ) → s < count_of count → 2048 * n + box_start count + to_row count s row ≡ 256 * (8 * n + row) + slice_index (offsets_y count) s
place_y count s n row lt = let room = room_y count s lt in place (box_start count) (slice_index (offsets_y count) s) n row room.low
  where
    place : (start offset n row : ℕ) → start ≤ offset → 2048 * n + start + (256 * row + (offset - start)) ≡ 256 * (8 * n + row) + offset
    place start offset n row low = omega arith

pub reach_of_block : (count : SampleCount) → box_reach T8 count < 2 ^ 11
reach_of_block count = omega (arith, ends_lt count)

-- ---- an edge that meets the box is not far
pub is_near : (e : Edge) (at : ℤ) (m n m' n' : ℕ) → grown e at m n <ℤ pos 0 → pos 0 ≤ℤ grown e at m' n' → m < 2 ^ 11 → n < 2 ^ 11 → m' < 2 ^ 11 → n' < 2 ^ 11 → IsWithin (2 ^ 37) at
is_near e at m n m' n' under over hm hn hm' hn' =
    bounded at (e.right *ℤ pos m) (e.down *ℤ pos n) (e.right *ℤ pos m') (e.down *ℤ pos n') (grows e.right m e.size.1 hm) (grows e.down n e.size.2 hn) (grows e.right m' e.size.1 hm') (grows e.down n' e.size.2 hn') under over
  where
    grows : (r : ℤ) (m : ℕ) → IsWithin (2 ^ 25) r → m < 2 ^ 11 → IsWithin (2 ^ 36) (r *ℤ pos m)
    grows r m h lt = IsWithin-mul r (pos m) (2 ^ 25) (2 ^ 11) h (record { low = omega (arith, ints); high = omega (arith, ints) })

    bounded : (at a b c d : ℤ) → IsWithin (2 ^ 36) a → IsWithin (2 ^ 36) b → IsWithin (2 ^ 36) c → IsWithin (2 ^ 36) d → (at +ℤ a +ℤ b) <ℤ pos 0 → pos 0 ≤ℤ (at +ℤ c +ℤ d) → IsWithin (2 ^ 37) at
    bounded at a b c d h i j k l o = record { low = omega (arith, ints); high = omega (arith, ints) }

-- ---- one edge
-- a number that a call was given
abbrev pub bits64 : ℤ → ℤ
bits64 z = to_z w64 (of_z w64 z)

pub kept : (z : ℤ) → IsScreenBounded z → bits64 z ≡ z
kept z h = to_z-of_z w64 z (omega (arith, ints, h))

abbrev pub Passes : Edge → ℤ → SampleCount → ℕ → ℕ → ℕ → Type 0
Passes e at count s row column = pos 0 ≤ℤ grown e at (to_column count s column) (to_row count s row)

-- a pixel of a square is in a block, and its bit is in a word
pub record IsPixel (row column k : ℕ) : Type 0 where
  pub in_rows : row < 8
  pub in_columns : column < 8
  pub bit : k < 64

pub pixel : (side row column : ℕ) → IsMaskSide side → row < side → column < side → IsPixel row column (side * row + column)
pixel side row column (inl e) lt within = let times : side * row ≡ 4 * row = ap (λ n. n * row) e in record { in_rows = omega (arith, e, lt); in_columns = omega (arith, e, within); bit = omega (arith, e, times, lt, within) }
pixel side row column (inr e) lt within = let times : side * row ≡ 8 * row = ap (λ n. n * row) e in record { in_rows = omega (arith, e, lt); in_columns = omega (arith, e, within); bit = omega (arith, e, times, lt, within) }

pub all_pass : (e : Edge) (at : ℤ) (count : SampleCount) (from side : ℕ) (m : Masks) → IsMaskSide side → IsPart count from → ((k l : ℕ) → k ≤ box_reach T8 count → l ≤ box_reach T8 count → pos 0 ≤ℤ grown e at k l)
    → ((s : ℕ) → s < part_size count → slice_index m.plane s ≡ 2 ^ 64 - 1) → ((s : ℕ) → part_size count ≤ s → slice_index m.plane s ≡ 0) → AreMasksWhere side (Passes e at count) count from m
all_pass e at count from side m square part pass each empty = record {
  exact = λ s row column lt below within. let p = pixel side row column square below within in
      (λ set. pass (to_column count (from + s) column) (to_row count (from + s) row) (column_in_reach count (from + s) column (omega (arith, lt, part)) p.in_columns) (row_in_reach count (from + s) row (omega (arith, lt, part)) p.in_rows), λ h. full _ (side * row + column) (each s lt) p.bit);
  empty = empty;
}

-- with the number as a call was given it
pub all_pass_kept : (e : Edge) (at least : ℤ) (reach : ℕ) (count : SampleCount) (from side : ℕ) (m : Masks) → IsMaskSide side → IsPart count from → IsScreenBounded at → reach ≡ box_reach T8 count → pos 0 ≤ℤ least → ((k l : ℕ) → k ≤ reach → l ≤ reach → least ≤ℤ grown e (bits64 at) k l)
    → ((s : ℕ) → s < part_size count → slice_index m.plane s ≡ 2 ^ 64 - 1) → ((s : ℕ) → part_size count ≤ s → slice_index m.plane s ≡ 0) → AreMasksWhere side (Passes e at count) count from m
all_pass_kept e at least reach count from side m square part small is over bound each empty =
    all_pass e at count from side m square part (λ k l hk hl. subst (λ (z : ℤ). pos 0 ≤ℤ grown e z k l) (kept at small) (trans _ (bound k l (omega (arith, is, hk)) (omega (arith, is, hl))))) each empty
  where
    trans : (z : ℤ) → least ≤ℤ z → pos 0 ≤ℤ z
    trans z h = omega (arith, ints)

pub none_pass : (e : Edge) (at : ℤ) (count : SampleCount) (from side : ℕ) (m : Masks) → IsMaskSide side → IsPart count from → ((k l : ℕ) → k ≤ box_reach T8 count → l ≤ box_reach T8 count → grown e at k l <ℤ pos 0)
    → ((s : ℕ) → s < part_size count → slice_index m.plane s ≡ 0) → ((s : ℕ) → part_size count ≤ s → slice_index m.plane s ≡ 0) → AreMasksWhere side (Passes e at count) count from m
none_pass e at count from side m square part fail each empty = record {
  exact = λ s row column lt below within. let p = pixel side row column square below within in (
    λ set. absurd (empty_word _ _ (each s lt) set),
    λ h. absurd (let under = fail (to_column count (from + s) column) (to_row count (from + s) row) (column_in_reach count (from + s) column (omega (arith, lt, part)) p.in_columns) (row_in_reach count (from + s) row (omega (arith, lt, part)) p.in_rows) in omega (arith, ints)),
  );
  empty = empty;
}

pub none_pass_kept : (e : Edge) (at greatest : ℤ) (reach : ℕ) (count : SampleCount) (from side : ℕ) (m : Masks) → IsMaskSide side → IsPart count from → IsScreenBounded at → reach ≡ box_reach T8 count → greatest <ℤ pos 0 → ((k l : ℕ) → k ≤ reach → l ≤ reach → grown e (bits64 at) k l ≤ℤ greatest)
    → ((s : ℕ) → s < part_size count → slice_index m.plane s ≡ 0) → ((s : ℕ) → part_size count ≤ s → slice_index m.plane s ≡ 0) → AreMasksWhere side (Passes e at count) count from m
none_pass_kept e at greatest reach count from side m square part small is under bound each empty =
    none_pass e at count from side m square part (λ k l hk hl. subst (λ (z : ℤ). grown e z k l <ℤ pos 0) (kept at small) (trans _ (bound k l (omega (arith, is, hk)) (omega (arith, is, hl))))) each empty
  where
    trans : (z : ℤ) → z ≤ℤ greatest → z <ℤ pos 0
    trans z h = omega (arith, ints)

-- and an edge that neither all nor none pass
abbrev pub IsReached : Edge → ℤ → ℕ → ℤ → Type 0
IsReached e at reach v = (m : ℕ) × ((n : ℕ) × ((m ≤ reach) × (n ≤ reach) × (v ≡ grown e at m n)))

pub near_kept : (e : Edge) (at least greatest : ℤ) (reach : ℕ) (count : SampleCount) → reach ≡ box_reach T8 count → IsReached e at reach least → IsReached e at reach greatest → least <ℤ pos 0 → pos 0 ≤ℤ greatest → IsWithin (2 ^ 37) at
near_kept e at least greatest reach count is low high under over =
    let room = reach_of_block count in
    let a = low.1.1 in
    let b = high.1.1 in
    is_near e at low.0 low.1.0 high.0 high.1.0 (subst (λ (z : ℤ). z <ℤ pos 0) a.2 under) (subst (λ (z : ℤ). pos 0 ≤ℤ z) b.2 over)
    (omega (arith, a.0, is, room)) (omega (arith, a.1, is, room)) (omega (arith, b.0, is, room)) (omega (arith, b.1, is, room))

-- a sample's value, by the values at the sample of the first pixel
pub further_on : (e : Edge) (at : ℤ) (m n k l : ℕ) → grown e (grown e at m n) k l ≡ grown e at (k + m) (l + n)
further_on e at m n k l =
    ring (at ∷ e.right ∷ e.down ∷ pos m ∷ pos n ∷ pos k ∷ pos l ∷ [])
    (plus (plus (plus (plus (var 0) (times (var 1) (var 3))) (times (var 2) (var 4))) (times (var 1) (var 5))) (times (var 2) (var 6)))
    (plus (plus (var 0) (times (var 1) (plus (var 5) (var 3)))) (times (var 2) (plus (var 6) (var 4)))) refl

-- the value at a sample of the first pixel, as the code forms it
pub record IsSampleValue (e : Edge) (at w : ℤ) (m n : ℕ) : Type 0 where
  pub near : IsWithin (2 ^ 38) (bits64 w)
  pub is : bits64 w ≡ grown e at m n

pub sample_value : (e : Edge) (at w : ℤ) (m n : ℕ) → IsWithin (2 ^ 37) at → m < 2 ^ 8 → n < 2 ^ 8 → w ≡ grown e (bits64 at) m n → IsSampleValue e at w m n
sample_value e at w m n h hm hn is =
    let same : bits64 at ≡ at = to_z-of_z w64 at (omega (arith, ints)) in
    let right : IsWithin (2 ^ 33) (e.right *ℤ pos m) = IsWithin-mul e.right (pos m) (2 ^ 25) (2 ^ 8) e.size.1 (record { low = omega (arith, ints); high = omega (arith, ints) }) in
    let down : IsWithin (2 ^ 33) (e.down *ℤ pos n) = IsWithin-mul e.down (pos n) (2 ^ 25) (2 ^ 8) e.size.2 (record { low = omega (arith, ints); high = omega (arith, ints) }) in
    let v = value (e.right *ℤ pos m) (e.down *ℤ pos n) right down (is ∙ ap (λ z. grown e z m n) same) in
    record { near = v.0; is = v.1 }
  where
    value : (a b : ℤ) → IsWithin (2 ^ 33) a → IsWithin (2 ^ 33) b → w ≡ at +ℤ a +ℤ b → (IsWithin (2 ^ 38) (bits64 w)) × (bits64 w ≡ at +ℤ a +ℤ b)
    value a b ha hb e = (record { low = omega (arith, ints); high = omega (arith, ints) }, to_z-of_z w64 w (omega (arith, ints)) ∙ e)

pub plane_bit : {B : Type 0} (e : Edge) (at w : ℤ) (count : SampleCount) (s row column m n : ℕ) → bits64 w ≡ grown e at m n
    → m ≡ slice_index (offsets_x count) s - box_start count → n ≡ slice_index (offsets_y count) s - box_start count
    → B ↔ (pos 0 ≤ℤ grown e (bits64 w) (256 * column) (256 * row)) → B ↔ Passes e at count s row column
plane_bit {B} e at w count s row column m n is x y bit =
    let value : grown e (bits64 w) (256 * column) (256 * row) ≡ grown e at (to_column count s column) (to_row count s row) =
    ap (λ z. grown e z (256 * column) (256 * row)) is ∙ further_on e at m n (256 * column) (256 * row) ∙ (λ i. grown e at (256 * column + x i) (256 * row + y i)) in
    subst (λ (z : ℤ). B ↔ (pos 0 ≤ℤ z)) value bit

-- ---- the words of a part
pub record IsWord (side : ℕ) (P : ℕ → ℕ → ℕ → Type 0) (count : SampleCount) (from s word : ℕ) : Type 0 where
  pub some : s < part_size count → (row column : ℕ) → row < side → column < side → (IsBitSet word (side * row + column) ↔ P (from + s) row column)
  pub none : part_size count ≤ s → word ≡ 0

pub part_at_most : (count : SampleCount) → part_size count ≤ 4
part_at_most One = omega arith
part_at_most Two = omega arith
part_at_most Four = omega arith
part_at_most Eight = omega arith
part_at_most Sixteen = omega arith

module _ (side : ℕ) (P : ℕ → ℕ → ℕ → Type 0) (count : SampleCount) (from a b c d : ℕ) (first : IsWord side P count from 0 a) (second : IsWord side P count from 1 b) (third : IsWord side P count from 2 c) (fourth : IsWord side P count from 3 d) where
  word_at : (s : ℕ) → IsWord side P count from s (slice_index (a ∷ b ∷ c ∷ d ∷ []) s)
  word_at zero = first
  word_at (suc zero) = second
  word_at (suc (suc zero)) = third
  word_at (suc (suc (suc zero))) = fourth
  word_at (suc (suc (suc (suc s)))) = record { some = λ lt. absurd (omega (arith, lt, part_at_most count)); none = λ le. refl }

  pub four_words : AreWordsWhere side P count from (a ∷ b ∷ c ∷ d ∷ [])
  four_words = record { exact = λ s row column lt. (word_at s).some lt row column; empty = λ s. (word_at s).none }

-- ---- edges joined
pub both_exact : {P Q : ℕ → ℕ → ℕ → Type 0} (count : SampleCount) (from side : ℕ) (m n r : Masks) → AreMasksWhere side P count from m → AreMasksWhere side Q count from n
    → ((s : ℕ) → slice_index r.plane s ≡ bit_and (slice_index m.plane s) (slice_index n.plane s)) → AreMasksWhere side (λ s row column. P s row column × Q s row column) count from r
both_exact {P} {Q} count from side m n r h k is = record {
  exact = λ s row column lt below within.
      let both = set_in_both (slice_index m.plane s) (slice_index n.plane s) (side * row + column) in
      let first = h.exact s row column lt below within in
      let second = k.exact s row column lt below within in (
        λ set. (let parts = both.0 (rw is at set) in (first.0 parts.0, second.0 parts.1)),
        λ p. rw is (both.1 (first.1 p.0, second.1 p.1)),
      );
  empty = λ s le. is s ∙ ap₂ bit_and (h.empty s le) (k.empty s le) ∙ no_bits;
}

pub means : {P Q : ℕ → ℕ → ℕ → Type 0} (count : SampleCount) (from side : ℕ) (m : Masks) → ((s row column : ℕ) → P s row column ↔ Q s row column) → AreMasksWhere side P count from m → AreMasksWhere side Q count from m
means {P} {Q} count from side m same h = record {
  exact = λ s row column lt below within.
      let bit = h.exact s row column lt below within in let to = same (from + s) row column in (λ set. to.0 (bit.0 set), λ q. bit.1 (to.1 q));
  empty = h.empty;
}

-- ---- the first part
pub begins_with_part : (count : SampleCount) → IsPart count 0
begins_with_part One = omega arith
begins_with_part Two = omega arith
begins_with_part Four = omega arith
begins_with_part Eight = omega arith
begins_with_part Sixteen = omega arith

pub of_first_part : (P : ℕ → Type 0) (s : ℕ) → P (0 + s) → P s
of_first_part P s h = let e : 0 + s ≡ s = omega arith in subst P e h

pub plane_of_first : {t : Tri} {bx by : ℕ} {count : SampleCount} {m : Masks} → AreMasksOf t bx by count m → (s : ℕ) → s < part_size count → IsPlaneOf t bx by count s (slice_index m.plane s)
plane_of_first {t} {bx} {by} {count} {m} h s lt = of_first_part (λ n. IsPlaneOf t bx by count n (slice_index m.plane s)) s (h.covered s lt)

-- ---- a triangle's block
pub inside_is : (e : Edges) (at : Values) (m n : ℕ) → AreScreenBounded at
    → (((pos 0 ≤ℤ grown e.ab (bits64 at.ab) m n) × (pos 0 ≤ℤ grown e.bc (bits64 at.bc) m n)) × (pos 0 ≤ℤ grown e.ca (bits64 at.ca) m n)) ↔ IsInsideAfter e at m n
inside_is e at m n h =
    let ab = kept at.ab h.ab in
    let bc = kept at.bc h.bc in
    let ca = kept at.ca h.ca in (
      λ k. record { ab = subst (λ (z : ℤ). pos 0 ≤ℤ grown e.ab z m n) ab k.0.0; bc = subst (λ (z : ℤ). pos 0 ≤ℤ grown e.bc z m n) bc k.0.1; ca = subst (λ (z : ℤ). pos 0 ≤ℤ grown e.ca z m n) ca k.1 },
      λ k. ((subst (λ (z : ℤ). pos 0 ≤ℤ grown e.ab z m n) (sym ab) k.ab, subst (λ (z : ℤ). pos 0 ≤ℤ grown e.bc z m n) (sym bc) k.bc), subst (λ (z : ℤ). pos 0 ≤ℤ grown e.ca z m n) (sym ca) k.ca),
    )

pub masks_of_square : (t : Tri) (e : Edges) (at : Values) (bx by : ℕ) (side : TileSide) (count : SampleCount) (from : ℕ) (m : Masks) → IsPart count from → IsSquareOf t e at bx by side count
    → AreMasksWhere 8 (λ s row column. IsInsideAfter e at (to_column count s column) (to_row count s row)) count from m → AreMasksOfPart t bx by count from m
masks_of_square t e at bx by side count from m part h k = record {
  covered = λ s lt row column below within.
      let bit = k.exact s row column lt below within in
      let test = sample_test t e at bx by side count h (from + s) row column (to_column count (from + s) column) (to_row count (from + s) row) (place_x count (from + s) bx column (omega (arith, lt, part))) (place_y count (from + s) by row (omega (arith, lt, part))) in
      (λ set. test.0 (bit.0 set), λ c. bit.1 (test.1 c));
  empty = k.empty;
}
