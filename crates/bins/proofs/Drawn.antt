-- The triangles of a bin, which make of a sample what all triangles make.
use Rattle.std.proofs.Common.{◌≡◌, inl, inr, refl, sym, ◌∙◌, ℕ, zero, suc, ◌+◌, ◌-◌, ◌<◌, ◌≤◌, List, length, take, slice_get, slice_index, Some, arith}
use Rattle.std.specs.List.Sorted.{IsStrictlyIncreasing}
use Rattle.std.proofs.lemmas.List.{take_all}
use Rattle.std.proofs.lemmas.Bool.{cases_lt}
use Rattle.std.proofs.lemmas.Grind.{get_or_default_zero}
use Rattle.grid.specs.Pixels.{IsInBox}
use Rattle.grid.specs.Samples.{count_of}
use Rattle.grid.specs.declared.pixels.PixelBox.{PixelBox}
use Rattle.shade.specs.declared.sample.Sample.{Sample}
use Rattle.shade.specs.declared.placed.Placed.{Placed}
use Rattle.shade.specs.Placed.{Meets, Draws}
use Rattle.shade.specs.Ending.{Ends}
use Rattle.draw_list.specs.Scene.{Scene}
use Rattle.draw_list.specs.Picture.{IsEnd}
use Rattle.shade.proofs.Endings.{of_list, ends_more, ends_past}
use Rattle.bins.specs.Bin.{IsBin, MeetsRect}

ascends : (xs : List ℕ) (a many : ℕ) → IsStrictlyIncreasing xs → a + many < length xs → slice_index xs a + many ≤ slice_index xs (a + many)
ascends xs a zero h k = let same : a + 0 ≡ a = omega arith in rw same (omega arith)
ascends xs a (suc many) h k =
    let next : a + suc many ≡ (a + many) + 1 = omega arith in
    let more = h (a + many) (omega arith) in
    let before = ascends xs a many h (omega arith) in
    rw next (omega arith)

-- The first b triangles of the bin have been drawn, and no other triangle before number `next` meets the sample.
pub record HasDrawn (l : Scene) (i j s : ℕ) (bin : List ℕ) (b : ℕ) (sample : Sample) : Type 0 where
  pub next : ℕ
  pub within : next ≤ length l.triangles
  pub drawn : Ends (take next l.triangles) l.count i j s l.clear sample
  pub before : (q : ℕ) → q < b → slice_index bin q < next
  pub after : (q : ℕ) → b ≤ q → q < length bin → next ≤ slice_index bin q

pub none_drawn : (l : Scene) (i j s : ℕ) (bin : List ℕ) → HasDrawn l i j s bin 0 l.clear
none_drawn l i j s bin = record { next = 0; within = omega arith; drawn = refl; before = λ q h. absurd (omega arith); after = λ q h k. omega arith }

module _ (l : Scene) (i j s : ℕ) (bin : List ℕ) (h : IsBin l (λ t. Meets t l.count i j s) bin) (b : ℕ) (sample : Sample) (d : HasDrawn l i j s bin b sample) where
  -- a triangle between two of the bin
  missed : (to : ℕ) → ((q : ℕ) → b ≤ q → q < length bin → to ≤ slice_index bin q) → (k : ℕ) (t : Placed) → d.next ≤ k → k < to → slice_get l.triangles k ≡ Some t → ¬ Meets t l.count i j s
  missed to later k t low high e m =
      let there = h.whole k t e m in
      let at : slice_index bin there.0 ≡ k = sym (get_or_default_zero bin there.0 k there.1) ∙ there.2 in
      elim (cases_lt there.0 b) [
        | inl less ↦ let earlier = d.before there.0 less in omega arith
        | inr more ↦ let later = later there.0 more there.1 in omega arith
      ]

  reached : (to : ℕ) → d.next ≤ to → ((q : ℕ) → b ≤ q → q < length bin → to ≤ slice_index bin q) → Ends (take to l.triangles) l.count i j s l.clear sample
  reached to low later =
      let sum : d.next + (to - d.next) ≡ to = omega arith in
      rw sum at (ends_past (of_list l.count i j s) l.triangles d.next (to - d.next) l.clear sample (λ k t low' high e. missed to later k t low' (omega arith) e) d.drawn)

  pub one_drawn : (n : ℕ) (t : Placed) (new : Sample) → b < length bin → n ≡ slice_index bin b → slice_get l.triangles n ≡ Some t → Draws t l.count i j s sample new → HasDrawn l i j s bin (b + 1) new
  one_drawn n t new below here e draws =
      let from_here : (q : ℕ) → b ≤ q → q < length bin → n + (q - b) ≤ slice_index bin q = λ q low high.
      let sum : b + (q - b) ≡ q = omega arith in
      let more = rw sum at (ascends bin b (q - b) h.ascending (omega arith)) in
      omega arith in
      let number : n < length l.triangles = rw (get_or_default_zero bin b 0 below, ← here) at (h.numbers b 0 below) in
      let reached_here = reached n (let low = d.after b (omega arith) below in omega arith) (λ q low high. let more = from_here q low high in omega arith) in
      record {
        next = n + 1;
        within = omega arith;
        drawn = ends_more (of_list l.count i j s) l.triangles n t l.clear sample new number e reached_here draws;
        before = λ q low. elim (cases_lt q b) [
          | inl less ↦ let earlier = d.before q less in let low' = d.after b (omega arith) below in omega arith
          | inr more ↦ let same : q ≡ b = omega arith in rw same (omega arith)
        ];
        after = λ q low high. let more = from_here q (omega arith) high in omega arith;
      }

  pub all_drawn : length bin ≤ b → IsEnd l i j s sample
  all_drawn past =
      let all = reached (length l.triangles) d.within (λ q low high. absurd (omega arith)) in
      rw (take_all (length l.triangles) l.triangles (omega arith)) at all

-- a bin of a rectangle is one of each sample of its pixels
pub bin_at_sample : (l : Scene) (r : PixelBox) (i j s : ℕ) (bin : List ℕ) → IsInBox r i j → s < count_of l.count → IsBin l (λ t. MeetsRect t l.count r) bin → IsBin l (λ t. Meets t l.count i j s) bin
bin_at_sample l r i j s bin inside is_sample h = record {
  ascending = h.ascending;
  numbers = h.numbers;
  whole = λ n t e meets. h.whole n t e (record { column = i; row = j; sample = s; is_sample = is_sample; inside = inside; meets = meets });
}
