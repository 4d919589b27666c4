-- A block that is drawn whole, of which one plane is as good as its own.
use Rattle.std.proofs.Common.{◌≡◌, ◌∙◌, inl, inr, refl, sym, subst, ap, arith, ℕ, ◌+◌, ◌<◌, List, take, drop, slice_index}
use Rattle.std.specs.Prelude.{slice_index_or}
use Rattle.grid.specs.Samples.{count_of}
use Rattle.grid.specs.declared.sample_count.SampleCount.{SampleCount}
use Rattle.lanes.specs.declared.block_samples.BlockSamples.{BlockSamples}
use Rattle.lanes.specs.Block.{stored_at}
use Rattle.shade.specs.declared.sample.CanvasSample.{CanvasSample}
use Rattle.lanes.specs.Fragment.{FlatFragment, Takes}
use Rattle.blocks.specs.declared.way.Way.TheVariants.{Own}
use Rattle.canvas.specs.Hidden.{ReplacesColours}
use Rattle.blocks.specs.Layout.{block_in_tile, pixel_in_block, place_by, stored_in_tile, way_in_tile, IsSameTile}
use Rattle.blocks.proofs.Cut.{part_of}
use Rattle.blocks.proofs.Places.{none}
use Rattle.canvas.proofs.Shown.{always, merged_alike}
use Rattle.blocks.proofs.TilePlanes.{by_way, cases_eq}
use Rattle.block_fills.specs.Parts.{DrawsAlike, KeepsOtherBlocks}

-- the fragment that replaces colours makes the same of samples of the same depth and alpha
pub drawn_alike : (f : FlatFragment) (count : SampleCount) (x y made : CanvasSample) → ReplacesColours f.state count → y.z ≡ x.z → y.alpha ≡ x.alpha → Takes f x made → Takes f y made
drawn_alike f count x y made replaces depth alpha drawn =
    let merged = drawn.passed (always f.state.merge.test f.shaded.z x.z replaces.passes) in
    record {
      passed = λ _. merged_alike f.state count f.shaded x y made replaces depth alpha merged;
      failed = λ fails. absurd (fails (always f.state.merge.test f.shaded.z y.z replaces.passes));
    }

-- the same samples, which may be kept in another way
pub same_alike : (f : FlatFragment) (count : SampleCount) (old new : List BlockSamples) → IsSameTile count old new → DrawsAlike f count old new
same_alike f count old new same i j s made h = subst (λ (x : CanvasSample). Takes f x made) (same i j s h)

module _ (f : FlatFragment) (count : SampleCount) (k first n : ℕ) (old new : List BlockSamples) (replaces : ReplacesColours f.state count) (own : way_in_tile old k ≡ Own) (at : first ≡ place_by count Own k 0) (many : n ≡ count_of count)
    (same : (s : ℕ) → s < n → ((slice_index_or (take n (drop first old)) s none).z ≡ (slice_index_or (take n (drop first old)) 0 none).z) × ((slice_index_or (take n (drop first old)) s none).alpha ≡ (slice_index_or (take n (drop first old)) 0 none).alpha))
    (made : (i j s : ℕ) → s < count_of count → block_in_tile i j ≡ k → stored_in_tile count new i j s ≡ stored_at (slice_index_or old first none) (pixel_in_block i j))
    (others : KeepsOtherBlocks k count old new) where
  -- sample s of the block is as that in its first plane, but for the colour
  module _ (i j s : ℕ) (h : s < count_of count) (here : block_in_tile i j ≡ k) where
    abbrev plane : ℕ → BlockSamples
    plane r = slice_index_or (take n (drop first old)) r none

    plane_is : (r : ℕ) → r < count_of count → plane r ≡ slice_index_or old (first + r) none
    plane_is r l = part_of old first n none r (omega (arith, l, many))

    first_is : slice_index_or old first none ≡ plane 0
    first_is = (let zero : first ≡ first + 0 = omega arith in ap (λ q. slice_index_or old q none) zero) ∙ sym (plane_is 0 (omega (arith, h)))

    own_is : stored_in_tile count old i j s ≡ stored_at (plane s) (pixel_in_block i j)
    own_is =
        by_way count old Own i j s refl (ap (way_in_tile old) here ∙ own)
        ∙ ap (λ m. stored_at (slice_index_or old (place_by count Own m s) none) (pixel_in_block i j)) here
        ∙ ap (λ q. stored_at (slice_index_or old q none) (pixel_in_block i j)) (let e : place_by count Own k s ≡ first + s = omega (arith, at) in e)
        ∙ ap (λ (p : BlockSamples). stored_at p (pixel_in_block i j)) (sym (plane_is s h))

    new_is : stored_in_tile count new i j s ≡ stored_at (plane 0) (pixel_in_block i j)
    new_is = made i j s h here ∙ ap (λ (p : BlockSamples). stored_at p (pixel_in_block i j)) first_is

    same_depth : (stored_in_tile count old i j s).z ≡ (stored_in_tile count new i j s).z
    same_depth =
        ap (λ (x : CanvasSample). x.z) own_is
        ∙ ap (λ (z : List ℕ). slice_index z (pixel_in_block i j)) (same s (omega (arith, h, many))).0
        ∙ sym (ap (λ (x : CanvasSample). x.z) new_is)

    same_alpha : (stored_in_tile count old i j s).alpha ≡ (stored_in_tile count new i j s).alpha
    same_alpha =
        ap (λ (x : CanvasSample). x.alpha) own_is
        ∙ ap (λ (alpha : List ℕ). slice_index alpha (pixel_in_block i j)) (same s (omega (arith, h, many))).1
        ∙ sym (ap (λ (x : CanvasSample). x.alpha) new_is)

  pub replaced_alike : DrawsAlike f count old new
  replaced_alike i j s result h drawn =
      elim (cases_eq (block_in_tile i j) k) [
        | inl here ↦ drawn_alike f count (stored_in_tile count new i j s) (stored_in_tile count old i j s) result replaces (same_depth i j s h here) (same_alpha i j s h here) drawn
        | inr other ↦ subst (λ (x : CanvasSample). Takes f x result) (others i j s h other) drawn
      ]
