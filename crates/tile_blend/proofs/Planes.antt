-- Samples of a plane that are changed one after another, and planes of a block.
use Rattle.std.proofs.Common.{◌≡◌, ◌≢◌, ◌∙◌, inl, inr, refl, sym, ap, subst, ℕ, ◌+◌, ◌<◌, ◌≤◌, List, length, slice_set, arith}
use Rattle.std.proofs.lemmas.Bool.{cases_lt}
use Rattle.std.proofs.lemmas.List.{get_or-set_same, get_or-set_other}
use Rattle.grid.specs.Samples.{count_of}
use Rattle.grid.specs.declared.sample_count.SampleCount.{SampleCount}
use Rattle.shade.specs.declared.sample.CanvasSample.{CanvasSample}
use Rattle.lanes.specs.declared.block_samples.BlockSamples.{BlockSamples}
use Rattle.lanes.specs.Block.{stored_at}
use Rattle.blocks.specs.declared.way.Way.TheVariants.{Own}
use Rattle.blocks.specs.Layout.{block_in_tile, pixel_in_block, way_of, place_by, in_list, stored_in_tile, way_in_tile, KeepsOtherSamples}
use Rattle.blocks.proofs.Places.{none, behind_first}
use Rattle.blocks.proofs.TilePlanes.{by_way, others_same}

-- ---- the samples of a plane
-- those before number k became what R says, and the others are unchanged
pub record AreSamplesChanged (R : ℕ → CanvasSample → CanvasSample → Type 0) (k : ℕ) (old new : BlockSamples) : Type 0 where
  pub changed : (n : ℕ) → n < k → R n (stored_at old n) (stored_at new n)
  pub rest : (n : ℕ) → k ≤ n → n < 64 → stored_at new n ≡ stored_at old n

pub no_sample : (R : ℕ → CanvasSample → CanvasSample → Type 0) (plane : BlockSamples) → AreSamplesChanged R 0 plane plane
no_sample R plane = record { changed = λ n l. absurd (omega (arith, l)); rest = λ n _ _. refl }

pub one_sample : (R : ℕ → CanvasSample → CanvasSample → Type 0) (k : ℕ) (old middle new : BlockSamples) → k < 64 → ((n : ℕ) → n < 64 → n ≢ k → stored_at new n ≡ stored_at middle n)
    → R k (stored_at middle k) (stored_at new k) → AreSamplesChanged R k old middle → AreSamplesChanged R (k + 1) old new
one_sample R k old middle new small kept is before = record {
  changed = λ n l.
      elim (cases_lt n k) [
        | inl less ↦ subst (λ x. R n (stored_at old n) x) (sym (kept n (omega (arith, less, small)) (λ e. omega (arith, e, less)))) (before.changed n less)
        | inr more ↦
            let same : k ≡ n = omega (arith, l, more) in
            subst (λ m. R m (stored_at old m) (stored_at new m)) same (subst (λ x. R k x (stored_at new k)) (before.rest k (omega arith) small) is)
      ];
  rest = λ n h l. kept n l (λ e. omega (arith, e, h)) ∙ before.rest n (omega (arith, h)) l;
}

-- ---- the planes of a block
-- the first t own planes of block q became what R says, and all others are unchanged
pub record ArePlanesChanged (count : SampleCount) (q t : ℕ) (R : ℕ → ℕ → CanvasSample → CanvasSample → Type 0) (old new : List BlockSamples) : Type 0 where
  pub changed : (s p : ℕ) → s < t → p < 64 → R s p (stored_at (in_list old (place_by count Own q s)) p) (stored_at (in_list new (place_by count Own q s)) p)
  pub kept : (n : ℕ) → ((s : ℕ) → s < t → n ≢ place_by count Own q s) → in_list new n ≡ in_list old n

pub no_plane : (count : SampleCount) (q : ℕ) (R : ℕ → ℕ → CanvasSample → CanvasSample → Type 0) (xs : List BlockSamples) → ArePlanesChanged count q 0 R xs xs
no_plane count q R xs = record { changed = λ s p l small. absurd (omega (arith, l)); kept = λ n other. refl }

pub one_plane : (count : SampleCount) (q t at : ℕ) (R : ℕ → ℕ → CanvasSample → CanvasSample → Type 0) (plane : BlockSamples) (old xs : List BlockSamples) → at ≡ place_by count Own q t → at < length xs
    → ((p : ℕ) → p < 64 → R t p (stored_at (in_list xs at) p) (stored_at plane p)) → ArePlanesChanged count q t R old xs → ArePlanesChanged count q (t + 1) R old (slice_set xs at plane)
one_plane count q t at R plane old xs is room has before = record {
  changed = λ s p l small.
      elim (cases_lt s t) [
        | inl less ↦ subst (λ x. R s p (stored_at (in_list old (place_by count Own q s)) p) (stored_at x p)) (sym (get_or-set_other xs at (place_by count Own q s) plane none (λ e. omega (arith, e, is, less)))) (before.changed s p less small)
        | inr more ↦
            let same : t ≡ s = omega (arith, l, more) in
            subst (λ m. R m p (stored_at (in_list old (place_by count Own q m)) p) (stored_at (in_list (slice_set xs at plane) (place_by count Own q m)) p)) same
            (subst (λ n. R t p (stored_at (in_list old n) p) (stored_at (in_list (slice_set xs at plane) n) p)) is
            (subst (λ x. R t p (stored_at x p) (stored_at (in_list (slice_set xs at plane) at) p)) (before.kept at (λ m less e. omega (arith, less, e, is)))
            (subst (λ x. R t p (stored_at (in_list xs at) p) (stored_at x p)) (sym (get_or-set_same xs at plane none room)) (has p small))))
      ];
  kept = λ n other. get_or-set_other xs at n plane none (λ e. other t (omega arith) (e ∙ is)) ∙ before.kept n (λ s l. other s (omega (arith, l)));
}

-- all of them: the samples of the block
module _ (count : SampleCount) (q : ℕ) (R : ℕ → ℕ → CanvasSample → CanvasSample → Type 0) (old new : List BlockSamples) (own : way_in_tile old q ≡ Own) (all : ArePlanesChanged count q (count_of count) R old new) where
  same_ways : (m : ℕ) → way_in_tile new m ≡ way_in_tile old m
  same_ways m = ap (λ first. way_of first m) (all.kept 0 (λ s l e. behind_first count Own q s (sym e)))

  pub block_changed : (i j s : ℕ) → s < count_of count → block_in_tile i j ≡ q → R s (pixel_in_block i j) (stored_in_tile count old i j s) (stored_in_tile count new i j s)
  block_changed i j s h here =
      let p : ℕ = pixel_in_block i j in
      let before = by_way count old Own i j s refl (ap (way_in_tile old) here ∙ own) in
      let after = by_way count new Own i j s refl (ap (way_in_tile new) here ∙ same_ways q ∙ own) in
      subst (λ x. R s p x (stored_in_tile count new i j s)) (sym before)
      (subst (λ y. R s p (stored_at (in_list old (place_by count Own (block_in_tile i j) s)) p) y) (sym after)
      (subst (λ m. R s p (stored_at (in_list old (place_by count Own m s)) p) (stored_at (in_list new (place_by count Own m s)) p)) (sym here) (all.changed s p h (omega arith))))

  pub others_kept : KeepsOtherSamples count q old new
  others_kept = others_same count q old new (λ m _ _. same_ways m) (λ n _ apart. all.kept n apart)
