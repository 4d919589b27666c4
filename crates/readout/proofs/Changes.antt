-- Samples that are changed one after another.
use Rattle.std.proofs.Common.{◌≡◌, Bool, true, ◌≢◌, ◌⊎◌, ◌∙◌, inl, inr, refl, sym, ap, subst, ℕ, ◌+◌, ◌-◌, ◌*◌, ◌/◌, ◌%◌, ◌<◌, ◌≤◌, List, length, take, drop, slice_set, arith}
use Rattle.std.specs.Prelude.{slice_index_or}
use Rattle.std.proofs.lemmas.Bool.{cases_lt}
use Rattle.std.proofs.lemmas.List.{get_or-set_same, get_or-set_other}
use Rattle.grid.specs.Samples.{count_of}
use Rattle.grid.specs.declared.sample_count.SampleCount.{SampleCount}
use Rattle.shade.specs.declared.sample.CanvasSample.{CanvasSample}
use Rattle.shade.proofs.Resolved.{some_samples}
use Rattle.lanes.specs.declared.block_samples.BlockSamples.{BlockSamples}
use Rattle.lanes.specs.Block.{stored_at}
use Rattle.canvas.specs.declared.canvas.Canvas.{Canvas}
use Rattle.readout.specs.declared.format.Format.{Format}
use Rattle.readout.specs.declared.format.Format.TheVariants.{Rgb8, Rgba8, Bgra8, Rgba8Straight, Bgra8Straight}
use Rattle.blocks.specs.declared.way.Way.{Way}
use Rattle.blocks.specs.declared.way.Way.TheVariants.{Single, Own}
use Rattle.blocks.specs.Layout.{masks_from, further_plane, first_further, planes_of_tile, block_in_tile, way_of, place_by, slot_by, is_plain, mask_of, stored_in_tile, way_in_tile, IsSameTile, pixel_in_block}
use Rattle.canvas.specs.Layout.{IsStoredIn, planes_of_row, stored}
use Rattle.readout.specs.Pixels.{pixel_bytes}
use Rattle.readout.specs.Loaded.{coloured, IsIndexIn, AreChanged}
use Rattle.blocks.proofs.Cut.{put}
use Rattle.blocks.proofs.Places.{none, behind_first, last_sample, further_below}
use Rattle.canvas.proofs.Places.{tile_of, tile_put, tile_kept, row_of, row_put, row_kept}
use Rattle.blocks.proofs.TilePlanes.{cases_eq, by_way, same_by_way, has_own, apart}

-- the same bytes are the same colour
pub coloured_same : (format : Format) (too : Bool) (f g : ℕ → ℕ) (sample : CanvasSample) → ((k : ℕ) → k < pixel_bytes format → f k ≡ g k) → coloured format too f sample ≡ coloured format too g sample
coloured_same Rgb8 too f g sample same = let a : f 0 ≡ g 0 = same 0 (omega arith) in let b : f 1 ≡ g 1 = same 1 (omega arith) in let c : f 2 ≡ g 2 = same 2 (omega arith) in rw (a, b, c) refl
coloured_same Rgba8 too f g sample same = let a : f 0 ≡ g 0 = same 0 (omega arith) in let b : f 1 ≡ g 1 = same 1 (omega arith) in let c : f 2 ≡ g 2 = same 2 (omega arith) in let d : f 3 ≡ g 3 = same 3 (omega arith) in rw (a, b, c, d) refl
coloured_same Bgra8 too f g sample same = let a : f 0 ≡ g 0 = same 0 (omega arith) in let b : f 1 ≡ g 1 = same 1 (omega arith) in let c : f 2 ≡ g 2 = same 2 (omega arith) in let d : f 3 ≡ g 3 = same 3 (omega arith) in rw (a, b, c, d) refl
coloured_same Rgba8Straight too f g sample same = let a : f 0 ≡ g 0 = same 0 (omega arith) in let b : f 1 ≡ g 1 = same 1 (omega arith) in let c : f 2 ≡ g 2 = same 2 (omega arith) in let d : f 3 ≡ g 3 = same 3 (omega arith) in rw (a, b, c, d) refl
coloured_same Bgra8Straight too f g sample same = let a : f 0 ≡ g 0 = same 0 (omega arith) in let b : f 1 ≡ g 1 = same 1 (omega arith) in let c : f 2 ≡ g 2 = same 2 (omega arith) in let d : f 3 ≡ g 3 = same 3 (omega arith) in rw (a, b, c, d) refl

-- ---- the samples of one pixel, in the planes of its tile
-- one pixel of a plane of its block is changed, in which the block keeps samples of its own
module _ (count : SampleCount) (i j s : ℕ) (h : s < count_of count) (way : Way) (f : CanvasSample → CanvasSample) (xs : List BlockSamples) (plane : BlockSamples) (at : ℕ) (own : has_own way ≡ true) (plain : is_plain way ≡ true)
    (was : way_in_tile xs (block_in_tile i j) ≡ way) (is_at : at ≡ place_by count way (block_in_tile i j) s) (room : at < length xs)
    (kept : (n : ℕ) → n < 64 → n ≢ pixel_in_block i j → stored_at plane n ≡ stored_at (slice_index_or xs at none) n)
    (is : stored_at plane (pixel_in_block i j) ≡ f (stored_at (slice_index_or xs at none) (pixel_in_block i j))) where
  abbrev after : List BlockSamples
  after = slice_set xs at plane

  pub same_ways : (m : ℕ) → way_in_tile after m ≡ way_in_tile xs m
  same_ways m = ap (λ first. way_of first m) (get_or-set_other xs at 0 plane none (λ e. behind_first count way (block_in_tile i j) s (sym (e ∙ is_at))))

  pub at_sample : stored_in_tile count after i j s ≡ f (stored_in_tile count xs i j s)
  at_sample =
      by_way count after way i j s plain (same_ways (block_in_tile i j) ∙ was)
      ∙ ap (λ p. stored_at (slice_index_or after p none) (pixel_in_block i j)) (sym is_at)
      ∙ ap (λ p. stored_at p (pixel_in_block i j)) (get_or-set_same xs at plane none room)
      ∙ is
      ∙ ap (λ p. f (stored_at (slice_index_or xs p none) (pixel_in_block i j))) is_at
      ∙ ap f (sym (by_way count xs way i j s plain was))

  -- a sample of its block, in another plane or of another pixel
  in_block : (column row t : ℕ) → block_in_tile i j ≡ block_in_tile column row → ((column % 64 ≡ i % 64) → (row % 64 ≡ j % 64) → place_by count way (block_in_tile i j) t ≡ place_by count way (block_in_tile i j) s → ⊥)
      → stored_in_tile count after column row t ≡ stored_in_tile count xs column row t
  in_block column row t here other =
      let of_way : way_in_tile xs (block_in_tile column row) ≡ way = ap (way_in_tile xs) (sym here) ∙ was in
      let p : ℕ = place_by count way (block_in_tile column row) t in
      let plane_is : p ≡ place_by count way (block_in_tile i j) t = ap (λ m. place_by count way m t) (sym here) in
      by_way count after way column row t plain (same_ways (block_in_tile column row) ∙ of_way)
      ∙ elim (cases_eq p at) [
        | inr apart ↦ ap (λ q. stored_at q (pixel_in_block column row)) (get_or-set_other xs at p plane none apart)
        | inl same ↦
            let pixel : pixel_in_block column row ≢ pixel_in_block i j = λ k. other (omega (arith, here, k)) (omega (arith, here, k)) (sym plane_is ∙ same ∙ is_at) in
            ap (λ n. stored_at (slice_index_or after n none) (pixel_in_block column row)) same
            ∙ ap (λ q. stored_at q (pixel_in_block column row)) (get_or-set_same xs at plane none room)
            ∙ kept (pixel_in_block column row) (omega arith) pixel
            ∙ sym (ap (λ n. stored_at (slice_index_or xs n none) (pixel_in_block column row)) same)
      ]
      ∙ sym (by_way count xs way column row t plain of_way)

  pub at_other : (column row t : ℕ) → t < count_of count → ((column % 64 ≡ i % 64) → (row % 64 ≡ j % 64) → place_by count way (block_in_tile i j) t ≡ place_by count way (block_in_tile i j) s → ⊥)
      → stored_in_tile count after column row t ≡ stored_in_tile count xs column row t
  at_other column row t l other =
      elim (cases_eq (block_in_tile i j) (block_in_tile column row)) [
        | inl here ↦ in_block column row t here other
        | inr elsewhere ↦
            let m : ℕ = block_in_tile column row in
            let unchanged : (w : Way) (n : ℕ) → n < count_of count → slice_index_or after (place_by count w m n) none ≡ slice_index_or xs (place_by count w m n) none =
            λ w n small. get_or-set_other xs at (place_by count w m n) plane none (λ e. apart count w way m (block_in_tile i j) n s (λ d. elsewhere (sym d)) small h own (e ∙ is_at)) in
            same_by_way count xs after column row t l (same_ways m)
            ((λ _. ap (λ q. mask_of q t) (unchanged Own (count_of count - 1) (last_sample count))), (λ _. ap (λ q. mask_of (masks_from (first_further count) q) t) (unchanged Own (further_plane count) (further_below count))))
            (λ n small. ap (λ q. stored_at q (slot_by (way_in_tile xs m) m (pixel_in_block column row))) (unchanged (way_in_tile xs m) n small))
      ]

-- the samples of pixel (i, j) from index `from` to before m end as f makes them, and all others are unchanged
pub record IsPixelChanged (count : SampleCount) (i j from m : ℕ) (f : CanvasSample → CanvasSample) (old new : List BlockSamples) : Type 0 where
  pub own : way_in_tile new (block_in_tile i j) ≡ Own
  pub pixel : (s : ℕ) → s < count_of count → IsIndexIn from m s → stored_in_tile count new i j s ≡ f (stored_in_tile count old i j s)
  pub others : (column row s : ℕ) → s < count_of count → ((column % 64 ≡ i % 64) → (row % 64 ≡ j % 64) → IsIndexIn from m s → ⊥) → stored_in_tile count new column row s ≡ stored_in_tile count old column row s

pub no_sample_changed : (count : SampleCount) (i j from : ℕ) (f : CanvasSample → CanvasSample) (old new : List BlockSamples) → way_in_tile new (block_in_tile i j) ≡ Own → IsSameTile count old new → IsPixelChanged count i j from from f old new
no_sample_changed count i j from f old new own same =
    record { own = own; pixel = λ s h index. (let since = index.from in let below = index.below in absurd (omega (arith, since, below))); others = λ column row s h _. same column row s h }

-- one sample more, at its place
pub one_sample_more : (count : SampleCount) (i j from s : ℕ) → from ≤ s → s < count_of count → (f : CanvasSample → CanvasSample) (old middle : List BlockSamples) (plane : BlockSamples) (at : ℕ) → at ≡ place_by count Own (block_in_tile i j) s → at < length middle
    → ((n : ℕ) → n < 64 → n ≢ pixel_in_block i j → stored_at plane n ≡ stored_at (slice_index_or middle at none) n)
    → stored_at plane (pixel_in_block i j) ≡ f (stored_at (slice_index_or middle at none) (pixel_in_block i j))
    → IsPixelChanged count i j from s f old middle → IsPixelChanged count i j from (s + 1) f old (slice_set middle at plane)
one_sample_more count i j from s since h f old middle plane at is_at room kept is before =
    let other : (column row t : ℕ) → t < count_of count → ((column % 64 ≡ i % 64) → (row % 64 ≡ j % 64) → t ≡ s → ⊥) → stored_in_tile count (slice_set middle at plane) column row t ≡ stored_in_tile count middle column row t =
    λ column row t l apart. at_other count i j s h Own f middle plane at refl refl before.own is_at room kept is column row t l (λ a b e. apart a b (omega (arith, e))) in
    record {
      own = same_ways count i j s h Own f middle plane at refl refl before.own is_at room kept is (block_in_tile i j) ∙ before.own;
      pixel = λ t l index.
          elim (cases_lt t s) [
            | inl earlier ↦ other i j t l (λ _ _ e. omega (arith, e, earlier)) ∙ before.pixel t l (record { from = index.from; below = earlier })
            | inr more ↦
                let here : s ≡ t = (let below = index.below in omega (arith, below, more)) in
                subst (λ u. stored_in_tile count (slice_set middle at plane) i j u ≡ f (stored_in_tile count old i j u)) here
                (at_sample count i j s h Own f middle plane at refl refl before.own is_at room kept is ∙ ap f (before.others i j s h (λ _ _ index. let below = index.below in omega (arith, below))))
          ];
      others = λ column row t l apart.
          other column row t l (λ a b e. apart a b (record { from = omega (arith, e, since); below = omega (arith, e) }))
          ∙ before.others column row t l (λ a b index. apart a b (let below = index.below in record { from = index.from; below = omega (arith, below) }));
    }

-- all samples at once, in the one plane that stands for them
module _ (count : SampleCount) (i j : ℕ) (f : CanvasSample → CanvasSample) (old middle : List BlockSamples) (plane : BlockSamples) (at : ℕ) (single : way_in_tile middle (block_in_tile i j) ≡ Single) (same : IsSameTile count old middle)
    (is_at : at ≡ place_by count Single (block_in_tile i j) 0) (room : at < length middle)
    (kept : (n : ℕ) → n < 64 → n ≢ pixel_in_block i j → stored_at plane n ≡ stored_at (slice_index_or middle at none) n)
    (is : stored_at plane (pixel_in_block i j) ≡ f (stored_at (slice_index_or middle at none) (pixel_in_block i j))) where
  pub all_samples : (s : ℕ) → s < count_of count → stored_in_tile count (slice_set middle at plane) i j s ≡ f (stored_in_tile count old i j s)
  all_samples s h = at_sample count i j s h Single f middle plane at refl refl single is_at room kept is ∙ ap f (same i j s h)

  pub other_pixels : (column row s : ℕ) → s < count_of count → ((column % 64 ≡ i % 64) → (row % 64 ≡ j % 64) → ⊥) → stored_in_tile count (slice_set middle at plane) column row s ≡ stored_in_tile count old column row s
  other_pixels column row s h other = at_other count i j 0 (some_samples count) Single f middle plane at refl refl single is_at room kept is column row s h (λ a b _. other a b) ∙ same column row s h

-- ---- a part that is put back changed
module _ (c : Canvas) (xs part : List BlockSamples) (n a : ℕ) (room : a + n ≤ length xs) (long : length part ≡ n) where
  -- some samples of a tile
  pub one_tile_changed : (column row : ℕ) (V : ℕ → ℕ → ℕ → Type 0) (f : ℕ → ℕ → ℕ → CanvasSample → CanvasSample) → n ≡ planes_of_tile c.count → a ≡ column * planes_of_tile c.count
      → ((i j s : ℕ) → V i j s → (i / 64 ≡ column) × (j / 64 ≡ row))
      → ((i j s : ℕ) → s < count_of c.count → i / 64 ≡ column → j / 64 ≡ row → V i j s → stored_in_tile c.count part i j s ≡ f i j s (stored_in_tile c.count (take n (drop a xs)) i j s))
      → ((i j s : ℕ) → s < count_of c.count → i / 64 ≡ column → j / 64 ≡ row → ¬ V i j s → stored_in_tile c.count part i j s ≡ stored_in_tile c.count (take n (drop a xs)) i j s)
      → AreChanged c row (row + 1) V f xs (put xs part a n)
  one_tile_changed column row V f many at in_tile changed kept =
      let of_tile : (i j s : ℕ) → i / 64 ≡ column → j / 64 ≡ row → s < count_of c.count → stored_in_tile c.count (take n (drop a xs)) i j s ≡ stored c row xs i j s =
      λ i j s e d h. tile_of c i j s row xs n a d many (at ∙ ap (λ m. m * planes_of_tile c.count) (sym e)) h in
      record {
        changed = λ i j s h v.
            let e : i / 64 ≡ column = (in_tile i j s v).0 in
            let d : j / 64 ≡ row = (in_tile i j s v).1 in
            tile_put c i j s xs part n a room long row d column many at h.is_sample e ∙ changed i j s h.is_sample e d v ∙ ap (f i j s) (of_tile i j s e d h.is_sample);
        kept = λ i j s h other.
            let from = h.from in
            let below = h.below in
            let d : j / 64 ≡ row = omega (arith, from, below) in
            elim (cases_eq (i / 64) column) [
              | inl e ↦ tile_put c i j s xs part n a room long row d column many at h.is_sample e ∙ kept i j s h.is_sample e d other ∙ of_tile i j s e d h.is_sample
              | inr apart ↦ tile_kept c i j s xs part n a room long row d column many at h.is_sample apart
            ];
      }

  -- some samples of a tile row
  pub one_row_changed : (first end row : ℕ) (V : ℕ → ℕ → ℕ → Type 0) (end_of : ℕ → ℕ → ℕ → CanvasSample → CanvasSample) → first ≤ row → n ≡ planes_of_row c → a ≡ (row - first) * planes_of_row c
      → ((i j s : ℕ) → V i j s → j / 64 ≡ row) → AreChanged c row (row + 1) V end_of (take n (drop a xs)) part → AreChanged c first end V end_of xs (put xs part a n)
  one_row_changed first end row V end_of from many at in_row b =
      let here : (i j s : ℕ) → IsStoredIn c first end i j s → j / 64 ≡ row → IsStoredIn c row (row + 1) i j s =
      λ i j s h e. record { column = h.column; from = omega (arith, e); below = omega (arith, e); is_sample = h.is_sample } in
      let before : (i j s : ℕ) → IsStoredIn c first end i j s → j / 64 ≡ row → stored c row (take n (drop a xs)) i j s ≡ stored c first xs i j s =
      λ i j s h e. row_of c i j s row first xs n a e many (at ∙ ap (λ m. (m - first) * planes_of_row c) (sym e)) h.column h.is_sample in
      record {
        changed = λ i j s h v.
            let e : j / 64 ≡ row = in_row i j s v in
            row_put c i j s xs part n a room long first row many at from h.from h.column h.is_sample e ∙ b.changed i j s (here i j s h e) v ∙ ap (end_of i j s) (before i j s h e);
        kept = λ i j s h other.
            elim (cases_eq (j / 64) row) [
              | inl e ↦ row_put c i j s xs part n a room long first row many at from h.from h.column h.is_sample e ∙ b.kept i j s (here i j s h e) other ∙ before i j s h e
              | inr apart ↦ row_kept c i j s xs part n a room long first row many at from h.from h.column h.is_sample apart
            ];
      }

-- ---- some samples and then others
module _ (c : Canvas) (first end : ℕ) (V W R : ℕ → ℕ → ℕ → Type 0) (before_of after_of end_of : ℕ → ℕ → ℕ → CanvasSample → CanvasSample) (old middle new : List BlockSamples) where
  pub joined_changes : AreChanged c first end V before_of old middle → AreChanged c first end W after_of middle new
      → ((i j s : ℕ) → V i j s → W i j s → ⊥) → ((i j s : ℕ) → R i j s → V i j s ⊎ W i j s) → ((i j s : ℕ) → V i j s → R i j s) → ((i j s : ℕ) → W i j s → R i j s)
      → ((i j s : ℕ) (x : CanvasSample) → V i j s → before_of i j s x ≡ end_of i j s x) → ((i j s : ℕ) (x : CanvasSample) → W i j s → after_of i j s x ≡ end_of i j s x)
      → AreChanged c first end R end_of old new
  joined_changes a b apart from left right as_before as_after = record {
    changed = λ i j s h r.
        elim (from i j s r) [
          | inl v ↦ b.kept i j s h (λ w. apart i j s v w) ∙ a.changed i j s h v ∙ as_before i j s (stored c first old i j s) v
          | inr w ↦ b.changed i j s h w ∙ ap (after_of i j s) (a.kept i j s h (λ v. apart i j s v w)) ∙ as_after i j s (stored c first old i j s) w
        ];
    kept = λ i j s h n. b.kept i j s h (λ w. n (right i j s w)) ∙ a.kept i j s h (λ v. n (left i j s v));
  }

pub no_change : (c : Canvas) (first end : ℕ) (V : ℕ → ℕ → ℕ → Type 0) (end_of : ℕ → ℕ → ℕ → CanvasSample → CanvasSample) (xs : List BlockSamples) → ((i j s : ℕ) → V i j s → ⊥) → AreChanged c first end V end_of xs xs
no_change c first end V end_of xs none_of = record { changed = λ i j s h v. absurd (none_of i j s v); kept = λ i j s h n. refl }

pub changes_where : (c : Canvas) (first end : ℕ) (V W : ℕ → ℕ → ℕ → Type 0) (end_of : ℕ → ℕ → ℕ → CanvasSample → CanvasSample) (old new : List BlockSamples)
    → ((i j s : ℕ) → IsStoredIn c first end i j s → W i j s → V i j s) → ((i j s : ℕ) → IsStoredIn c first end i j s → V i j s → W i j s) → AreChanged c first end V end_of old new → AreChanged c first end W end_of old new
changes_where c first end V W end_of old new from into a = record {
  changed = λ i j s h w. a.changed i j s h (from i j s h w);
  kept = λ i j s h n. a.kept i j s h (λ v. n (into i j s h v));
}
