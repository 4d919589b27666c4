-- The colours of eight pixels in a row of a block.
use Rattle.std.proofs.Common.{◌≡◌, zero, suc, refl, sym, subst, ap, ◌∙◌, ◌≤◌, take, drop, length, ℕ, ◌+◌, ◌-◌, ◌*◌, ◌/◌, ◌%◌, ◌^◌, ◌<◌, List, [], ◌∷◌, slice_index, slice_index_or, arith}
use Rattle.std.proofs.lemmas.List.{length-take, length-drop}
use Rattle.grid.specs.Samples.{count_of}
use Rattle.grid.specs.declared.sample_count.SampleCount.TheVariants.{One, Four}
use Rattle.lanes.specs.declared.block_samples.BlockSamples.{BlockSamples}
use Rattle.shade.specs.Quotient.{IsQuotient}
use Rattle.shade.specs.Mean.{mean_of}
use Rattle.shade.specs.Resolve.{IsResolved}
use Rattle.shade.proofs.Resolved.{total_same, by_mean_of, some_samples}
use Rattle.raster.specs.declared.tile.Tile.{Tile}
use Rattle.raster.specs.Samples.{place_of, planes_of, stored}
use Rattle.raster.specs.Colours.{IsColourAt, AreMeansAt}
use Rattle.lanes.specs.BlockMask.{plane_of}
use Rattle.lanes.specs.Sums.{AreSums}
use Rattle.grid.specs.Pixels.{side_of}
use Rattle.raster.proofs.Places.{within, whole_blocks}
use Rattle.raster.proofs.Cut.{part_of}

pub interleaved_is : (r g b : ℕ → ℕ) (rest : List ℕ) (i : ℕ) → i < 8
    → let bytes : List ℕ = r 0 ∷ g 0 ∷ b 0 ∷ r 1 ∷ g 1 ∷ b 1 ∷ r 2 ∷ g 2 ∷ b 2 ∷ r 3 ∷ g 3 ∷ b 3 ∷ r 4 ∷ g 4 ∷ b 4 ∷ r 5 ∷ g 5 ∷ b 5 ∷ r 6 ∷ g 6 ∷ b 6 ∷ r 7 ∷ g 7 ∷ b 7 ∷ rest in
    (slice_index bytes (3 * i) ≡ r i) × (slice_index bytes (3 * i + 1) ≡ g i) × (slice_index bytes (3 * i + 2) ≡ b i)
interleaved_is r g b rest zero h = (refl, refl, refl)
interleaved_is r g b rest (suc zero) h = (refl, refl, refl)
interleaved_is r g b rest (suc (suc zero)) h = (refl, refl, refl)
interleaved_is r g b rest (suc (suc (suc zero))) h = (refl, refl, refl)
interleaved_is r g b rest (suc (suc (suc (suc zero)))) h = (refl, refl, refl)
interleaved_is r g b rest (suc (suc (suc (suc (suc zero))))) h = (refl, refl, refl)
interleaved_is r g b rest (suc (suc (suc (suc (suc (suc zero)))))) h = (refl, refl, refl)
interleaved_is r g b rest (suc (suc (suc (suc (suc (suc (suc zero))))))) h = (refl, refl, refl)
interleaved_is r g b rest (suc (suc (suc (suc (suc (suc (suc (suc i)))))))) h = absurd (omega arith)

-- ---- eight samples in a row of a block
module _ (tile : Tile) (samples : List BlockSamples) (row column : ℕ) where
  abbrev plane : ℕ → BlockSamples
  plane s = slice_index_or samples (place_of tile (row / 8) column s) (record { z = []; r = []; g = []; b = []; alpha = [] })

  module _ (i : ℕ) (h : i < 8) where
    abbrev k : ℕ
    k = 8 * (row % 8) + i

    block : (8 * column + i) / 8 ≡ column
    block = omega arith

    pixel : (8 * column + i) % 8 ≡ i
    pixel = omega arith

    pub one_resolved : tile.count ≡ One → (r g b : ℕ) → r ≡ slice_index (plane 0).r k → g ≡ slice_index (plane 0).g k → b ≡ slice_index (plane 0).b k
        → IsColourAt tile samples row (8 * column + i) r g b
    one_resolved e r g b red green blue = record {
      red = subst (λ n. IsResolved n (λ s. (stored tile samples row (8 * column + i) s).r) r) (sym e) (rw (block, pixel) red);
      green = subst (λ n. IsResolved n (λ s. (stored tile samples row (8 * column + i) s).g) g) (sym e) (rw (block, pixel) green);
      blue = subst (λ n. IsResolved n (λ s. (stored tile samples row (8 * column + i) s).b) b) (sym e) (rw (block, pixel) blue);
    }

    pub four_resolved : tile.count ≡ Four → (r g b : ℕ)
        → IsQuotient (slice_index (plane 0).r k + slice_index (plane 1).r k + slice_index (plane 2).r k + slice_index (plane 3).r k + 2) 4 r
        → IsQuotient (slice_index (plane 0).g k + slice_index (plane 1).g k + slice_index (plane 2).g k + slice_index (plane 3).g k + 2) 4 g
        → IsQuotient (slice_index (plane 0).b k + slice_index (plane 1).b k + slice_index (plane 2).b k + slice_index (plane 3).b k + 2) 4 b
        → IsColourAt tile samples row (8 * column + i) r g b
    four_resolved e r g b red green blue = record {
      red = subst (λ n. IsResolved n (λ s. (stored tile samples row (8 * column + i) s).r) r) (sym e) (rw (block, pixel) red);
      green = subst (λ n. IsResolved n (λ s. (stored tile samples row (8 * column + i) s).g) g) (sym e) (rw (block, pixel) green);
      blue = subst (λ n. IsResolved n (λ s. (stored tile samples row (8 * column + i) s).b) b) (sym e) (rw (block, pixel) blue);
    }

    -- by the mean of the samples
    pub by_mean : (r g b : ℕ) → r ≡ mean_of (count_of tile.count) (λ s. slice_index (plane s).r k) → g ≡ mean_of (count_of tile.count) (λ s. slice_index (plane s).g k)
        → b ≡ mean_of (count_of tile.count) (λ s. slice_index (plane s).b k) → IsColourAt tile samples row (8 * column + i) r g b
    by_mean r g b red green blue = record {
      red = by_mean_of tile.count (λ s. (stored tile samples row (8 * column + i) s).r) r (rw (block, pixel) red);
      green = by_mean_of tile.count (λ s. (stored tile samples row (8 * column + i) s).g) g (rw (block, pixel) green);
      blue = by_mean_of tile.count (λ s. (stored tile samples row (8 * column + i) s).b) b (rw (block, pixel) blue);
    }

-- ---- means
-- the planes of a block, cut out of the samples
pub mean_moved : (xs : List BlockSamples) (at n : ℕ) (tile : Tile) (row column : ℕ) (value : BlockSamples → ℕ) → at + n ≤ length xs → at ≡ place_of tile row column 0
    → mean_of (length (take n (drop at xs))) (λ s. value (plane_of (take n (drop at xs)) s)) ≡ mean_of n (λ s. value (slice_index_or xs (place_of tile row column s) (record { z = []; r = []; g = []; b = []; alpha = [] })))
mean_moved xs at n tile row column value room e =
    let many : length (take n (drop at xs)) ≡ n = omega (arith, length-take n (drop at xs), length-drop at xs, room) in
    let none : BlockSamples = record { z = []; r = []; g = []; b = []; alpha = [] } in
    (λ i. mean_of (many i) (λ s. value (plane_of (take n (drop at xs)) s)))
    ∙ ap (λ t. (t + n / 2) / n) (total_same n _ _ (λ s l.
    let place : at + s ≡ place_of tile row column s = omega (arith, e) in
    ap value (part_of xs at n none s l ∙ ap (λ k. plane_of xs k) place)))

-- a mean of eight in a row
pub four_in_row : (first second third fourth means : List ℕ) (at i q : ℕ)
    → IsResolved Four (slice_index (slice_index first (at + i) ∷ slice_index second (at + i) ∷ slice_index third (at + i) ∷ slice_index fourth (at + i) ∷ [])) (slice_index means i)
    → q ≡ slice_index means i → IsQuotient (slice_index first (at + i) + slice_index second (at + i) + slice_index third (at + i) + slice_index fourth (at + i) + 2) 4 q
four_in_row first second third fourth means at i q h same = rw same h

pub few_samples : (bits : ℕ) → bits ≤ 4 → 2 ^ bits ≤ 16
few_samples zero h = omega arith
few_samples (suc zero) h = omega arith
few_samples (suc (suc zero)) h = omega arith
few_samples (suc (suc (suc zero))) h = omega arith
few_samples (suc (suc (suc (suc zero)))) h = omega arith
few_samples (suc (suc (suc (suc (suc bits))))) h = absurd (omega (arith, h))

pub small_sums : (bits n : ℕ) (lanes : List ℕ) (f : ℕ → ℕ → ℕ) → bits ≤ 4 → n ≡ 2 ^ bits → AreSums lanes n f → (i : ℕ) → i < 8 → slice_index lanes i ≤ 4096
small_sums bits n lanes f few is h i l = omega (arith, few_samples bits few, is, h.most i l)

-- the mean of a lane
pub lane_mean : (bits half n : ℕ) (lanes means : List ℕ) (f : ℕ → ℕ → ℕ) (i : ℕ) → i < 8 → n ≡ 2 ^ bits → half ≡ 2 ^ bits / 2 → AreSums lanes n f
    → slice_index means i ≡ (slice_index lanes i + half) / 2 ^ bits → slice_index means i ≡ mean_of n (λ s. f s i)
lane_mean bits half n lanes means f i l is is_half h e =
    let halves : half ≡ n / 2 = is_half ∙ ap (λ k. k / 2) (sym is) in
    e ∙ (λ j. (h.each i l j + halves j) / sym is j)

-- the planes of a block are within the tile's
pub planes_within : (tile : Tile) (xs : List BlockSamples) (row column at : ℕ) → length xs ≡ planes_of tile.side tile.count → row < side_of tile.side → column < side_of tile.side / 8 → at ≡ place_of tile (row / 8) column 0
    → at + count_of tile.count ≤ length xs
planes_within tile xs row column at long high wide place =
    let last = within tile (row / 8) column (count_of tile.count - 1) (omega (arith, high, whole_blocks tile.side)) wide (omega (arith, some_samples tile.count)) in
    omega (arith, place, long, last, some_samples tile.count)

pub by_sums : (tile : Tile) (xs : List BlockSamples) (row column i at n : ℕ) (bytes : List ℕ) → i < 8 → length xs ≡ planes_of tile.side tile.count → row < side_of tile.side → column < side_of tile.side / 8
    → at ≡ place_of tile (row / 8) column 0 → n ≡ count_of tile.count → AreMeansAt (take n (drop at xs)) (8 * (row % 8)) bytes
    → IsColourAt tile xs row (8 * column + i) (slice_index bytes (3 * i)) (slice_index bytes (3 * i + 1)) (slice_index bytes (3 * i + 2))
by_sums tile xs row column i at n bytes h long high wide place many means =
    let room : at + n ≤ length xs = omega (arith, many, planes_within tile xs row column at long high wide place) in
    let k : ℕ = 8 * (row % 8) + i in
    let mean = means i h in
    by_mean tile xs row column i h _ _ _
    (mean.0 ∙ mean_moved xs at n tile (row / 8) column (λ b. slice_index b.r k) room place ∙ (λ j. mean_of (many j) (λ s. slice_index (plane_of xs (place_of tile (row / 8) column s)).r k)))
    (mean.1 ∙ mean_moved xs at n tile (row / 8) column (λ b. slice_index b.g k) room place ∙ (λ j. mean_of (many j) (λ s. slice_index (plane_of xs (place_of tile (row / 8) column s)).g k)))
    (mean.2 ∙ mean_moved xs at n tile (row / 8) column (λ b. slice_index b.b k) room place ∙ (λ j. mean_of (many j) (λ s. slice_index (plane_of xs (place_of tile (row / 8) column s)).b k)))
