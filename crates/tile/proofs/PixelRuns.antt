-- The bytes of eight pixels.
use Rattle.std.proofs.Common.{◌≡◌, inl, inr, refl, sym, ap, ◌∙◌, ℕ, ◌+◌, ◌*◌, ◌/◌, ◌%◌, ◌<◌, ◌≤◌, List, [], ◌∷◌, ◌++◌, length, take, slice_index, slice_index_or, slice_set, get_or-set_same, get_or-set_other, Result, Ok, Err, OnOk, length-take, length-set, arith}
use Rattle.std.proofs.lemmas.Bool.{cases_lt}
use Rattle.lanes.specs.declared.block_samples.BlockSamples.{BlockSamples}
use Rattle.draw_list.specs.PixelPrefix.{IsPixelPrefix, IsPixelRun}
use Rattle.draw_list.specs.Picture.{pixel_at}
use Rattle.draw_list.specs.Scene.{Scene}
use Rattle.draw_list.specs.declared.output.Output.TheVariants.{Color, Depth}
use Rattle.draw_list.proofs.PixelPrefix.{prefix_run}
use Rattle.draw_list.proofs.Pixels.{same_pixel, pixel_of_part, pixel_of_three, pixel_of_two, pixel_of_colour, pixel_of_depth}
use Rattle.raster.specs.declared.tile.Tile.{Tile}
use Rattle.raster.specs.Samples.{place_of}
use Rattle.tiling.specs.Pixels.{AddsPixelRun}
use Rattle.tile.specs.Picture.{stored_sample, IsShown, AreEnds, AreDepthsAt}
use Rattle.raster.specs.Colours.{AreColoursAt}
use Rattle.tile.proofs.Shown.{colour_shown}

-- ---- lists
-- what holds of the first pairs of elements, and of the pair that is set behind them
pub set_two_more : (P : ℕ → ℕ → ℕ → Type 0) (xs : List ℕ) (i x y : ℕ) → 2 * i + 1 < length xs
    → ((k : ℕ) → k < i → P k (slice_index xs (2 * k)) (slice_index xs (2 * k + 1))) → P i x y
    → (k : ℕ) → k < i + 1 → P k (slice_index (slice_set (slice_set xs (2 * i) x) (2 * i + 1) y) (2 * k)) (slice_index (slice_set (slice_set xs (2 * i) x) (2 * i + 1) y) (2 * k + 1))
set_two_more P xs i x y below begun here k h =
    let first : List ℕ = slice_set xs (2 * i) x in
    let long : length first ≡ length xs = length-set xs (2 * i) x in
    elim (cases_lt k i) [
      | inl less ↦
          rw (
            get_or-set_other first (2 * i + 1) (2 * k) y 0 (λ e. omega (arith, e)),
            get_or-set_other xs (2 * i) (2 * k) x 0 (λ e. omega (arith, e)),
            get_or-set_other first (2 * i + 1) (2 * k + 1) y 0 (λ e. omega (arith, e)),
            get_or-set_other xs (2 * i) (2 * k + 1) x 0 (λ e. omega (arith, e)),
          ) (begun k less)
      | inr more ↦
          let same : k ≡ i = omega arith in
          rw (
            same,
            get_or-set_other first (2 * i + 1) (2 * i) y 0 (λ e. omega (arith, e)),
            get_or-set_same xs (2 * i) x 0 (omega (arith, below)),
            get_or-set_same first (2 * i + 1) y 0 (omega (arith, long, below)),
          ) here
    ]

-- ---- eight samples in a row of a block
module _ (tile : Tile) (samples : List BlockSamples) (row column : ℕ) where
  abbrev plane : ℕ → BlockSamples
  plane s = slice_index_or samples (place_of tile (row / 8) column s) (record { z = []; r = []; g = []; b = []; alpha = [] })

  module _ (i : ℕ) (h : i < 8) where
    abbrev k : ℕ
    k = 8 * (row % 8) + i

    block : (8 * column + i) / 8 ≡ column
    block = omega arith

    pixel : (8 * column + i) % 8 ≡ i
    pixel = omega arith

    pub depth_in : (high low : ℕ) → high ≡ slice_index (plane 0).z k / 256 → low ≡ slice_index (plane 0).z k % 256
        → (high ≡ (stored_sample tile samples row (8 * column + i) 0).z / 256) × (low ≡ (stored_sample tile samples row (8 * column + i) 0).z % 256)
    depth_in high low e f = rw (block, pixel) (e, f)

-- ---- runs of pixels
pub adds_run : {X E : Type 0} (r : Result X E) (l : Scene) (i j many : ℕ) (run old new : List ℕ) → IsPixelRun l i j many run → OnOk r (new ≡ old ++ run) → OnOk r (AddsPixelRun l i j many old new)
adds_run (Ok x) l i j many run old new h behind = record { run = run; is = h; behind = behind }
adds_run (Err e) l i j many run old new h behind = tt

pub prefix_more : (l : Scene) (x y width n m i j many : ℕ) (old new : List ℕ) → IsPixelPrefix l x y width n old → i + many ≤ width → n ≡ j * width + i → m ≡ n + many → AddsPixelRun l (x + i) (y + j) many old new
    → IsPixelPrefix l x y width m new
prefix_more l x y width n m i j many old new begun fits place more h = rw (more, h.behind) (prefix_run l x y width n i j many old h.run begun fits place h.is)

module _ (l : Scene) (tile : Tile) (samples : List BlockSamples) (row column many : ℕ) (ends : AreEnds l tile samples) (count : tile.count ≡ l.count) (few : many ≤ 8)
    (shown : (i : ℕ) → i < many → IsShown l tile row (8 * column + i) 0) (bytes : List ℕ) where
  across : (i : ℕ) → 8 * tile.bx + (8 * column + i) ≡ 8 * tile.bx + 8 * column + i
  across i = omega arith

  pub run_of_colours : l.output ≡ Color → 24 ≤ length bytes → AreColoursAt tile samples row column bytes → IsPixelRun l (8 * tile.bx + 8 * column) (8 * tile.by + row) many (take (3 * many) bytes)
  run_of_colours e long colours = record {
    size = rw e (omega (arith, length-take (3 * many) bytes));
    pixels = λ i below.
        let here : pixel_at Color i (take (3 * many) bytes) ≡ slice_index bytes (3 * i) ∷ slice_index bytes (3 * i + 1) ∷ slice_index bytes (3 * i + 2) ∷ [] =
        pixel_of_part Color 0 i i many 0 (3 * many) bytes refl refl (omega arith) below (omega arith) ∙ pixel_of_three i bytes (omega arith) in
        same_pixel l (8 * tile.bx + (8 * column + i)) (8 * tile.by + row) _ _ _ _ (across i) refl (sym (ap (λ o. pixel_at o i (take (3 * many) bytes)) e ∙ here))
        (pixel_of_colour l (8 * tile.bx + (8 * column + i)) (8 * tile.by + row) _ _ _ e (colour_shown l tile samples row (8 * column + i) _ _ _ ends count (shown i below) (colours i (omega arith))));
  }

  pub run_of_depths : l.output ≡ Depth → 16 ≤ length bytes → AreDepthsAt tile samples row column bytes → IsPixelRun l (8 * tile.bx + 8 * column) (8 * tile.by + row) many (take (2 * many) bytes)
  run_of_depths e long depths = record {
    size = rw e (omega (arith, length-take (2 * many) bytes));
    pixels = λ i below.
        let depth = depths i (omega arith) in
        let here : pixel_at Depth i (take (2 * many) bytes) ≡ (stored_sample tile samples row (8 * column + i) 0).z / 256 ∷ (stored_sample tile samples row (8 * column + i) 0).z % 256 ∷ [] =
        pixel_of_part Depth 0 i i many 0 (2 * many) bytes refl refl (omega arith) below (omega arith) ∙ pixel_of_two i bytes (omega arith)
        ∙ ap (λ high. high ∷ slice_index bytes (2 * i + 1) ∷ []) depth.0 ∙ ap (λ low. (stored_sample tile samples row (8 * column + i) 0).z / 256 ∷ low ∷ []) depth.1 in
        same_pixel l (8 * tile.bx + (8 * column + i)) (8 * tile.by + row) _ _ _ _ (across i) refl (sym (ap (λ o. pixel_at o i (take (2 * many) bytes)) e ∙ here))
        (pixel_of_depth l (8 * tile.bx + (8 * column + i)) (8 * tile.by + row) _ e (ends row (8 * column + i) 0 (shown i below)));
  }
