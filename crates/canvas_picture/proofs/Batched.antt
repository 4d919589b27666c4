-- What batches make of the samples of a canvas, and where its pixels stand.
use Rattle.std.proofs.Common.{◌≡◌, ap, subst, ℕ, ◌+◌, ◌*◌, ◌<◌, ◌≤◌, List, [], ◌∷◌, arith}
use Rattle.std.proofs.Math.Nat.{mul-le-mul_right}
use Rattle.grid.specs.Samples.{count_of}
use Rattle.lanes.specs.declared.block_samples.BlockSamples.{BlockSamples}
use Rattle.shade.specs.declared.placed.Placed.{Placed}
use Rattle.shade.specs.Ending.{Ends}
use Rattle.shade.specs.Canvas.{with_alpha, colour_and_depth, CanvasEnds}
use Rattle.shade.proofs.CanvasDrawn.{keeping_ends}
use Rattle.shade.proofs.Endings.{of_canvas, ends-append}
use Rattle.draw_list.specs.Scene.{Scene}
use Rattle.draw_list.specs.Picture.{IsEnd, IsPixel}
use Rattle.canvas.specs.declared.canvas.Canvas.{Canvas}
use Rattle.canvas.specs.Layout.{IsStoredIn, HasPixel, rows_of, stored}
use Rattle.canvas_picture.specs.Batches.{IsCanvasOf, all_of, AreListed, AreDrawnInTurn, AreMade}

batches_end : (c : Canvas) (batches : List (List Placed)) (old new : List BlockSamples) → AreDrawnInTurn c batches old new → (i j s : ℕ) → IsStoredIn c 0 (rows_of c) i j s
    → CanvasEnds (all_of batches) c.count i j s (stored c 0 old i j s) (stored c 0 new i j s)
batches_end c [] old new same i j s h = ap (λ samples. stored c 0 samples i j s) same
batches_end c (ts ∷ batches) old new d i j s h =
    ends-append (of_canvas c.count i j s) ts (all_of batches) (stored c 0 old i j s) (stored c 0 d.0 i j s) (stored c 0 new i j s) (d.1 i j s h) (batches_end c batches d.0 new d.2 i j s h)

module _ (l : Scene) (c : Canvas) (batches : List (List Placed)) (samples : List BlockSamples) (of : IsCanvasOf l c) (listed : AreListed l batches) (made : AreMade l c batches samples) (i j : ℕ) (wide : i < l.width) (high : j < l.height) where
  pub has_pixel : HasPixel c 0 (rows_of c) i j
  has_pixel = record { column = omega (arith, wide, of.width); row = omega (arith, high, of.height); from = omega arith; below = omega (arith, high, of.height) }

  has_sample : (s : ℕ) → s < count_of l.count → IsStoredIn c 0 (rows_of c) i j s
  has_sample s small = record { column = omega (arith, wide, of.width); from = omega arith; below = omega (arith, high, of.height); is_sample = rw of.count small }

  pub sample_end : (s : ℕ) → s < count_of l.count → IsEnd l i j s (colour_and_depth (stored c 0 samples i j s))
  sample_end s small =
      let h : IsStoredIn c 0 (rows_of c) i j s = has_sample s small in
      let ends : CanvasEnds (all_of batches) c.count i j s (stored c 0 made.cleared i j s) (stored c 0 samples i j s) = batches_end c batches made.cleared samples made.drawn i j s h in
      subst (λ n. Ends l.triangles n i j s l.clear (colour_and_depth (stored c 0 samples i j s))) of.count
      (keeping_ends l.triangles c.count i j s l.clear (stored c 0 samples i j s)
      (subst (λ ts. CanvasEnds ts c.count i j s (with_alpha l.clear 255) (stored c 0 samples i j s)) listed
      (subst (λ x. CanvasEnds (all_of batches) c.count i j s x (stored c 0 samples i j s)) (made.is_cleared i j s h) ends)))

  -- the pixel's number is below that of all pixels
  pub number_below : j * l.width + i + 1 ≤ l.height * l.width
  number_below =
      let rows : (j + 1) * l.width ≤ l.height * l.width = mul-le-mul_right l.width (let next : j + 1 ≤ l.height = omega (arith, high) in next) in
      omega (arith, rows, wide)

-- pixel (i, j) of the part whose upper left pixel is (0, 0)
pub in_part : (l : Scene) (i j : ℕ) (bytes : List ℕ) → IsPixel l i j bytes → IsPixel l (0 + i) (0 + j) bytes
in_part l i j bytes h =
    let across : i ≡ 0 + i = omega arith in
    let down : j ≡ 0 + j = omega arith in
    subst (λ x. IsPixel l x (0 + j) bytes) across (subst (λ y. IsPixel l i y bytes) down h)
