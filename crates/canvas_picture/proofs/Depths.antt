-- The picture of depths of a canvas that was drawn in batches.
use Rattle.std.proofs.Common.{◌≡◌, ◌∙◌, refl, sym, ap, subst, ℕ, ◌+◌, ◌-◌, ◌*◌, ◌/◌, ◌%◌, ◌<◌, ◌≤◌, List, [], ◌∷◌, length, take, drop, slice_index, length-drop, arith}
use Rattle.std.proofs.lemmas.List.{get_or-drop}
use Rattle.lanes.specs.declared.block_samples.BlockSamples.{BlockSamples}
use Rattle.shade.specs.declared.placed.Placed.{Placed}
use Rattle.shade.proofs.Resolved.{some_samples}
use Rattle.draw_list.specs.declared.output.Output.TheVariants.{Depth}
use Rattle.draw_list.specs.Scene.{Scene}
use Rattle.draw_list.specs.Picture.{IsDepthPixel, PixelOf, IsPixel, IsPicture, pixel_at, output_pixel_bytes}
use Rattle.shade.specs.Canvas.{colour_and_depth}
use Rattle.canvas.specs.declared.canvas.Canvas.{Canvas}
use Rattle.canvas.specs.Layout.{rows_of, stored}
use Rattle.readout.specs.Pixels.{entry_of}
use Rattle.readout.specs.Colours.{AreDepths}
use Rattle.canvas_picture.specs.Batches.{IsCanvasOf, AreListed, AreMade, ArePairsOf}
use Rattle.canvas_picture.proofs.Batched.{has_pixel, sample_end, number_below, in_part}

first_two : (xs : List ℕ) → 2 ≤ length xs → take 2 xs ≡ slice_index xs 0 ∷ slice_index xs 1 ∷ []
first_two [] h = absurd (omega (arith, h))
first_two (a ∷ []) h = absurd (omega (arith, h))
first_two (a ∷ b ∷ xs) h = refl

two_same : (a b a' b' : ℕ) → a ≡ a' → b ≡ b' → ◌≡◌ {A = List ℕ} (a ∷ b ∷ []) (a' ∷ b' ∷ [])
two_same a b a' b' e f = rw (e, f) refl

two_at : (bytes : List ℕ) (n a b : ℕ) → n + 2 ≤ length bytes → slice_index bytes (n + 0) ≡ a → slice_index bytes (n + 1) ≡ b → take 2 (drop n bytes) ≡ a ∷ b ∷ []
two_at bytes n a b room first second =
    first_two (drop n bytes) (omega (arith, room, length-drop n bytes))
    ∙ two_same _ _ a b (get_or-drop n bytes 0 0 ∙ first) (get_or-drop n bytes 1 0 ∙ second)

module _ (l : Scene) (c : Canvas) (batches : List (List Placed)) (samples : List BlockSamples) (of : IsCanvasOf l c) (listed : AreListed l batches) (made : AreMade l c batches samples) (old depths bytes : List ℕ)
    (shows : l.output ≡ Depth) (size : length depths ≡ l.height * l.width) (written : AreDepths c 0 (rows_of c) samples 0 c.width old depths) (pairs : ArePairsOf depths bytes) where
  module _ (i j : ℕ) (wide : i < l.width) (high : j < l.height) where
    abbrev number : ℕ
    number = j * l.width + i

    place : entry_of 0 1 c.width i j + 0 ≡ number
    place =
        let none : j - 64 * 0 ≡ j = omega arith in
        let rows : (j - 64 * 0) * c.width ≡ j * l.width = rw (none, of.width) refl in
        omega (arith, rows)

    depth : slice_index depths number ≡ (stored c 0 samples i j 0).z
    depth = sym (ap (λ n. slice_index depths n) place) ∙ written.pixels i j (has_pixel l c batches samples of listed made i j wide high)

    below : number < length depths
    below = omega (arith, size, number_below l c batches samples of listed made i j wide high)

    depth_pixel : IsDepthPixel l i j (pixel_at Depth number bytes)
    depth_pixel =
        let first : 2 * number + 0 ≡ 2 * number = omega arith in record {
          end = colour_and_depth (stored c 0 samples i j 0);
          is_end = sample_end l c batches samples of listed made i j wide high 0 (some_samples l.count);
          high = slice_index depths number / 256;
          low = slice_index depths number % 256;
          value = sym depth ∙ (let parts : slice_index depths number ≡ 256 * (slice_index depths number / 256) + slice_index depths number % 256 = omega arith in parts);
          is_byte = omega arith;
          order = two_at bytes (2 * number) _ _ (omega (arith, pairs.size, below)) (ap (λ n. slice_index bytes n) first ∙ pairs.high number below) (pairs.low number below);
        }

    pub is_pixel : IsPixel l i j (pixel_at l.output (j * l.width + i) bytes)
    is_pixel = subst (λ o. PixelOf o l i j (pixel_at o (j * l.width + i) bytes)) (sym shows) depth_pixel

  pub is_picture : IsPicture l bytes
  is_picture = record {
    size = (let double : length bytes ≡ 2 * (l.height * l.width) = omega (arith, pairs.size, size) in double ∙ sym (ap (λ o. output_pixel_bytes o * (l.height * l.width)) shows));
    pixels = λ i j wide high. in_part l i j _ (is_pixel i j wide high);
  }
