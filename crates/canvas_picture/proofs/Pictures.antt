-- The picture of colours of a canvas that was drawn in batches.
use Rattle.std.proofs.Common.{◌≡◌, ◌∙◌, refl, sym, ap, subst, ℕ, ◌+◌, ◌-◌, ◌*◌, ◌<◌, ◌≤◌, List, [], ◌∷◌, length, take, drop, slice_index, length-drop, arith}
use Rattle.std.proofs.lemmas.List.{get_or-drop}
use Rattle.lanes.specs.declared.block_samples.BlockSamples.{BlockSamples}
use Rattle.shade.specs.declared.placed.Placed.{Placed}
use Rattle.shade.specs.Resolve.{IsResolved}
use Rattle.draw_list.specs.declared.output.Output.TheVariants.{Color}
use Rattle.draw_list.specs.Scene.{Scene}
use Rattle.draw_list.specs.Picture.{IsColour, IsColourPixel, PixelOf, IsPixel, IsPicture, pixel_at, output_pixel_bytes}
use Rattle.shade.specs.Canvas.{colour_and_depth}
use Rattle.canvas.specs.declared.canvas.Canvas.{Canvas}
use Rattle.readout.specs.declared.format.Format.TheVariants.{Rgb8}
use Rattle.canvas.specs.Layout.{rows_of, stored}
use Rattle.readout.specs.Pixels.{entry_of}
use Rattle.readout.specs.Colours.{IsPixelOf, AreResolved}
use Rattle.canvas_picture.specs.Batches.{IsCanvasOf, AreListed, AreMade}
use Rattle.canvas_picture.proofs.Batched.{has_pixel, sample_end, number_below, in_part}

first_three : (xs : List ℕ) → 3 ≤ length xs → take 3 xs ≡ slice_index xs 0 ∷ slice_index xs 1 ∷ slice_index xs 2 ∷ []
first_three [] h = absurd (omega (arith, h))
first_three (a ∷ []) h = absurd (omega (arith, h))
first_three (a ∷ b ∷ []) h = absurd (omega (arith, h))
first_three (a ∷ b ∷ c ∷ xs) h = refl

three_same : (a b c a' b' c' : ℕ) → a ≡ a' → b ≡ b' → c ≡ c' → ◌≡◌ {A = List ℕ} (a ∷ b ∷ c ∷ []) (a' ∷ b' ∷ c' ∷ [])
three_same a b c a' b' c' e f g = rw (e, f, g) refl

three_at : (bytes : List ℕ) (n r g b : ℕ) → n + 3 ≤ length bytes → slice_index bytes (n + 0) ≡ r → slice_index bytes (n + 1) ≡ g → slice_index bytes (n + 2) ≡ b → take 3 (drop n bytes) ≡ r ∷ g ∷ b ∷ []
three_at bytes n r g b room red green blue =
    first_three (drop n bytes) (omega (arith, room, length-drop n bytes))
    ∙ three_same _ _ _ r g b (get_or-drop n bytes 0 0 ∙ red) (get_or-drop n bytes 1 0 ∙ green) (get_or-drop n bytes 2 0 ∙ blue)

module _ (l : Scene) (c : Canvas) (batches : List (List Placed)) (samples : List BlockSamples) (of : IsCanvasOf l c) (listed : AreListed l batches) (made : AreMade l c batches samples) (old bytes : List ℕ)
    (shows : l.output ≡ Color) (size : length bytes ≡ 3 * (l.height * l.width)) (resolved : AreResolved c 0 (rows_of c) samples Rgb8 (3 * c.width) old bytes) where
  module _ (i j : ℕ) (wide : i < l.width) (high : j < l.height) where
    pixel : IsPixelOf c 0 samples Rgb8 i j (λ k. slice_index bytes (entry_of 0 3 (3 * c.width) i j + k))
    pixel = resolved.pixels i j (has_pixel l c batches samples of listed made i j wide high)

    colour : IsColour l i j pixel.r pixel.g pixel.b
    colour = record {
      end = λ s. colour_and_depth (stored c 0 samples i j s);
      ends = λ s small. sample_end l c batches samples of listed made i j wide high s small;
      red = subst (λ n. IsResolved n (λ s. (stored c 0 samples i j s).r) pixel.r) of.count pixel.colour.red;
      green = subst (λ n. IsResolved n (λ s. (stored c 0 samples i j s).g) pixel.g) of.count pixel.colour.green;
      blue = subst (λ n. IsResolved n (λ s. (stored c 0 samples i j s).b) pixel.b) of.count pixel.colour.blue;
    }

    place : entry_of 0 3 (3 * c.width) i j ≡ 3 * (j * l.width + i)
    place =
        let none : j - 64 * 0 ≡ j = omega arith in
        let rows : (j - 64 * 0) * (3 * c.width) ≡ j * (3 * l.width) = rw (none, of.width) refl in
        omega (arith, rows)

    byte : (k v : ℕ) → slice_index bytes (entry_of 0 3 (3 * c.width) i j + k) ≡ v → slice_index bytes (3 * (j * l.width + i) + k) ≡ v
    byte k v is = sym (ap (λ n. slice_index bytes (n + k)) place) ∙ is

    colour_pixel : IsColourPixel l i j (pixel_at Color (j * l.width + i) bytes)
    colour_pixel = record {
      red = pixel.r;
      green = pixel.g;
      blue = pixel.b;
      colour = colour;
      order = three_at bytes (3 * (j * l.width + i)) pixel.r pixel.g pixel.b (omega (arith, size, number_below l c batches samples of listed made i j wide high))
          (byte 0 pixel.r (pixel.order 0 (omega arith))) (byte 1 pixel.g (pixel.order 1 (omega arith))) (byte 2 pixel.b (pixel.order 2 (omega arith)));
    }

    pub is_pixel : IsPixel l i j (pixel_at l.output (j * l.width + i) bytes)
    is_pixel = subst (λ o. PixelOf o l i j (pixel_at o (j * l.width + i) bytes)) (sym shows) colour_pixel

  pub is_picture : IsPicture l bytes
  is_picture = record {
    size = size ∙ sym (ap (λ o. output_pixel_bytes o * (l.height * l.width)) shows);
    pixels = λ i j wide high. in_part l i j _ (is_pixel i j wide high);
  }
