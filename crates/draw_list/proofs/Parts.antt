-- Parts of a picture, one below the other.
use Rattle.std.proofs.Common.{◌≡◌, refl, sym, ap, ◌∙◌, ◌⊎◌, inl, inr, ℕ, ◌+◌, ◌-◌, ◌*◌, ◌<◌, ◌≤◌, List, ◌++◌, arith, length-append}
use Rattle.std.proofs.Math.Nat.{add-mul}
use Rattle.std.proofs.lemmas.Bool.{cases_lt}
use Rattle.std.proofs.lemmas.Nat.{mul-add-lt}
use Rattle.draw_list.specs.Scene.{Scene}
use Rattle.draw_list.specs.Picture.{IsPixel, IsPicturePart, output_pixel_bytes, pixel_at}
use Rattle.draw_list.proofs.Pixels.{bytes_of_both, same_pixel, pixel_before, pixel_behind}

module _ (l : Scene) (x y width upper lower : ℕ) (a b : List ℕ) (h : IsPicturePart l x y width upper a) (k : IsPicturePart l x (y + upper) width lower b) where
  pixel : (i j : ℕ) → i < width → j < upper + lower → (j < upper) ⊎ (upper ≤ j) → IsPixel l (x + i) (y + j) (pixel_at l.output (j * width + i) (a ++ b))
  pixel i j wide high (inl above) =
      let within : j * width + i < upper * width = omega (arith, mul-add-lt j width i upper above wide) in
      same_pixel l (x + i) (y + j) (x + i) (y + j) _ _ refl refl (sym (pixel_before l.output (upper * width) (j * width + i) a b h.size within)) (h.pixels i j wide above)
  pixel i j wide high (inr below) =
      let row : ℕ = j - upper in
      let rows : upper + row ≡ j = omega arith in
      let places : j * width ≡ upper * width + row * width = ap (λ n. n * width) (sym rows) ∙ add-mul upper row width in
      let place : j * width + i ≡ upper * width + (row * width + i) = omega arith in
      let down : (y + upper) + row ≡ y + j = omega arith in
      same_pixel l (x + i) ((y + upper) + row) (x + i) (y + j) _ _ refl down (sym (pixel_behind l.output (upper * width) (row * width + i) (j * width + i) a b h.size place)) (k.pixels i row wide (omega arith))

  pub part-append : IsPicturePart l x y width (upper + lower) (a ++ b)
  part-append = record {
    size = omega (arith, length-append a b, h.size, k.size, bytes_of_both l.output (upper * width) (lower * width), ap (λ n. output_pixel_bytes l.output * n) (add-mul upper lower width));
    pixels = λ i j wide high. pixel i j wide high (cases_lt j upper);
  }
