-- The pixels of a rectangle one run after another.
use Rattle.std.proofs.Common.{◌≡◌, ◌⊎◌, inl, inr, refl, sym, ap, ◌∙◌, ℕ, ◌+◌, ◌-◌, ◌*◌, ◌<◌, ◌≤◌, List, [], ◌++◌, length, take, drop, Result, Ok, Err, OnOk, arith, length-append, length-take, length-drop}
use Rattle.std.proofs.Math.Nat.{mul-le-mul_right}
use Rattle.std.proofs.lemmas.Bool.{cases_lt}
use Rattle.std.proofs.lemmas.Nat.{mul-add-lt, same_from_place}
use Rattle.draw_list.specs.PixelPrefix.{AddsPixel, IsPixelPrefix, IsPixelRun}
use Rattle.draw_list.specs.Scene.{Scene}
use Rattle.draw_list.specs.Picture.{IsPixel, IsPicturePart, output_pixel_bytes, pixel_at}
use Rattle.draw_list.proofs.Pixels.{bytes_of_both, bytes_of_none, bytes_of_one, bytes_of_rows, bytes_up_to, same_pixel, pixel_size, pixel_alone, pixel_before, pixel_behind, pixel_of_part}

pub empty_prefix : (l : Scene) (x y width n : ℕ) → n ≡ 0 → IsPixelPrefix l x y width n []
empty_prefix l x y width n e = record { size = sym (bytes_of_none l.output n e); pixels = λ i j h k. absurd (omega arith) }

-- one pixel is a run
pub run_of_one : (l : Scene) (i j : ℕ) (bytes : List ℕ) → IsPixel l i j bytes → IsPixelRun l i j 1 bytes
run_of_one l i j bytes h =
    let size = pixel_size l i j bytes h in
    record { size = size ∙ sym (bytes_of_one l.output); pixels = λ m below. same_pixel l i j (i + m) j _ _ (omega arith) refl (sym (pixel_alone l.output m bytes (omega arith) size)) h }

module _ (l : Scene) (x y width n i j many : ℕ) (bytes run : List ℕ) (begun : IsPixelPrefix l x y width n bytes) (fits : i + many ≤ width) (place : n ≡ j * width + i) (h : IsPixelRun l (x + i) (y + j) many run) where
  pixel : (i' j' : ℕ) → i' < width → j' * width + i' < n + many → (j' * width + i' < n) ⊎ (n ≤ j' * width + i') → IsPixel l (x + i') (y + j') (pixel_at l.output (j' * width + i') (bytes ++ run))
  pixel i' j' wide below (inl before) =
      same_pixel l (x + i') (y + j') (x + i') (y + j') _ _ refl refl (sym (pixel_before l.output n (j' * width + i') bytes run begun.size before)) (begun.pixels i' j' wide before)
  pixel i' j' wide below (inr behind) =
      let m : ℕ = (j' * width + i') - n in
      let place' : j' * width + i' ≡ j * width + (i + m) = omega arith in
      let same = same_from_place j' i' j (i + m) width wide (omega arith) place' in
      let column : (x + i) + m ≡ x + i' = omega (arith, same.1) in
      let row : y + j ≡ y + j' = ap (λ r. y + r) (sym same.0) in
      same_pixel l ((x + i) + m) (y + j) (x + i') (y + j') _ _ column row (sym (pixel_behind l.output n m (j' * width + i') bytes run begun.size (omega arith))) (h.pixels m (omega arith))

  pub prefix_run : IsPixelPrefix l x y width (n + many) (bytes ++ run)
  prefix_run = record {
    size = omega (arith, length-append bytes run, begun.size, h.size, bytes_of_both l.output n many);
    pixels = λ i' j' wide below. pixel i' j' wide below (cases_lt (j' * width + i') n);
  }

-- if the bytes of a pixel were added, the pixel was
pub adds_pixel : {X E : Type 0} (r : Result X E) (l : Scene) (i j : ℕ) (pixel old new : List ℕ) → IsPixel l i j pixel → OnOk r (new ≡ old ++ pixel) → OnOk r (AddsPixel l i j old new)
adds_pixel (Ok x) l i j pixel old new h behind = record { pixel = pixel; is = h; behind = behind }
adds_pixel (Err e) l i j pixel old new h behind = tt

-- one pixel more
pub prefix_pixel : (l : Scene) (x y width n m i j : ℕ) (old new : List ℕ) → IsPixelPrefix l x y width n old → i < width → n ≡ j * width + i → m ≡ n + 1 → AddsPixel l (x + i) (y + j) old new
    → IsPixelPrefix l x y width m new
prefix_pixel l x y width n m i j old new begun wide place more h =
    rw (more, h.behind) (prefix_run l x y width n i j 1 old h.pixel begun (omega arith) place (run_of_one l (x + i) (y + j) h.pixel h.is))

-- all rows are the rectangle
pub part_of_rows : (l : Scene) (x y width height : ℕ) (bytes : List ℕ) → IsPixelPrefix l x y width (height * width) bytes → IsPicturePart l x y width height bytes
part_of_rows l x y width height bytes begun = record {
  size = begun.size;
  pixels = λ i j wide high. begun.pixels i j wide (omega (arith, mul-add-lt j width i height high wide));
}

-- a row of it is a run
module _ (l : Scene) (x y width height : ℕ) (bytes : List ℕ) (h : IsPicturePart l x y width height bytes) (j : ℕ) (high : j < height) (start across : ℕ) (at : start ≡ j * across) (wide : across ≡ output_pixel_bytes l.output * width) where
  abbrev row : List ℕ
  row = take (start + across - start) (drop start bytes)

  first : start ≡ output_pixel_bytes l.output * (j * width)
  first = at ∙ rw wide (bytes_of_rows l.output j width)

  pub row_within : start + across ≤ length bytes
  row_within =
      let size = h.size in
      let more : (j + 1) * width ≤ height * width = mul-le-mul_right width (let le : j + 1 ≤ height = omega arith in le) in
      let both = bytes_of_both l.output (j * width) width in
      let up = bytes_up_to l.output (j * width + width) (height * width) (omega arith) in
      omega (arith, first)

  pub part_run : IsPixelRun l x (y + j) width row
  part_run =
      let all = row_within in
      let rest : start + across - start ≡ across = omega arith in
      let begin = first in record {
        size = omega (arith, length-take (start + across - start) (drop start bytes), length-drop start bytes);
        pixels = λ m below.
            same_pixel l (x + m) (y + j) (x + m) (y + j) _ _ refl refl
            (sym (ap (λ n. pixel_at l.output m (take n (drop start bytes))) rest ∙ pixel_of_part l.output (j * width) m (j * width + m) width start across bytes begin wide all below refl))
            (h.pixels m j below high);
      }
