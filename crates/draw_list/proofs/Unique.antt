-- A draw list has exactly one picture.
use Rattle.std.proofs.Common.{◌≡◌, refl, sym, ap, ◌∙◌, subst, ℕ, zero, suc, ◌+◌, ◌*◌, ◌/◌, ◌%◌, ◌<◌, List, [], ◌∷◌, arith}
use Rattle.std.proofs.Math.Nat.{mod-lt, div-lt_iff_lt-mul, div-add-mod'}
use Rattle.grid.specs.Samples.{count_of}
use Rattle.shade.specs.declared.sample.Sample.{Sample}
use Rattle.draw_list.specs.Scene.{Scene}
use Rattle.draw_list.specs.declared.output.Output.{Output}
use Rattle.draw_list.specs.declared.output.Output.TheVariants.{Color, Depth}
use Rattle.draw_list.specs.Picture.{IsEnd, IsColour, IsPixel, PixelOf, IsPicturePart, pixel_at}
use Rattle.draw_list.proofs.Pixels.{same_pixels}
use Rattle.shade.proofs.Endings.{of_list, ends-unique}
use Rattle.shade.proofs.Resolved.{resolved-unique}

pub end-unique : (l : Scene) (i j s : ℕ) (x y : Sample) → IsEnd l i j s x → IsEnd l i j s y → x ≡ y
end-unique l i j s x y h k = ends-unique (of_list l.count i j s) l.triangles l.clear x y h k

colour-unique : (l : Scene) (i j r g b r' g' b' : ℕ) → IsColour l i j r g b → IsColour l i j r' g' b' → (r ≡ r') × (g ≡ g') × (b ≡ b')
colour-unique l i j r g b r' g' b' h k =
    let same : (s : ℕ) → s < count_of l.count → h.end s ≡ k.end s = λ s below. end-unique l i j s _ _ (h.ends s below) (k.ends s below) in (
      resolved-unique l.count _ _ r r' (λ s below. ap (λ (x : Sample). x.r) (same s below)) h.red k.red,
      resolved-unique l.count _ _ g g' (λ s below. ap (λ (x : Sample). x.g) (same s below)) h.green k.green,
      resolved-unique l.count _ _ b b' (λ s below. ap (λ (x : Sample). x.b) (same s below)) h.blue k.blue,
    )

same_three : (r g b r' g' b' : ℕ) → (r ≡ r') × (g ≡ g') × (b ≡ b') → r ∷ g ∷ b ∷ [] ≡ r' ∷ g' ∷ b' ∷ []
same_three r g b r' g' b' e = rw (e.0, e.1, e.2) refl

same_two : (high low high' low' z z' : ℕ) → z ≡ z' → z ≡ 256 * high + low → z' ≡ 256 * high' + low' → low < 256 → low' < 256 → high ∷ low ∷ [] ≡ high' ∷ low' ∷ []
same_two high low high' low' z z' e h k b b' =
    let first : high ≡ high' = omega arith in
    let second : low ≡ low' = omega arith in
    rw (first, second) refl

unique_of : (o : Output) (l : Scene) (i j : ℕ) (a b : List ℕ) → PixelOf o l i j a → PixelOf o l i j b → a ≡ b
unique_of Color l i j a b h k =
    h.order ∙ same_three _ _ _ _ _ _ (colour-unique l i j _ _ _ _ _ _ h.colour k.colour) ∙ sym k.order
unique_of Depth l i j a b h k =
    let same : h.end.z ≡ k.end.z = ap (λ (x : Sample). x.z) (end-unique l i j 0 _ _ h.is_end k.is_end) in
    h.order ∙ same_two _ _ _ _ _ _ same h.value k.value h.is_byte k.is_byte ∙ sym k.order

pub pixel-unique : (l : Scene) (i j : ℕ) (a b : List ℕ) → IsPixel l i j a → IsPixel l i j b → a ≡ b
pixel-unique l i j a b h k = unique_of l.output l i j a b h k

-- pixel p of rows of this width
record IsPlace (p width height : ℕ) : Type 0 where
  pub column : p % width < width
  pub row : p / width < height
  pub place : p / width * width + p % width ≡ p

place_of : (p width height : ℕ) → p < height * width → IsPlace p width height
place_of p zero height h = absurd (omega arith)
place_of p (suc n) height h =
    let wide : 0 < suc n = omega arith in
    record { column = mod-lt p wide; row = (div-lt_iff_lt-mul wide).1 h; place = div-add-mod' p (suc n) }

module _ (l : Scene) (x y width height : ℕ) (bytes other : List ℕ) (h : IsPicturePart l x y width height bytes) (k : IsPicturePart l x y width height other) where
  pixel : (p : ℕ) → p < height * width → pixel_at l.output p bytes ≡ pixel_at l.output p other
  pixel p below =
      let place = place_of p width height below in
      let i : ℕ = p % width in
      let j : ℕ = p / width in
      subst (λ n. pixel_at l.output n bytes ≡ pixel_at l.output n other) place.place (pixel-unique l (x + i) (y + j) _ _ (h.pixels i j place.column place.row) (k.pixels i j place.column place.row))

  pub part-unique : bytes ≡ other
  part-unique = same_pixels l.output (height * width) bytes other h.size k.size pixel
