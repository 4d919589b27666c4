-- The bytes of one pixel among those of pixels one after another.
use Rattle.std.proofs.Common.{◌≡◌, refl, sym, ap, ap₂, ◌∙◌, subst, ℕ, zero, suc, ◌+◌, ◌*◌, ◌/◌, ◌%◌, ◌<◌, ◌≤◌, List, [], ◌∷◌, ◌++◌, length, take, drop, slice_index, arith, take-append-drop, length-take, length-drop, drop-cons, drop-drop}
use Rattle.std.specs.Int.{w16, to_be_bytes}
use Rattle.std.proofs.Math.Nat.{mul_assoc, mul_comm}
use Rattle.std.proofs.Math.Seq.{drop-append-add}
use Rattle.std.proofs.lemmas.List.{take_all, take-append-le, drop-append-le, nil_from_length}
use Rattle.shade.specs.declared.sample.Sample.{Sample}
use Rattle.draw_list.specs.declared.output.Output.{Output}
use Rattle.draw_list.specs.declared.output.Output.TheVariants.{Color, Depth}
use Rattle.draw_list.specs.Scene.{Scene}
use Rattle.draw_list.specs.Picture.{IsEnd, IsColour, IsPixel, PixelOf, output_pixel_bytes, pixel_at}

-- ---- how many bytes pixels have

pub bytes_of_both : (o : Output) (n m : ℕ) → output_pixel_bytes o * (n + m) ≡ output_pixel_bytes o * n + output_pixel_bytes o * m
bytes_of_both Color n m = omega arith
bytes_of_both Depth n m = omega arith

pub bytes_within : (o : Output) (k n : ℕ) → k < n → output_pixel_bytes o * k + output_pixel_bytes o ≤ output_pixel_bytes o * n
bytes_within Color k n h = omega arith
bytes_within Depth k n h = omega arith

pub bytes_up_to : (o : Output) (n m : ℕ) → n ≤ m → output_pixel_bytes o * n ≤ output_pixel_bytes o * m
bytes_up_to Color n m h = omega arith
bytes_up_to Depth n m h = omega arith

pub bytes_of_rows : (o : Output) (n width : ℕ) → n * (output_pixel_bytes o * width) ≡ output_pixel_bytes o * (n * width)
bytes_of_rows o n width = sym (mul_assoc n (output_pixel_bytes o) width) ∙ ap (λ m. m * width) (mul_comm n (output_pixel_bytes o)) ∙ mul_assoc (output_pixel_bytes o) n width

pub bytes_of_none : (o : Output) (n : ℕ) → n ≡ 0 → output_pixel_bytes o * n ≡ 0
bytes_of_none Color n e = omega arith
bytes_of_none Depth n e = omega arith

pub bytes_of_one : (o : Output) → output_pixel_bytes o * 1 ≡ output_pixel_bytes o
bytes_of_one Color = refl
bytes_of_one Depth = refl

-- ---- one pixel

pub same_pixel : (l : Scene) (i j i' j' : ℕ) (a b : List ℕ) → i ≡ i' → j ≡ j' → a ≡ b → IsPixel l i j a → IsPixel l i' j' b
same_pixel l i j i' j' a b ei ej e h = rw (← ei, ← ej, ← e) h

size_of_pixel : (o : Output) (l : Scene) (i j : ℕ) (bytes : List ℕ) → PixelOf o l i j bytes → length bytes ≡ output_pixel_bytes o
size_of_pixel Color l i j bytes h = ap length h.order
size_of_pixel Depth l i j bytes h = ap length h.order

pub pixel_size : (l : Scene) (i j : ℕ) (bytes : List ℕ) → IsPixel l i j bytes → length bytes ≡ output_pixel_bytes l.output
pixel_size l i j bytes h = size_of_pixel l.output l i j bytes h

pub pixel_of_colour : (l : Scene) (i j r g b : ℕ) → l.output ≡ Color → IsColour l i j r g b → IsPixel l i j (r ∷ g ∷ b ∷ [])
pixel_of_colour l i j r g b e h =
    subst (λ o. PixelOf o l i j (r ∷ g ∷ b ∷ [])) (sym e) (record { red = r; green = g; blue = b; colour = h; order = refl })

pub pixel_of_depth : (l : Scene) (i j : ℕ) (end : Sample) → l.output ≡ Depth → IsEnd l i j 0 end → IsPixel l i j (end.z / 256 ∷ end.z % 256 ∷ [])
pixel_of_depth l i j end e h =
    let z : ℕ = end.z in
    subst (λ o. PixelOf o l i j (z / 256 ∷ z % 256 ∷ [])) (sym e)
    (record { end = end; is_end = h; high = z / 256; low = z % 256; value = omega arith; is_byte = omega arith; order = refl })

-- the bytes of a depth in the order of `to_be_bytes`
pub depth_bytes : (z : ℕ) → z < 65536 → to_be_bytes w16 z ≡ z / 256 ∷ z % 256 ∷ []
depth_bytes z small =
    let high : z / 256 % 256 ≡ z / 256 = omega arith in
    ap (λ n. n ∷ z % 256 ∷ []) high

-- ---- a pixel among others

pub pixel_alone : (o : Output) (m : ℕ) (bytes : List ℕ) → m ≡ 0 → length bytes ≡ output_pixel_bytes o → pixel_at o m bytes ≡ bytes
pixel_alone o m bytes e size = rw (bytes_of_none o m e) (take_all (output_pixel_bytes o) bytes (omega arith))

-- a pixel of the n pixels before others
pub pixel_before : (o : Output) (n k : ℕ) (a b : List ℕ) → length a ≡ output_pixel_bytes o * n → k < n → pixel_at o k (a ++ b) ≡ pixel_at o k a
pixel_before o n k a b size below =
    let within = bytes_within o k n below in
    ap (take (output_pixel_bytes o)) (drop-append-le (output_pixel_bytes o * k) a b (omega arith))
    ∙ take-append-le (output_pixel_bytes o) (drop (output_pixel_bytes o * k) a) b (omega (arith, length-drop (output_pixel_bytes o * k) a))

-- a pixel behind n others
pub pixel_behind : (o : Output) (n k m : ℕ) (a b : List ℕ) → length a ≡ output_pixel_bytes o * n → m ≡ n + k → pixel_at o m (a ++ b) ≡ pixel_at o k b
pixel_behind o n k m a b size e =
    let place : output_pixel_bytes o * m ≡ length a + output_pixel_bytes o * k = ap (λ p. output_pixel_bytes o * p) e ∙ bytes_of_both o n k ∙ ap (λ p. p + output_pixel_bytes o * k) (sym size) in
    ap (λ p. take (output_pixel_bytes o) (drop p (a ++ b))) place ∙ ap (take (output_pixel_bytes o)) (drop-append-add a b (output_pixel_bytes o * k))

-- a pixel of a part of pixels, from pixel `first` on
pub pixel_of_part : (o : Output) (first k m many start across : ℕ) (all : List ℕ) → start ≡ output_pixel_bytes o * first → across ≡ output_pixel_bytes o * many → start + across ≤ length all → k < many → m ≡ first + k
    → pixel_at o k (take across (drop start all)) ≡ pixel_at o m all
pixel_of_part o first k m many start across all at wide within below e =
    let part : List ℕ = take across (drop start all) in
    let rest : List ℕ = drop across (drop start all) in
    let size : length part ≡ output_pixel_bytes o * many = omega (arith, length-take across (drop start all), length-drop start all) in
    let front : length (take start all) ≡ output_pixel_bytes o * first = omega (arith, length-take start all) in
    sym (pixel_before o many k part rest size below) ∙ ap (pixel_at o k) (take-append-drop across (drop start all))
    ∙ sym (pixel_behind o first k m (take start all) (drop start all) front e) ∙ ap (pixel_at o m) (take-append-drop start all)

-- the bytes of a pixel of colours, and of a pixel of depths, by their places
from_byte : (k m : ℕ) (bytes : List ℕ) → m ≡ k + 1 → k < length bytes → drop k bytes ≡ slice_index bytes k ∷ drop m bytes
from_byte k m bytes e h = drop-cons bytes k 0 h ∙ ap (λ (n : ℕ). slice_index bytes k ∷ drop n bytes) (let next : suc k ≡ m = omega arith in next)

pub pixel_of_three : (n : ℕ) (bytes : List ℕ) → 3 * n + 3 ≤ length bytes → pixel_at Color n bytes ≡ slice_index bytes (3 * n) ∷ slice_index bytes (3 * n + 1) ∷ slice_index bytes (3 * n + 2) ∷ []
pixel_of_three n bytes h =
    let first = from_byte (3 * n) (3 * n + 1) bytes (omega arith) (omega arith) in
    let second = from_byte (3 * n + 1) (3 * n + 2) bytes (omega arith) (omega arith) in
    let third = from_byte (3 * n + 2) (3 * n + 3) bytes (omega arith) (omega arith) in
    rw (first, second, third) refl

pub pixel_of_two : (n : ℕ) (bytes : List ℕ) → 2 * n + 2 ≤ length bytes → pixel_at Depth n bytes ≡ slice_index bytes (2 * n) ∷ slice_index bytes (2 * n + 1) ∷ []
pixel_of_two n bytes h =
    let first = from_byte (2 * n) (2 * n + 1) bytes (omega arith) (omega arith) in
    let second = from_byte (2 * n + 1) (2 * n + 2) bytes (omega arith) (omega arith) in
    rw (first, second) refl

-- the pixels give all bytes
pub same_pixels : (o : Output) (n : ℕ) (a b : List ℕ) → length a ≡ output_pixel_bytes o * n → length b ≡ output_pixel_bytes o * n → ((k : ℕ) → k < n → pixel_at o k a ≡ pixel_at o k b) → a ≡ b
same_pixels o zero a b size size' same =
    let none = bytes_of_none o 0 refl in
    nil_from_length a (omega arith) ∙ sym (nil_from_length b (omega arith))
same_pixels o (suc n) a b size size' same =
    let w : ℕ = output_pixel_bytes o in
    let none = bytes_of_none o 0 refl in
    let one = bytes_of_one o in
    let both = bytes_of_both o 1 n in
    let first : take w a ≡ take w b = rw none at (same 0 (omega arith)) in
    let more : (k : ℕ) → pixel_at o k (drop w a) ≡ pixel_at o (1 + k) a = λ k. ap (take w) (drop-drop (w * k) w a ∙ ap (λ p. drop p a) (ap (λ p. p + w * k) (sym one) ∙ sym (bytes_of_both o 1 k))) in
    let more' : (k : ℕ) → pixel_at o k (drop w b) ≡ pixel_at o (1 + k) b = λ k. ap (take w) (drop-drop (w * k) w b ∙ ap (λ p. drop p b) (ap (λ p. p + w * k) (sym one) ∙ sym (bytes_of_both o 1 k))) in
    let rest : drop w a ≡ drop w b = same_pixels o n (drop w a) (drop w b) (omega (arith, length-drop w a)) (omega (arith, length-drop w b)) (λ k below. more k ∙ same (1 + k) (omega arith) ∙ sym (more' k)) in
    sym (take-append-drop w a) ∙ ap₂ ◌++◌ first rest ∙ take-append-drop w b
