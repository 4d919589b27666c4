-- Lanes of eight pixels.
use Rattle.std.proofs.Common.{◌≡◌, refl, suc, ℕ, ◌+◌, ◌*◌, ◌/◌, ◌%◌, ◌^◌, ◌<◌, ◌≤◌, List, length, get_or, replicate, sym, subst, ◌∙◌, arith, w8, Fits}
use Rattle.std.specs.Simd.Lanes.{zip2, chunk}
use Rattle.std.proofs.lemmas.Simd.{length-chunk, get_or-chunk, length-zip2, get_or-zip2, get_or-replicate, length-replicate}
use Rattle.std.proofs.lemmas.Nat.{div_below, pow_pos}
use Rattle.shade.specs.Resolve.{total}
use Rattle.lanes.specs.Sums.{AreSums}

-- eight lanes
pub record IsRow (v : List ℕ) (f : ℕ → ℕ) : Type 0 where
  pub long : length v ≡ 8
  pub each : (k : ℕ) → k < 8 → get_or v k 0 ≡ f k

pub zipped : (g : ℕ → ℕ → ℕ) (xs ys : List ℕ) (f h : ℕ → ℕ) → IsRow xs f → IsRow ys h → IsRow (zip2 g xs ys) (λ k. g (f k) (h k))
zipped g xs ys f h a b =
    let p = a.long in
    let q = b.long in
    record {
      long = length-zip2 g xs ys (p ∙ sym q) ∙ p;
      each = λ k l. get_or-zip2 g xs ys k 0 0 0 (omega arith) (omega arith) ∙ (λ i. g (a.each k l i) (b.each k l i));
    }

pub splat : (x : ℕ) → IsRow (replicate 8 x) (λ k. x)
splat x = record { long = length-replicate 8 x; each = λ k l. get_or-replicate 8 k x 0 l }

-- eight bytes from a place on
pub loaded : (xs ys : List ℕ) (at : ℕ) → at + 8 ≤ length xs → ys ≡ chunk at 8 xs → IsRow ys (λ k. get_or xs (at + k) 0)
loaded xs ys at room e = rw e (record { long = length-chunk at 8 xs room; each = λ k l. get_or-chunk at 8 xs k 0 l })

pub byte : (xs : List ℕ) → ((k : ℕ) → Fits w8 (get_or xs k 0)) → (k : ℕ) → get_or xs k 0 ≤ 255
byte xs fits k = omega (arith, (fits k).fits)

-- a list is a row of its own lanes
pub itself : (xs : List ℕ) → length xs ≡ 8 → IsRow xs (λ k. get_or xs k 0)
itself xs e = record { long = e; each = λ k l i. get_or xs k 0 }

pub small_sum : (x y : ℕ) → x ≤ 4096 → y ≤ 255 → (x + y) % 65536 ≡ x + y
small_sum x y h k = omega arith

-- ---- sums, sample by sample
pub none_added : (f : ℕ → ℕ → ℕ) → AreSums (replicate 8 0) 0 f
none_added f = record { whole = (splat 0).long; each = (splat 0).each; most = λ i l. rw ((splat 0).each i l) (omega arith) }

pub one_added : (xs ys : List ℕ) (n : ℕ) (f : ℕ → ℕ → ℕ) → AreSums xs n f → length ys ≡ 8 → ((i : ℕ) → i < 8 → get_or ys i 0 ≡ get_or xs i 0 + f n i) → ((i : ℕ) → i < 8 → get_or ys i 0 ≤ get_or xs i 0 + 255) → AreSums ys (n + 1) f
one_added xs ys n f h long each most = record {
  whole = long;
  each = λ i l. each i l ∙ (λ j. h.each i l j + f n i) ∙ next n (λ s. f s i);
  most = λ i l. omega (arith, h.most i l, most i l);
}
  where
    next : (n : ℕ) (f : ℕ → ℕ) → total n f + f n ≡ total (n + 1) f
    next n f =
        let one : suc n ≡ n + 1 = omega arith in
        subst (λ m. total n f + f n ≡ total m f) one refl

pub few_yet : (xs : List ℕ) (s n : ℕ) (f : ℕ → ℕ → ℕ) → AreSums xs s f → s < n → n ≤ 16 → (i : ℕ) → i < 8 → get_or xs i 0 ≤ 4096
few_yet xs s n f h lt few i l = omega (arith, h.most i l)

-- ---- means
pub rounded_mean : (x half : ℕ) → x ≤ 4096 → half ≤ 2048 → (x + half) % 65536 ≡ x + half
rounded_mean x half h k = omega arith

pub mean_most : (x half bits : ℕ) → half ≤ 2 ^ bits / 2 → x ≤ 255 * 2 ^ bits → (x + half) / 2 ^ bits ≤ 255
mean_most x half bits h k =
    let most : (x + half) / 2 ^ bits < 256 = div_below (x + half) (2 ^ bits) 256 (pow_pos bits) (under x half (2 ^ bits) (pow_pos bits) h k) in
    omega (arith, most)
  where
    under : (x half d : ℕ) → 0 < d → half ≤ d / 2 → x ≤ 255 * d → x + half < 256 * d
    under x half d some h k = omega (arith)
