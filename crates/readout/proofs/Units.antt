-- Pixels of some entries each, one after another in a list.
use Rattle.std.proofs.Common.{◌≡◌, ◌∙◌, inl, inr, ap, subst, ℕ, ◌+◌, ◌-◌, ◌*◌, ◌/◌, ◌%◌, ◌<◌, ◌≤◌, List, length, slice_index, slice_set, arith}
use Rattle.std.proofs.Math.Nat.{mul_comm, add-mul}
use Rattle.std.proofs.lemmas.Bool.{cases_lt}
use Rattle.std.proofs.lemmas.List.{get_or-set_same, get_or-set_other}
use Rattle.std.proofs.lemmas.Nat.{mul-add-lt}
use Rattle.readout.specs.declared.format.Format.{Format}
use Rattle.readout.specs.declared.format.Format.TheVariants.{Rgb8, Rgba8, Bgra8, Rgba8Straight, Bgra8Straight}
use Rattle.readout.specs.Pixels.{pixel_bytes}
use Rattle.blocks.proofs.Cut.{put, put_here, put_elsewhere}

pub below_unit : (w i k n : ℕ) → i < n → k < w → i * w + k < n * w
below_unit w i k n l small = let below = mul-add-lt i w k n l small in omega (arith, below, mul_comm w n)

-- an entry of a row of pixels is one of a pixel
pub record IsEntryOf (w width n : ℕ) : Type 0 where
  pub i : ℕ
  pub k : ℕ
  pub inside : i < width
  pub small : k < w
  pub is : n ≡ i * w + k

pub one_entry : (width n : ℕ) → n < width * 1 → IsEntryOf 1 width n
one_entry width n l = record { i = n; k = 0; inside = omega arith; small = omega arith; is = omega arith }

pub entry_in : (format : Format) (width n : ℕ) → n < width * pixel_bytes format → IsEntryOf (pixel_bytes format) width n
entry_in Rgb8 width n l = record { i = n / 3; k = n % 3; inside = omega arith; small = omega arith; is = omega arith }
entry_in Rgba8 width n l = record { i = n / 4; k = n % 4; inside = omega arith; small = omega arith; is = omega arith }
entry_in Bgra8 width n l = record { i = n / 4; k = n % 4; inside = omega arith; small = omega arith; is = omega arith }
entry_in Rgba8Straight width n l = record { i = n / 4; k = n % 4; inside = omega arith; small = omega arith; is = omega arith }
entry_in Bgra8Straight width n l = record { i = n / 4; k = n % 4; inside = omega arith; small = omega arith; is = omega arith }

-- ---- entries one after another
-- one entry more is as f says
pub one_set : (xs : List ℕ) (n v : ℕ) (f : ℕ → ℕ) → n < length xs → ((i : ℕ) → i < n → slice_index xs i ≡ f i) → v ≡ f n → (i : ℕ) → i < n + 1 → slice_index (slice_set xs n v) i ≡ f i
one_set xs n v f room before is i l =
    elim (cases_lt i n) [
      | inl less ↦ get_or-set_other xs n i v 0 (λ e. omega (arith, e, less)) ∙ before i less
      | inr more ↦
          let same : n ≡ i = omega arith in
          subst (λ k. slice_index (slice_set xs n v) k ≡ f k) same (get_or-set_same xs n v 0 room ∙ is)
    ]

-- an entry is a pixel of one entry
pub as_units : (xs : List ℕ) (i : ℕ) → slice_index xs (i * 1 + 0) ≡ slice_index xs i
as_units xs i = let same : i * 1 + 0 ≡ i = omega arith in ap (λ k. slice_index xs k) same

-- ---- pixels one after another
module _ (w : ℕ) (P : ℕ → (ℕ → ℕ) → Type 0) where
  -- the first pixels
  pub AreUnits : ℕ → List ℕ → Type 0
  AreUnits n xs = (i : ℕ) → i < n → P i (λ k. slice_index xs (i * w + k))

  pub no_units : (xs : List ℕ) → AreUnits 0 xs
  unfolding AreUnits
  no_units xs i l = absurd (omega arith)

  pub all_units : (n m : ℕ) (xs : List ℕ) → m ≤ n → AreUnits n xs → (i : ℕ) → i < m → P i (λ k. slice_index xs (i * w + k))
  unfolding AreUnits
  all_units n m xs past h i l = h i (omega arith)

  -- and some more
  module _ (same : (i : ℕ) (f g : ℕ → ℕ) → ((k : ℕ) → k < w → g k ≡ f k) → P i f → P i g) (n m a size : ℕ) (xs run : List ℕ) (at : a ≡ n * w) (many : size ≡ m * w) (room : a + size ≤ length xs) (long : length run ≡ size) (before : AreUnits n xs)
      (here : (i : ℕ) → i < m → P (n + i) (λ k. slice_index run (i * w + k))) where
    one_earlier : (i : ℕ) → i < n → P i (λ k. slice_index (put xs run a size) (i * w + k))
    unfolding AreUnits
    one_earlier i l =
        same i _ _ (λ k small. put_elsewhere xs run a size 0 room long (i * w + k) (λ s h e. omega (arith, below_unit w i k n l small, at, e))) (before i l)

    one_later : (i : ℕ) → i < m → P (n + i) (λ k. slice_index (put xs run a size) ((n + i) * w + k))
    one_later i l =
        same (n + i) _ _
        (λ k small.
        let place : (n + i) * w + k ≡ a + (i * w + k) = omega (arith, at, add-mul n i w) in
        ap (λ x. slice_index (put xs run a size) x) place ∙ put_here xs run a size 0 room long (i * w + k) (omega (arith, many, below_unit w i k m l small)))
        (here i l)

    pub more_units : (last : ℕ) → last ≡ n + m → AreUnits last (put xs run a size)
    unfolding AreUnits
    more_units last end i l =
        elim (cases_lt i n) [
          | inl less ↦ one_earlier i less
          | inr past ↦
              let pixel : n + (i - n) ≡ i = omega arith in
              subst (λ p. P p (λ k. slice_index (put xs run a size) (p * w + k))) pixel (one_later (i - n) (omega (arith, l, end, past)))
        ]
