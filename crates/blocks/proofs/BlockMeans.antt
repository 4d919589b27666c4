-- The means of the samples of pixels.
use Rattle.std.proofs.Common.{true, false, ◌≡◌, ◌≢◌, ◌∙◌, inl, inr, refl, ap, sym, subst, ℕ, zero, suc, ◌+◌, ◌-◌, ◌*◌, ◌/◌, ◌<◌, ◌≤◌, ◌^◌, List, length, take, drop, get_or, replicate, slice_index, arith}
use Rattle.std.specs.Prelude.{◌==◌, if◌then◌else◌}
use Rattle.std.specs.Int.{bit_at}
use Rattle.std.proofs.lemmas.Bool.Decides.{eqb_tells}
use Rattle.std.proofs.lemmas.Nat.Bits.{bit_at-lt}
use Rattle.std.proofs.lemmas.List.{get_or-take}
use Rattle.std.specs.Simd.Lanes.{zip2}
use Rattle.std.proofs.Math.Nat.{mul-le-mul_right}
use Rattle.lanes.proofs.Lanewise.{plus, minus, times, shifted}
use Rattle.grid.specs.Samples.{count_of}
use Rattle.grid.specs.declared.sample_count.SampleCount.{SampleCount}
use Rattle.grid.specs.declared.sample_count.SampleCount.TheVariants.{One, Two, Four, Eight, Sixteen}
use Rattle.shade.specs.Resolve.{IsResolved, total}
use Rattle.shade.specs.declared.sample.CanvasSample.{CanvasSample}
use Rattle.shade.proofs.Resolved.{by_sum, few_samples, resolved_same}
use Rattle.lanes.specs.declared.block_samples.BlockSamples.{BlockSamples}
use Rattle.lanes.specs.Block.{stored_at}
use Rattle.blocks.specs.declared.block_means.Channel.{Channel}
use Rattle.blocks.specs.declared.block_means.Channel.TheVariants.{Red, Green, Blue, Alpha}
use Rattle.blocks.specs.declared.way.Way.{Way}
use Rattle.blocks.specs.declared.way.Way.TheVariants.{Own, Flat, FlatFour}
use Rattle.blocks.specs.Layout.{planes_of_tile, place_by, slot_by, is_plain, mask_of, masks_in, sample_place, chosen, pixel_in_block, in_list, stored_in_tile, way_in_tile}
use Rattle.blocks.specs.declared.palette.Palette.{Palette}
use Rattle.blocks.specs.Palettes.{palette_number, sample_numbered, palette_sample, HasPalette, HasNumbers}
use Rattle.blocks.specs.Lanes.{channel_of}
use Rattle.blocks.specs.Means.{IsMeanOf, HasMeansOf}
use Rattle.blocks.proofs.MaskLanes.{AreLanes, zipped, splat, itself, total_next}
use Rattle.blocks.proofs.MaskBits.{AreBitSums}
use Rattle.blocks.proofs.Pairs.{sample_of, chosen_by}
use Rattle.blocks.proofs.Cut.{part_of}
use Rattle.blocks.proofs.Palettes.{below_four}
use Rattle.blocks.proofs.Places.{none, within_way, last_sample}
use Rattle.blocks.proofs.TilePlanes.{by_any_way, by_way}

-- ---- sums
parts_of : (a n b : ℕ) → b ≤ n → a * (n - b) + a * b ≡ a * n
parts_of a n b few = let whole : n - b + b ≡ n = omega (arith, few) in (let sum : a * (n - b + b) ≡ a * (n - b) + a * b = grind arith in sym sum ∙ ap (λ m. a * m) whole)

pub few_bits : (mask : ℕ → ℕ) (p n : ℕ) → total n (λ s. bit_at (mask s) p) ≤ n
few_bits mask p zero = omega arith
few_bits mask p (suc n) = let before = few_bits mask p n in let low = bit_at-lt (mask n) p in omega arith

-- of n samples, where the bits of masks choose between two
module _ (g : CanvasSample → ℕ) (mask : ℕ → ℕ) (p : ℕ) (x y : CanvasSample) where
  abbrev bits : ℕ → ℕ
  bits n = total n (λ s. bit_at (mask s) p)

  one_chosen : (s : ℕ) → g (chosen (mask s) p y x) + g x * bit_at (mask s) p ≡ g x + g y * bit_at (mask s) p
  one_chosen s =
      elim (eqb_tells (bit_at (mask s) p) 1) [
        | inl set ↦
            let one : bit_at (mask s) p ≡ 1 = set.1 in
            let is : g (chosen (mask s) p y x) ≡ g y = ap (λ b. g (if b then y else x)) set.0 in
            rw (is, one) (omega arith)
        | inr clear ↦
            let none : bit_at (mask s) p ≡ 0 = (let low = bit_at-lt (mask s) p in let other = clear.1 in omega arith) in
            let is : g (chosen (mask s) p y x) ≡ g x = ap (λ b. g (if b then y else x)) clear.0 in
            rw (is, none) (omega arith)
      ]

  sum_of_both : (n : ℕ) → total n (λ s. g (chosen (mask s) p y x)) + g x * bits n ≡ g x * n + g y * bits n
  sum_of_both zero = omega arith
  sum_of_both (suc n) = let before = sum_of_both n in let here = one_chosen n in grind arith

  pub sum_of_chosen : (n : ℕ) → g x * (n - bits n) + g y * bits n ≡ total n (λ s. g (chosen (mask s) p y x))
  sum_of_chosen n =
      let both = sum_of_both n in
      let few = few_bits mask p n in
      let parts : g x * (n - bits n) + g x * bits n ≡ g x * n = parts_of (g x) n (bits n) few in
      omega (arith, both, parts)

  pub mean_of_chosen : (count : SampleCount) → IsResolved count (λ s. g (chosen (mask s) p y x)) ((g x * (count_of count - bits (count_of count)) + g y * bits (count_of count) + count_of count / 2) / count_of count)
  mean_of_chosen count = by_sum count (λ s. g (chosen (mask s) p y x)) (g x * (count_of count - bits (count_of count)) + g y * bits (count_of count)) (count_of count) refl (sum_of_chosen (count_of count))

-- one of four numbers
one_of_four : (f : ℕ → ℕ) (n : ℕ) → n < 4
    → (if n == 0 then 1 else 0) * f 0 + (if n == 1 then 1 else 0) * f 1 + (if n == 2 then 1 else 0) * f 2 + (if n == 3 then 1 else 0) * f 3 ≡ f n
one_of_four f zero l = omega arith
one_of_four f (suc zero) l = omega arith
one_of_four f (suc (suc zero)) l = omega arith
one_of_four f (suc (suc (suc zero))) l = omega arith
one_of_four f (suc (suc (suc (suc n)))) l = absurd (omega (arith, l))

-- the same sums of the same
pub total_same : (n : ℕ) (f g : ℕ → ℕ) → ((s : ℕ) → s < n → f s ≡ g s) → total n f ≡ total n g
total_same zero f g same = refl
total_same (suc n) f g same = let before = total_same n f g (λ s l. same s (omega (arith, l))) in let here = same n (omega arith) in omega (arith, before, here)

total_of_ones : (n : ℕ) → total n (λ s. 1) ≡ n
total_of_ones zero = refl
total_of_ones (suc n) = let before = total_of_ones n in omega (arith, before)

-- ---- in lanes
-- of n samples as many as `bits` have b, and the others a
pub weighted_lane : (a b bits n : ℕ) → a ≤ 255 → b ≤ 255 → bits ≤ n → n ≤ 16 → (plus (times a (minus n bits)) (times b bits) ≡ a * (n - bits) + b * bits) × (a * (n - bits) + b * bits ≤ 255 * n)
weighted_lane a b bits n small_a small_b few most =
    let rest : minus n bits ≡ n - bits = omega (arith, few, most) in
    let most_a : a * (n - bits) ≤ 255 * (n - bits) = mul-le-mul_right (n - bits) small_a in
    let most_b : b * bits ≤ 255 * bits = mul-le-mul_right bits small_b in
    let sum : a * (n - bits) + b * bits ≤ 255 * n = omega (arith, most_a, most_b, few) in
    let exact : plus (times a (n - bits)) (times b bits) ≡ a * (n - bits) + b * bits = omega (arith, sum, most) in
    (ap (λ r. plus (times a r) (times b bits)) rest ∙ exact, sum)

-- 64 sums with `many` samples more that have this byte
pub record AreMore (sums many : List ℕ) (byte : ℕ) (more : List ℕ) : Type 0 where
  pub long : length more ≡ 64
  pub each : (p : ℕ) → p < 64 → slice_index more p ≡ slice_index sums p + slice_index many p * byte
  pub most : (p : ℕ) → p < 64 → slice_index more p ≤ slice_index sums p + 255 * slice_index many p

pub more_of_byte : (sums many : List ℕ) (byte : ℕ) → length sums ≡ 64 → length many ≡ 64 → ((p : ℕ) → p < 64 → slice_index sums p ≤ 12240) → ((p : ℕ) → p < 64 → slice_index many p ≤ 16) → byte ≤ 255
    → AreMore sums many byte (zip2 plus sums (zip2 times many (replicate 64 byte)))
more_of_byte sums many byte long wide room few small =
    let lanes = zipped plus sums _ _ _ (itself sums long) (zipped times many (replicate 64 byte) _ _ (itself many wide) (splat byte)) in
    let product : (p : ℕ) → p < 64 → slice_index many p * byte ≤ 255 * slice_index many p = λ p l. (let most : byte * slice_index many p ≤ 255 * slice_index many p = mul-le-mul_right (slice_index many p) small in let turned : byte * slice_index many p ≡ slice_index many p * byte = grind arith in omega (arith, most, turned)) in
    let sum : (p : ℕ) → p < 64 → slice_index (zip2 plus sums (zip2 times many (replicate 64 byte))) p ≡ slice_index sums p + slice_index many p * byte =
    λ p l. lanes.each p l ∙ omega (arith, room p l, few p l, product p l) in
    record {
      long = lanes.long;
      each = sum;
      most = λ p l. omega (arith, sum p l, product p l);
    }

-- how many of the first k samples of pixel p have a number
module _ (palette : Palette) (p : ℕ) where
  abbrev is_number : ℕ → ℕ → ℕ
  is_number n s = if palette_number palette s p == n then 1 else 0

  abbrev pub numbered : ℕ → ℕ → ℕ
  numbered k n = total k (is_number n)

  number_low : (n s : ℕ) → is_number n s ≤ 1
  number_low n s =
      elim (eqb_tells (palette_number palette s p) n) [
        | inl same ↦ (let is : is_number n s ≡ 1 = ap (λ b. if b then 1 else 0) same.0 in omega (arith, is))
        | inr other ↦ (let is : is_number n s ≡ 0 = ap (λ b. if b then 1 else 0) other.0 in omega (arith, is))
      ]

  pub bit_of_number : (n s mask : ℕ) → HasNumbers palette n s p mask → bit_at mask p ≡ is_number n s
  bit_of_number n s mask has =
      elim (eqb_tells (palette_number palette s p) n) [
        | inl same ↦ has.1 same.1 ∙ sym (ap (λ b. if b then 1 else 0) same.0)
        | inr other ↦
            let low = bit_at-lt mask p in
            let none : bit_at mask p ≢ 1 = λ one. other.1 (has.0 one) in
            let clear : bit_at mask p ≡ 0 = omega (arith, low, none) in
            clear ∙ sym (ap (λ b. if b then 1 else 0) other.0)
      ]

  pub few_numbered : (n k : ℕ) → numbered k n ≤ k
  few_numbered n zero = omega arith
  few_numbered n (suc k) = let before = few_numbered n k in let low = number_low n k in omega arith

  -- the sum of what f is of the first m numbers, as often as samples have them
  abbrev pub by_numbers : (ℕ → ℕ) → ℕ → ℕ → ℕ
  by_numbers f k m = total m (λ n. numbered k n * f n)

  pub of_four : (f : ℕ → ℕ) (k : ℕ) → by_numbers f k 4 ≡ total k (λ s. f (palette_number palette s p))
  of_four f zero = omega arith
  of_four f (suc k) =
      let before = of_four f k in
      let here : is_number 0 k * f 0 + is_number 1 k * f 1 + is_number 2 k * f 2 + is_number 3 k * f 3 ≡ f (palette_number palette k p) = one_of_four f (palette_number palette k p) (below_four palette k p) in
      grind arith

-- 64 sums with a channel of one sample more
pub record AreSums (n : ℕ) (f : ℕ → ℕ → ℕ) (sums : List ℕ) : Type 0 where
  pub long : length sums ≡ 64
  pub each : (p : ℕ) → p < 64 → slice_index sums p ≡ total n (λ s. f s p)
  pub most : (p : ℕ) → p < 64 → slice_index sums p ≤ 255 * n

pub none_added : (f : ℕ → ℕ → ℕ) → AreSums 0 f (replicate 64 0)
none_added f = record { long = (splat 0).long; each = (splat 0).each; most = λ p l. omega (arith, (splat 0).each p l) }

pub one_added : (n : ℕ) (f : ℕ → ℕ → ℕ) (sums bytes : List ℕ) → n < 16 → length bytes ≡ 64 → ((p : ℕ) → p < 64 → slice_index bytes p ≡ f n p) → ((p : ℕ) → p < 64 → slice_index bytes p ≤ 255)
    → AreSums n f sums → AreSums (n + 1) f (zip2 plus sums bytes)
one_added n f sums bytes few long is small before =
    let all = zipped plus sums bytes _ _ (itself sums before.long) (itself bytes long) in
    let sum : (p : ℕ) → p < 64 → slice_index (zip2 plus sums bytes) p ≡ slice_index sums p + slice_index bytes p = λ p l. all.each p l ∙ omega (arith, before.most p l, small p l, few) in
    record {
      long = all.long;
      each = λ p l. sum p l ∙ (λ i. before.each p l i + is p l i) ∙ total_next n (λ s. f s p);
      most = λ p l. omega (arith, sum p l, before.most p l, small p l);
    }

-- 64 means by their sums
pub means_are : (count : SampleCount) (sums : List ℕ) (half bits : ℕ) → length sums ≡ 64 → ((p : ℕ) → p < 64 → get_or sums p 0 ≤ 255 * count_of count) → half ≡ count_of count / 2 → 2 ^ bits ≡ count_of count
    → AreLanes (zip2 shifted (zip2 plus sums (replicate 64 half)) (replicate 64 bits)) (λ p. (get_or sums p 0 + count_of count / 2) / count_of count)
means_are count sums half bits long most is_half is_count =
    let all = zipped shifted _ (replicate 64 bits) _ _ (zipped plus sums (replicate 64 half) _ _ (itself sums long) (splat half)) (splat bits) in
    let exact : (p : ℕ) → p < 64 → plus (get_or sums p 0) half ≡ get_or sums p 0 + count_of count / 2 = λ p l. omega (arith, most p l, is_half, few_samples count) in
    record { long = all.long; each = λ p l. all.each p l ∙ (λ i. exact p l i / is_count i) }

-- a mean of bytes is a byte
pub mean_small : (count : SampleCount) (sum : ℕ) → sum ≤ 255 * count_of count → (sum + count_of count / 2) / count_of count ≤ 255
mean_small One sum most = omega (arith, most)
mean_small Two sum most = omega (arith, most)
mean_small Four sum most = omega (arith, most)
mean_small Eight sum most = omega (arith, most)
mean_small Sixteen sum most = omega (arith, most)

-- 64 weighted sums
abbrev pub weighted : ℕ → List ℕ → List ℕ → List ℕ → List ℕ
weighted n bits first second = zip2 plus (zip2 times first (zip2 minus (replicate 64 n) bits)) (zip2 times second bits)

pub record AreWeighted (n : ℕ) (bits first second sums : List ℕ) : Type 0 where
  pub long : length sums ≡ 64
  pub each : (p : ℕ) → p < 64 → get_or sums p 0 ≡ get_or first p 0 * (n - get_or bits p 0) + get_or second p 0 * get_or bits p 0
  pub most : (p : ℕ) → p < 64 → get_or sums p 0 ≤ 255 * n

pub are_weighted : (count : SampleCount) (n : ℕ) (bits first second : List ℕ) → n ≡ count_of count → length bits ≡ 64 → length first ≡ 64 → length second ≡ 64
    → ((p : ℕ) → p < 64 → get_or bits p 0 ≤ count_of count) → ((p : ℕ) → p < 64 → get_or first p 0 ≤ 255) → ((p : ℕ) → p < 64 → get_or second p 0 ≤ 255)
    → AreWeighted n bits first second (weighted n bits first second)
are_weighted count n bits first second is long_bits long_first long_second few small_first small_second =
    let lanes = zipped plus _ _ _ _ (zipped times first _ _ _ (itself first long_first) (zipped minus (replicate 64 n) bits _ _ (splat n) (itself bits long_bits)))
    (zipped times second bits _ _ (itself second long_second) (itself bits long_bits)) in
    let lane = λ (p : ℕ) (l : p < 64). weighted_lane (get_or first p 0) (get_or second p 0) (get_or bits p 0) n (small_first p l) (small_second p l) (omega (arith, few p l, is)) (omega (arith, is, few_samples count)) in
    record {
      long = lanes.long;
      each = λ p l. lanes.each p l ∙ (lane p l).0;
      most = λ p l. omega (arith, lanes.each p l ∙ (lane p l).0, (lane p l).1);
    }

-- ---- the means of all channels
-- those of other samples, which are the same
pub mean_same : (count : SampleCount) (f g : ℕ → CanvasSample) (mean : CanvasSample) → ((s : ℕ) → s < count_of count → f s ≡ g s) → IsMeanOf count f mean → IsMeanOf count g mean
mean_same count f g mean same h = record {
  red = resolved_same count (λ s. (f s).r) (λ s. (g s).r) mean.r (λ s l. ap (λ (x : CanvasSample). x.r) (same s l)) h.red;
  green = resolved_same count (λ s. (f s).g) (λ s. (g s).g) mean.g (λ s l. ap (λ (x : CanvasSample). x.g) (same s l)) h.green;
  blue = resolved_same count (λ s. (f s).b) (λ s. (g s).b) mean.b (λ s l. ap (λ (x : CanvasSample). x.b) (same s l)) h.blue;
  alpha = resolved_same count (λ s. (f s).alpha) (λ s. (g s).alpha) mean.alpha (λ s l. ap (λ (x : CanvasSample). x.alpha) (same s l)) h.alpha;
}

-- by each channel
pub mean_by : (count : SampleCount) (f : ℕ → CanvasSample) (mean : CanvasSample) → ((channel : Channel) → IsResolved count (λ s. channel_of channel (f s)) (channel_of channel mean)) → IsMeanOf count f mean
mean_by count f mean h = record { red = h Red; green = h Green; blue = h Blue; alpha = h Alpha }

-- of samples that are alike
resolved_alike : (count : SampleCount) (x : ℕ) → IsResolved count (λ s. x) x
resolved_alike One x = refl
resolved_alike Two x = record { low = omega arith; high = omega arith }
resolved_alike Four x = record { low = omega arith; high = omega arith }
resolved_alike Eight x = record { low = omega arith; high = omega arith }
resolved_alike Sixteen x = record { low = omega arith; high = omega arith }

pub mean_alike : (count : SampleCount) (f : ℕ → CanvasSample) (x : CanvasSample) → ((s : ℕ) → s < count_of count → x ≡ f s) → IsMeanOf count f x
mean_alike count f x same = mean_same count (λ s. x) f x same (mean_by count (λ s. x) x (λ channel. resolved_alike count (channel_of channel x)))

-- the mean of a channel of the samples of a pixel, by their sum
pub mean_by_sum : (count : SampleCount) (f : ℕ → ℕ) (n sum mean : ℕ) → n ≡ count_of count → sum ≡ total n f → mean ≡ (sum + count_of count / 2) / count_of count → IsResolved count f mean
mean_by_sum count f n sum mean many is e = subst (IsResolved count f) (sym e) (by_sum count f sum (count_of count) refl (is ∙ ap (λ m. total m f) many))

-- ---- the means of the samples of a block
-- one plane for each sample: the first planes from a place on
pub means_of_planes : (count known : SampleCount) (xs : List BlockSamples) (k a n : ℕ) (mean : BlockSamples) → count ≡ known → n ≡ count_of known → k < 64 → length xs ≡ planes_of_tile count → a ≡ place_by count Own k 0 → way_in_tile xs k ≡ Own
    → ((p : ℕ) → p < 64 → IsMeanOf known (λ s. stored_at (in_list (take n (take (length xs - a) (drop a xs))) s) p) (stored_at mean p)) → HasMeansOf count xs k mean
means_of_planes count known xs k a n mean is many small long at was means i j here =
    let p : ℕ = pixel_in_block i j in
    let part : List BlockSamples = take n (take (length xs - a) (drop a xs)) in
    let all : n ≡ count_of count = many ∙ ap count_of (sym is) in
    let last = within_way count Own k (count_of count - 1) small (last_sample count) in
    let behind : (s : ℕ) → s < count_of count → in_list part s ≡ in_list xs (place_by count Own k s) =
    λ s l.
    get_or-take n (take (length xs - a) (drop a xs)) s none (omega (arith, all, l))
    ∙ part_of xs a (length xs - a) none s (omega (arith, l, last, long, at))
    ∙ ap (λ q. in_list xs q) (omega (arith, at)) in
    mean_same count (λ s. stored_at (in_list part s) p) (λ s. stored_in_tile count xs i j s) (stored_at mean p)
    (λ s l.
    ap (λ plane. stored_at plane p) (behind s l)
    ∙ ap (λ q. stored_at (in_list xs (place_by count Own q s)) p) (sym here)
    ∙ sym (by_any_way count xs Own i j s (ap (way_in_tile xs) here ∙ was)))
    (subst (λ m. IsMeanOf m (λ s. stored_at (in_list part s) p) (stored_at mean p)) (sym is) (means p (omega arith)))

-- how many masks of a plane have a bit, by these masks
pub bits_in_plane : (count : SampleCount) (bits masks : List ℕ) (plane : BlockSamples) → ((s : ℕ) → s < count_of count → slice_index masks s ≡ mask_of plane s)
    → ((p : ℕ) → p < 64 → slice_index bits p ≡ total (count_of count) (λ s. bit_at (slice_index masks s) p)) → (p : ℕ) → p < 64 → slice_index bits p ≡ total (count_of count) (λ s. bit_at (mask_of plane s) p)
bits_in_plane count bits masks plane same is p l = is p l ∙ total_same (count_of count) _ _ (λ s h. ap (λ m. bit_at m p) (same s h))

-- two planes and masks: each mean by the number of samples that are those of the second plane
abbrev pub mean_of_both : SampleCount → ℕ → ℕ → ℕ → ℕ
mean_of_both count bits x y = (x * (count_of count - bits) + y * bits + count_of count / 2) / count_of count

abbrev pub AreMeansBy : SampleCount → List ℕ → (ℕ → CanvasSample) → (ℕ → CanvasSample) → BlockSamples → Channel → Type 0
AreMeansBy count bits first second mean channel =
    (p : ℕ) → p < 64 → channel_of channel (stored_at mean p) ≡ mean_of_both count (slice_index bits p) (channel_of channel (first p)) (channel_of channel (second p))

pub each_channel : (P : Channel → Type 0) → P Red → P Green → P Blue → P Alpha → (channel : Channel) → P channel
each_channel P red green blue alpha Red = red
each_channel P red green blue alpha Green = green
each_channel P red green blue alpha Blue = blue
each_channel P red green blue alpha Alpha = alpha

pub means_of_both : (count : SampleCount) (way : Way) (xs : List BlockSamples) (k m : ℕ) (first second : ℕ → CanvasSample) (bits : List ℕ) (mean : BlockSamples) → way_in_tile xs k ≡ way → is_plain way ≡ false → way ≢ FlatFour
    → ((p : ℕ) → p < 64 → first p ≡ sample_of count way (in_list xs) k p 0) → ((p : ℕ) → p < 64 → second p ≡ sample_of count way (in_list xs) k p (count_of count / 2))
    → m ≡ place_by count Own k (count_of count - 1)
    → ((p : ℕ) → p < 64 → slice_index bits p ≡ total (count_of count) (λ s. bit_at (mask_of (in_list xs m) s) p))
    → ((channel : Channel) → AreMeansBy count bits first second mean channel) → HasMeansOf count xs k mean
means_of_both count way xs k m first second bits mean was pair few is_first is_second is_m is_bits is i j here =
    let p : ℕ = pixel_in_block i j in
    let l : p < 64 = omega arith in
    let x : CanvasSample = sample_of count way (in_list xs) k p 0 in
    let y : CanvasSample = sample_of count way (in_list xs) k p (count_of count / 2) in
    let mask : ℕ → ℕ = λ s. mask_of (masks_in count (in_list xs) k) s in
    let many : slice_index bits p ≡ total (count_of count) (λ s. bit_at (mask s) p) = is_bits p l ∙ ap (λ q. total (count_of count) (λ s. bit_at (mask_of (in_list xs q) s) p)) is_m in
    mean_same count (λ s. chosen (mask s) p y x) (λ s. stored_in_tile count xs i j s) (stored_at mean p)
    (λ s h.
    chosen_by count way (in_list xs) k p s pair few
    ∙ ap (λ q. stored_at (in_list xs (sample_place count way (in_list xs) q p s)) (slot_by way q p)) (sym here)
    ∙ sym (by_any_way count xs way i j s (ap (way_in_tile xs) here ∙ was)))
    (mean_by count (λ s. chosen (mask s) p y x) (stored_at mean p)
    (λ channel.
    let g : CanvasSample → ℕ = channel_of channel in
    let value : g (stored_at mean p) ≡ mean_of_both count (total (count_of count) (λ s. bit_at (mask s) p)) (g x) (g y) =
    is channel p l ∙ (λ t. mean_of_both count (many t) (g (is_first p l t)) (g (is_second p l t))) in
    subst (IsResolved count (λ s. g (chosen (mask s) p y x))) (sym value) (mean_of_chosen g mask p x y count)))

-- one sample for all
pub means_of_flat : (count : SampleCount) (xs : List BlockSamples) (k : ℕ) (mean : BlockSamples) → way_in_tile xs k ≡ Flat → ((p : ℕ) → p < 64 → stored_at mean p ≡ stored_at (in_list xs (place_by count Flat k 0)) k)
    → HasMeansOf count xs k mean
means_of_flat count xs k mean was is i j here =
    let p : ℕ = pixel_in_block i j in
    mean_alike count (λ s. stored_in_tile count xs i j s) (stored_at mean p)
    (λ s l.
    is p (omega arith)
    ∙ ap (λ q. stored_at (in_list xs (place_by count Flat q 0)) q) (sym here)
    ∙ sym (by_any_way count xs Flat i j s (ap (way_in_tile xs) here ∙ was)))

-- one plane for all
pub means_of_one : (count : SampleCount) (xs : List BlockSamples) (way : Way) (k : ℕ) → way_in_tile xs k ≡ way → is_plain way ≡ true → ((s : ℕ) → s < count_of count → place_by count way k s ≡ place_by count way k 0)
    → HasMeansOf count xs k (in_list xs (place_by count way k 0))
means_of_one count xs way k was other same i j here =
    let p : ℕ = pixel_in_block i j in
    mean_alike count (λ s. stored_in_tile count xs i j s) (stored_at (in_list xs (place_by count way k 0)) p)
    (λ s l. sym (by_way count xs way i j s other (ap (way_in_tile xs) here ∙ was) ∙ ap (λ m. stored_at (in_list xs (place_by count way m s)) p) here ∙ ap (λ q. stored_at (in_list xs q) p) (same s l)))

-- up to four samples
pub means_of_four : (count : SampleCount) (k : ℕ) (xs : List BlockSamples) (palette : Palette) (mean : BlockSamples) → HasPalette count k palette xs
    → ((p : ℕ) → p < 64 → IsMeanOf count (λ s. palette_sample palette s p) (stored_at mean p)) → HasMeansOf count xs k mean
means_of_four count k xs palette mean has means i j here =
    let p : ℕ = pixel_in_block i j in
    mean_same count (λ s. palette_sample palette s p) (λ s. stored_in_tile count xs i j s) (stored_at mean p) (λ s l. sym (has i j s l here)) (means p (omega arith))

-- how many samples of pixels have the number of which these are the masks
pub many_numbered : (count : SampleCount) (palette : Palette) (n : ℕ) (pixels many : List ℕ) → ((s p : ℕ) → s < count_of count → p < 64 → HasNumbers palette n s p (slice_index pixels s))
    → ((p : ℕ) → p < 64 → slice_index many p ≡ total (count_of count) (λ s. bit_at (slice_index pixels s) p)) → (p : ℕ) → p < 64 → slice_index many p ≡ numbered palette p (count_of count) n
many_numbered count palette n pixels many has is p l = is p l ∙ total_same (count_of count) _ _ (λ s h. bit_of_number palette p n s (slice_index pixels s) (has s p h l))

-- each sample has one of the four numbers
pub four_numbers : (count : SampleCount) (palette : Palette) (p : ℕ)
    → numbered palette p (count_of count) 0 + numbered palette p (count_of count) 1 + numbered palette p (count_of count) 2 + numbered palette p (count_of count) 3 ≡ count_of count
four_numbers count palette p =
    let all : by_numbers palette p (λ n. 1) (count_of count) 4 ≡ count_of count = of_four palette p (λ n. 1) (count_of count) ∙ total_of_ones (count_of count) in
    omega (arith, all)

-- the mean of a channel, by how many samples have each number
pub mean_of_numbers : (count : SampleCount) (palette : Palette) (channel : Channel) (p a b d e mean : ℕ) → a + b + d + e ≡ count_of count
    → b ≡ numbered palette p (count_of count) 1 → d ≡ numbered palette p (count_of count) 2 → e ≡ numbered palette p (count_of count) 3
    → mean
    ≡ (a * channel_of channel (sample_numbered palette.samples 0) + b * channel_of channel (sample_numbered palette.samples 1) + d * channel_of channel (sample_numbered palette.samples 2)
    + e * channel_of channel (sample_numbered palette.samples 3)
    + count_of count / 2)
    / count_of count
    → IsResolved count (λ s. channel_of channel (palette_sample palette s p)) mean
mean_of_numbers count palette channel p a b d e mean all is_b is_d is_e is =
    let n : ℕ = count_of count in
    let g : ℕ → ℕ = λ m. channel_of channel (sample_numbered palette.samples m) in
    let is_a : a ≡ numbered palette p n 0 = omega (arith, all, is_b, is_d, is_e, four_numbers count palette p) in
    let all_four : by_numbers palette p g n 4 ≡ total n (λ s. g (palette_number palette s p)) = of_four palette p g n in
    let same : a * g 0 + b * g 1 + d * g 2 + e * g 3 ≡ numbered palette p n 0 * g 0 + numbered palette p n 1 * g 1 + numbered palette p n 2 * g 2 + numbered palette p n 3 * g 3 =
    λ i. is_a i * g 0 + is_b i * g 1 + is_d i * g 2 + is_e i * g 3 in
    mean_by_sum count (λ s. g (palette_number palette s p)) n (a * g 0 + b * g 1 + d * g 2 + e * g 3) mean refl (omega (arith, same, all_four)) is

-- ---- means of the same
alike : (count : SampleCount) (x : ℕ) → (x * count_of count + count_of count / 2) / count_of count ≡ x
alike One x = omega arith
alike Two x = omega arith
alike Four x = omega arith
alike Eight x = omega arith
alike Sixteen x = omega arith

pub both_alike : (count : SampleCount) (x bits : ℕ) → bits ≤ count_of count → mean_of_both count bits x x ≡ x
both_alike count x bits few = ap (λ sum. (sum + count_of count / 2) / count_of count) (parts_of x (count_of count) bits few) ∙ alike count x

pub four_alike : (count : SampleCount) (x a b d e : ℕ) → a + b + d + e ≡ count_of count → (a * x + b * x + d * x + e * x + count_of count / 2) / count_of count ≡ x
four_alike count x a b d e all =
    let sum : a * x + b * x + d * x + e * x ≡ x * (a + b + d + e) = grind arith in
    ap (λ m. (m + count_of count / 2) / count_of count) (sum ∙ ap (λ m. x * m) all) ∙ alike count x

-- what is left of n in each lane
pub left_of : (count : SampleCount) (n : ℕ) (a b d : List ℕ) → n ≡ count_of count → length a ≡ 64 → length b ≡ 64 → length d ≡ 64 → ((p : ℕ) → p < 64 → slice_index a p + slice_index b p + slice_index d p ≤ count_of count)
    → (length (zip2 minus (zip2 minus (zip2 minus (replicate 64 n) a) b) d) ≡ 64)
    × ((p : ℕ) → p < 64 → slice_index (zip2 minus (zip2 minus (zip2 minus (replicate 64 n) a) b) d) p + slice_index a p + slice_index b p + slice_index d p ≡ count_of count)
left_of count n a b d is long_a long_b long_d few =
    let lanes = zipped minus _ d _ _ (zipped minus _ b _ _ (zipped minus (replicate 64 n) a _ _ (splat n) (itself a long_a)) (itself b long_b)) (itself d long_d) in
    (lanes.long, λ p l. omega (arith, lanes.each p l, few p l, is, few_samples count))

-- sums of the bits of masks, by what they are
pub bit_sums : (n : ℕ) (mask : ℕ → ℕ) (sums : List ℕ) → length sums ≡ 64 → ((p : ℕ) → p < 64 → slice_index sums p ≡ total n (λ s. bit_at (mask s) p)) → AreBitSums n mask sums
bit_sums n mask sums long is = record { long = long; each = is; most = λ p l. omega (arith, is p l, few_bits mask p n) }
