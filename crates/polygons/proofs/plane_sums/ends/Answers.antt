use Rattle.std.proofs.Common.{◌≡◌, ap, ◌∙◌, arith, ℕ, ◌+◌, ◌*◌, ◌%◌, ◌^◌, ◌<◌, List, length, get_or, replicate}
use Rattle.std.specs.Simd.Lanes.{zip2}
use Rattle.std.proofs.lemmas.Nat.Bits.{bit_at-lt}
use Rattle.polygons.proofs.MaskLanes.{AreLanes, itself, splat, zipped}
use Rattle.polygons.proofs.ByteSums.{sum8, difference8}
use Rattle.polygons.proofs.plane_sums.ends.Goals as goal

abbrev shifted : ℕ → ℕ → ℕ
shifted x k = x * 2 ^ k % 2 ^ 8

module _ (a b d e f : List ℕ) (a_long : length a ≡ 32) (b_long : length b ≡ 32) (d_long : length d ≡ 32) (e_long : length e ≡ 32) (f_long : length f ≡ 32) where
  abbrev at : List ℕ → ℕ → ℕ
  at v p = get_or v p 0

  shift : (v : List ℕ) (k : ℕ) → length v ≡ 32 → AreLanes 32 (zip2 shifted v (replicate 32 k)) (λ p. shifted (at v p) k)
  shift v k long = zipped 32 shifted v (replicate 32 k) _ _ (itself 32 v long) (splat 32 k)

  abbrev low_lanes : List ℕ
  low_lanes = zip2 sum8 (zip2 sum8 (zip2 sum8 a (zip2 shifted b (replicate 32 1))) (zip2 shifted d (replicate 32 2))) (zip2 shifted e (replicate 32 3))

  low : AreLanes 32 low_lanes (λ p. (((at a p + shifted (at b p) 1) % 256 + shifted (at d p) 2) % 256 + shifted (at e p) 3) % 256)
  low = zipped 32 sum8 _ _ _ _ (zipped 32 sum8 _ _ _ _ (zipped 32 sum8 _ _ _ _ (itself 32 a a_long) (shift b 1 b_long)) (shift d 2 d_long)) (shift e 3 e_long)

  abbrev raised_lanes : List ℕ
  raised_lanes = zip2 sum8 low_lanes (zip2 difference8 (replicate 32 16) (zip2 shifted f (replicate 32 4)))

  raised : AreLanes 32 raised_lanes (λ p. ((((at a p + shifted (at b p) 1) % 256 + shifted (at d p) 2) % 256 + shifted (at e p) 3) % 256 + difference8 16 (shifted (at f p) 4)) % 256)
  raised = zipped 32 sum8 _ _ _ _ low (zipped 32 difference8 _ _ _ _ (splat 32 16) (shift f 4 f_long))

number : (a b d e f : ℕ) → a < 2 → b < 2 → d < 2 → e < 2 → f < 2
    → (((((a + shifted b 1) % 256 + shifted d 2) % 256 + shifted e 3) % 256 + difference8 16 (shifted f 4)) % 256 + 4294967280) % 2 ^ 32 ≡ ((a + 2 * b + 4 * d + 8 * e + 16 * f + 16) % 32 + 4294967280) % 2 ^ 32
number a b d e f ha hb hd he hf = omega arith

pub lowered-requires : goal.lowered-requires
lowered-requires c = (raised c.bit.result c.bit-twos.result c.bit-fours.result c.bit-eights.result c.bit-sixteens.result c.bit.ensures.whole c.bit-twos.ensures.whole c.bit-fours.ensures.whole c.bit-eights.ensures.whole c.bit-sixteens.ensures.whole).long

pub returns-clause-each : goal.returns-clause-each
returns-clause-each c row h =
    let a = c.bit.ensures.each row h in
    let b = c.bit-twos.ensures.each row h in
    let d = c.bit-fours.ensures.each row h in
    let e = c.bit-eights.ensures.each row h in
    let f = c.bit-sixteens.ensures.each row h in
    c.lowered.ensures.each row h
    ∙ ap (λ n. (n + 4294967280) % 2 ^ 32) ((raised c.bit.result c.bit-twos.result c.bit-fours.result c.bit-eights.result c.bit-sixteens.result c.bit.ensures.whole c.bit-twos.ensures.whole c.bit-fours.ensures.whole c.bit-eights.ensures.whole c.bit-sixteens.ensures.whole).each row h)
    ∙ (λ i. (((((a i + shifted (b i) 1) % 256 + shifted (d i) 2) % 256 + shifted (e i) 3) % 256 + difference8 16 (shifted (f i) 4)) % 256 + 4294967280) % 2 ^ 32)
    ∙ number _ _ _ _ _ (bit_at-lt (get_or c.args.planes.ones row 0) 7) (bit_at-lt (get_or c.args.planes.twos row 0) 7) (bit_at-lt (get_or c.args.planes.fours row 0) 7) (bit_at-lt (get_or c.args.planes.eights row 0) 7) (bit_at-lt (get_or c.args.planes.sixteens row 0) 7)
