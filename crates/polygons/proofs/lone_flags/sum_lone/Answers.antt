use Rattle.std.proofs.Common.{◌≡◌, ap, ◌∙◌, arith, ℕ, ◌+◌, ◌*◌, ◌%◌, ◌^◌, ◌<◌, List, length, get_or, replicate, bit_and, bit_or, Fits, w8, w32}
use Rattle.std.specs.Int.{bit_at}
use Rattle.std.specs.Int.RustNames.{bit_xor}
use Rattle.std.specs.Simd.Lanes.{zip2}
use Rattle.std.proofs.lemmas.Simd.{Each1-get_or}
use Rattle.polygons.specs.Summing.{nonzero_bit}
use Rattle.polygons.proofs.MaskLanes.{AreLanes, itself, splat, zipped}
use Rattle.polygons.proofs.ByteSums.{sum8, difference8}
use Rattle.polygons.proofs.LoneFlags.{end_of, row_of, row_bit, row_end}
use Rattle.polygons.proofs.lone_flags.sum_lone.Goals as goal

abbrev at : List ℕ → ℕ → ℕ
at v k = get_or v k 0

abbrev all_bits : ℕ → ℕ
all_bits n = 255 * nonzero_bit n

ends : (d u s nd nu : List ℕ) → AreLanes 32 s (λ k. at s k) → AreLanes 32 nd (λ k. all_bits (at d k)) → AreLanes 32 nu (λ k. all_bits (at u k)) → AreLanes 32 (zip2 sum8 (zip2 difference8 s nd) nu) (λ k. end_of (at d k) (at u k) (at s k))
ends d u s nd nu hs hd hu = zipped 32 sum8 _ _ _ _ (zipped 32 difference8 s nd _ _ hs hd) hu

rows : (d u s e before behind : List ℕ) → length d ≡ 32 → length u ≡ 32 → AreLanes 32 e (λ k. end_of (at d k) (at u k) (at s k)) → AreLanes 32 before (λ k. all_bits (at s k)) → AreLanes 32 behind (λ k. all_bits (at e k))
    → AreLanes 32 (zip2 bit_xor before (zip2 bit_and (zip2 bit_xor before behind) (zip2 difference8 (replicate 32 0) (zip2 bit_or d u)))) (λ k. row_of (at d k) (at u k) (at s k))
rows d u s e before behind p q he hb hn =
    let some = zipped 32 bit_or d u _ _ (itself 32 d p) (itself 32 u q) in
    let next : AreLanes 32 behind (λ k. all_bits (end_of (at d k) (at u k) (at s k))) = record { long = hn.long; each = λ k l. hn.each k l ∙ ap all_bits (he.each k l) } in
    zipped 32 bit_xor before _ _ _ hb (zipped 32 bit_and _ _ _ _ (zipped 32 bit_xor before behind _ _ hb next) (zipped 32 difference8 (replicate 32 0) _ _ _ (splat 32 0) some))

pub returns : goal.returns
returns c =
    let d = c.args.downs in
    let u = c.args.ups in
    let sums = c.args.sums in
    let starts = c.bytes_of-starts in
    let down = c.nonzero_lanes.ensures in
    let up = c.nonzero_lanes-2.ensures in
    let before = c.nonzero_lanes-before.ensures in
    let behind = c.nonzero_lanes-behind.ensures in
    let all_ends = ends d u starts.result c.nonzero_lanes.result c.nonzero_lanes-2.result (itself 32 starts.result starts.ensures.whole) (record { long = down.whole; each = down.each }) (record { long = up.whole; each = up.each }) in
    let all_rows = rows d u starts.result _ c.nonzero_lanes-before.result c.nonzero_lanes-behind.result c.requires.downs c.requires.ups all_ends (record { long = before.whole; each = before.each }) (record { long = behind.whole; each = behind.each }) in
    let raised = zipped 32 sum8 _ _ _ _ all_ends (splat 32 16) in
    let fits = λ (row : ℕ) (h : row < 32). (Each1-get_or (Fits w32) sums row 0 (omega (arith, c.requires.sums, h)) c.fits-sums.1).fits in
    let fits_down = λ (row : ℕ) (h : row < 32). (Each1-get_or (Fits w8) d row 0 (omega (arith, c.requires.downs, h)) c.fits-downs.1).fits in
    let fits_up = λ (row : ℕ) (h : row < 32). (Each1-get_or (Fits w8) u row 0 (omega (arith, c.requires.ups, h)) c.fits-ups.1).fits in
    record {
      whole = all_rows.long;
      ends_whole = c.lowered.ensures.whole;
      bits = λ row j h l.
          ap (λ n. bit_at n j) (all_rows.each row h ∙ ap (row_of (at d row) (at u row)) (starts.ensures.each row h))
          ∙ row_bit (at d row) (at u row) (at sums row) (fits_down row h) (fits_up row h) (fits row h) (c.requires.small row h) (c.requires.lone row h) j l;
      next = λ row h.
          c.lowered.ensures.each row h ∙ ap (λ n. (n + 4294967280) % 2 ^ 32) (raised.each row h ∙ ap (λ n. sum8 (end_of (at d row) (at u row) n) 16) (starts.ensures.each row h))
          ∙ row_end (at d row) (at u row) (at sums row) (fits_down row h) (fits_up row h) (fits row h) (c.requires.small row h) (c.requires.lone row h);
    }

ends_long : (s nd nu : List ℕ) → length s ≡ 32 → length nd ≡ 32 → length nu ≡ 32 → length (zip2 sum8 (zip2 difference8 s nd) nu) ≡ 32
ends_long s nd nu p q r = (zipped 32 sum8 _ _ _ _ (zipped 32 difference8 _ _ _ _ (itself 32 s p) (itself 32 nd q)) (itself 32 nu r)).long

pub nonzero_lanes-behind-requires : goal.nonzero_lanes-behind-requires
nonzero_lanes-behind-requires c = ends_long _ _ _ c.bytes_of-starts.ensures.whole c.nonzero_lanes.ensures.whole c.nonzero_lanes-2.ensures.whole

pub lowered-requires : goal.lowered-requires
lowered-requires c =
    let long = ends_long _ _ _ c.bytes_of-starts.ensures.whole c.nonzero_lanes.ensures.whole c.nonzero_lanes-2.ensures.whole in
    (zipped 32 sum8 _ _ _ _ (itself 32 _ long) (splat 32 16)).long
