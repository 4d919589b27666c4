use Rattle.std.proofs.Common.{◌≡◌, ap, ◌∙◌, arith, ℕ, ◌*◌, ◌%◌, ◌^◌, ◌<◌, List, length, get_or, slice_index, replicate, bit_and, Fits, w64}
use Rattle.std.specs.Simd.Lanes.{zip2}
use Rattle.std.proofs.Math.Nat.{zero-mul}
use Rattle.std.proofs.lemmas.Nat.{and_mask, pow_below}
use Rattle.std.proofs.lemmas.Simd.{Each2-of, Each1-from_get_or}
use Rattle.polygons.specs.Cells.{bit_in_block}
use Rattle.polygons.proofs.MaskLanes.{AreLanes, itself, splat, zipped}
use Rattle.polygons.proofs.SignedLanes.{sum64}
use Rattle.polygons.proofs.part_rows.pixel_bits.Goals as goal

-- by how many bits each lane is moved
places : (row : ℕ) (columns : List ℕ) → length columns ≡ 4 → AreLanes 4 (zip2 sum64 (replicate 4 (8 * (row % 8))) (zip2 bit_and columns (replicate 4 7))) (λ s. bit_in_block row (get_or columns s 0))
places row columns long =
    let sums = zipped 4 sum64 _ _ _ _ (splat 4 (8 * (row % 8))) (zipped 4 bit_and columns _ _ _ (itself 4 columns long) (splat 4 7)) in
    record { long = sums.long; each = λ s l. sums.each s l ∙ ap (sum64 (8 * (row % 8))) (and_mask (get_or columns s 0) 3) ∙ omega arith }

pub overflow_shl-result : goal.overflow_shl-result
overflow_shl-result c =
    let moves = places c.args.row c.args.columns c.requires.columns in
    Each2-of (Fits w64) (λ n. n < 64) _ (λ a b f l. l) c.args.crossed _ c.fits-crossed.1 (Each1-from_get_or (λ n. n < 64) _ 0 (λ s h. let long = moves.long in let l : s < 4 = omega (arith, long, h) in rw (moves.each s l) (omega arith)))

abbrev shifted : ℕ → ℕ → ℕ
shifted x k = x * 2 ^ k % 2 ^ 64

one_bit : (k : ℕ) → k < 64 → shifted 1 k ≡ 2 ^ k
one_bit k l = let small = pow_below k 64 l in omega (arith, small)

no_bit : (k : ℕ) → shifted 0 k ≡ 0
no_bit k = ap (λ n. n % 2 ^ 64) (zero-mul (2 ^ k))

bits : (row : ℕ) (columns crossed : List ℕ) → length columns ≡ 4 → length crossed ≡ 4 → AreLanes 4 (zip2 shifted crossed (zip2 sum64 (replicate 4 (8 * (row % 8))) (zip2 bit_and columns (replicate 4 7)))) (λ s. shifted (get_or crossed s 0) (bit_in_block row (get_or columns s 0)))
bits row columns crossed p q = zipped 4 shifted crossed _ _ _ (itself 4 crossed q) (places row columns p)

pub returns-clause-whole : goal.returns-clause-whole
returns-clause-whole c = (bits c.args.row c.args.columns c.args.crossed c.requires.columns c.requires.crossed).long

pub returns-clause-crossed : goal.returns-clause-crossed
returns-clause-crossed c s l one = (bits c.args.row c.args.columns c.args.crossed c.requires.columns c.requires.crossed).each s l ∙ ap (λ n. shifted n (bit_in_block c.args.row (slice_index c.args.columns s))) one ∙ one_bit (bit_in_block c.args.row (slice_index c.args.columns s)) (omega arith)

pub returns-clause-apart : goal.returns-clause-apart
returns-clause-apart c s l none = (bits c.args.row c.args.columns c.args.crossed c.requires.columns c.requires.crossed).each s l ∙ ap (λ n. shifted n (bit_in_block c.args.row (slice_index c.args.columns s))) none ∙ no_bit (bit_in_block c.args.row (slice_index c.args.columns s))
