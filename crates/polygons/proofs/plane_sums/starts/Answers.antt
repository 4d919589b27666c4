use Rattle.std.proofs.Common.{◌≡◌, ap, ◌∙◌, arith, ℕ, ◌+◌, ◌*◌, ◌%◌, ◌<◌}
use Rattle.std.specs.Int.{bit_at}
use Rattle.std.proofs.lemmas.Nat.Bits.{bit_at-lt, bit_at_above}
use Rattle.polygons.proofs.plane_sums.starts.Goals as goal

-- ---- the planes
first : (b : ℕ) → b < 2 → bit_at b 0 ≡ b
first b small = omega arith

five_bits : (n : ℕ) → bit_at (bit_at n 0) 0 + 2 * bit_at (bit_at n 1) 0 + 4 * bit_at (bit_at n 2) 0 + 8 * bit_at (bit_at n 3) 0 + 16 * bit_at (bit_at n 4) 0 ≡ n % 32
five_bits n =
    (λ i. first (bit_at n 0) (bit_at-lt n 0) i + 2 * first (bit_at n 1) (bit_at-lt n 1) i + 4 * first (bit_at n 2) (bit_at-lt n 2) i + 8 * first (bit_at n 3) (bit_at-lt n 3) i + 16 * first (bit_at n 4) (bit_at-lt n 4) i)
    ∙ omega arith

pub returns-clause-first : goal.returns-clause-first
returns-clause-first c row h =
    let sums = c.args.sums in
    let start = c.bytes_of-bytes.ensures.each row h in
    (λ i. bit_at (c.bit.ensures.each row h i) 0 + 2 * bit_at (c.bit-2.ensures.each row h i) 0 + 4 * bit_at (c.bit-3.ensures.each row h i) 0 + 8 * bit_at (c.bit-4.ensures.each row h i) 0 + 16 * bit_at (c.bit-5.ensures.each row h i) 0)
    ∙ five_bits _ ∙ ap (λ n. n % 32) start ∙ omega arith

later : (lane n b j : ℕ) → lane ≡ bit_at n b → 0 < j → bit_at lane j ≡ 0
later lane n b j e some = ap (λ k. bit_at k j) e ∙ bit_at_above (bit_at n b) 1 j (bit_at-lt n b) (omega arith)

pub returns-clause-others : goal.returns-clause-others
returns-clause-others c row j h some =
    let a = later _ _ 0 j (c.bit.ensures.each row h) some in
    let b = later _ _ 1 j (c.bit-2.ensures.each row h) some in
    let d = later _ _ 2 j (c.bit-3.ensures.each row h) some in
    let e = later _ _ 3 j (c.bit-4.ensures.each row h) some in
    let f = later _ _ 4 j (c.bit-5.ensures.each row h) some in
    λ i. a i + 2 * b i + 4 * d i + 8 * e i + 16 * f i
