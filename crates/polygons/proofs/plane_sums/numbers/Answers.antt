use Rattle.std.proofs.Common.{◌≡◌, ◌∙◌, arith, ℕ, ◌+◌, ◌*◌, ◌%◌, ◌<◌, min, List, length, get_or, bit_and}
use Rattle.std.specs.Int.{bit_at}
use Rattle.std.specs.Int.RustNames.{bit_xor}
use Rattle.std.specs.Simd.Lanes.{zip2}
use Rattle.std.proofs.lemmas.Nat.Bits.{bit_at-lt, bit_at_and, bit_at_xor}
use Rattle.polygons.proofs.MaskLanes.{AreLanes, itself, zipped}
use Rattle.polygons.proofs.plane_sums.numbers.Goals as goal

module _ (d u : List ℕ) (p : length d ≡ 32) (q : length u ≡ 32) where
  some : AreLanes 32 (zip2 bit_xor d u) (λ k. bit_xor (get_or d k 0) (get_or u k 0))
  some = zipped 32 bit_xor d u _ _ (itself 32 d p) (itself 32 u q)

  negative : AreLanes 32 (zip2 bit_and (zip2 bit_xor d u) u) (λ k. bit_and (bit_xor (get_or d k 0) (get_or u k 0)) (get_or u k 0))
  negative = zipped 32 bit_and _ u _ _ some (itself 32 u q)

number : (d u s n : ℕ) → d < 2 → u < 2 → s ≡ (d + u) % 2 → n ≡ min s u → s + 2 * n + 4 * n + 8 * n + 16 * n ≡ (d + 31 * u) % 32
number d u s n hd hu a b = omega arith

pub returns-clause-whole : goal.returns-clause-whole
returns-clause-whole c =
    let s = (some c.args.downs c.args.ups c.requires.downs c.requires.ups).long in
    let n = (negative c.args.downs c.args.ups c.requires.downs c.requires.ups).long in
    record { ones = s; twos = n; fours = n; eights = n; sixteens = n }

pub returns-clause-each : goal.returns-clause-each
returns-clause-each c row j h =
    let d = get_or c.args.downs row 0 in
    let u = get_or c.args.ups row 0 in
    let s = (some c.args.downs c.args.ups c.requires.downs c.requires.ups).each row h in
    let n = (negative c.args.downs c.args.ups c.requires.downs c.requires.ups).each row h in
    (λ i. bit_at (s i) j + 2 * bit_at (n i) j + 4 * bit_at (n i) j + 8 * bit_at (n i) j + 16 * bit_at (n i) j)
    ∙ number (bit_at d j) (bit_at u j) _ _ (bit_at-lt d j) (bit_at-lt u j) (bit_at_xor d u j) (bit_at_and (bit_xor d u) u j)
