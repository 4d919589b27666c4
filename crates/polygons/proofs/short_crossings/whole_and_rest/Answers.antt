use Rattle.std.proofs.Common.{◌≡◌, arith, ◌^◌, ◌<◌, ℤ, pos, negsuc, ◌+ℤ◌, ◌-ℤ◌, ◌*ℤ◌, ◌≤ℤ◌, ◌<ℤ◌, nat_abs, w16, w32, to_z, of_z, Fits, FitsSigned}
use Rattle.std.proofs.lemmas.Int.{ints}
use Rattle.grid.specs.Bounds.{IsWithin}
use Rattle.grid.specs.Position.{IsInBand}
use Rattle.polygons.specs.Pixels.{IsFirstPixel}
use Rattle.polygons.specs.Screen.{IsPixelInBand}
use Rattle.polygons.proofs.ShortEdges.{not_negative}
use Rattle.polygons.proofs.short_crossings.whole_and_rest.Goals as goal

abbrev kept : ℤ → ℤ
kept z = to_z w32 (of_z w32 z)

-- what the code forms before the last subtraction, and after it
abbrev before : ℤ → ℤ → ℤ
before pixel to = kept (kept (kept to +ℤ pos 255) -ℤ kept (pos 256 *ℤ kept pixel))

record IsRest (pixel to n z : ℤ) : Type 0 where
  column : kept n ≡ n
  size : IsWithin (2 ^ 17) n
  is : z ≡ (to +ℤ pos 255) -ℤ pos 256 *ℤ pixel -ℤ pos 256 *ℤ n
  low : pos 0 ≤ℤ z
  high : z <ℤ pos 256

rest : (pixel to n : ℤ) → IsPixelInBand pixel → IsInBand to → IsFirstPixel (kept (pos 256 *ℤ kept pixel)) (kept to) n → IsRest pixel to n (before pixel to -ℤ kept (pos 256 *ℤ kept n))
rest pixel to n h k first =
    let r = first.reached in
    let f = first.first in
    let a = h.low in
    let b = h.high in
    let p : kept (pos 256 *ℤ kept pixel) ≡ pos 256 *ℤ pixel = omega (arith, ints) in
    let t : kept to ≡ to = omega (arith, ints) in
    let low : (negsuc 131071) ≤ℤ n = omega (arith, ints) in
    let high : n ≤ℤ pos 131071 = omega (arith, ints) in
    record {
      column = omega (arith, ints);
      size = record { low = omega (arith, ints); high = omega (arith, ints) };
      is = omega (arith, ints);
      low = omega (arith, ints);
      high = omega (arith, ints);
    }

small32 : (z : ℤ) → pos 0 ≤ℤ z → z <ℤ pos 256 → FitsSigned w32 z
small32 z h k = omega (arith, ints)

same32 : (z : ℤ) → pos 0 ≤ℤ z → z <ℤ pos 256 → kept z ≡ z
same32 z h k = omega (arith, ints)

pub overflow_sub-rest-2 : goal.overflow_sub-rest-2
overflow_sub-rest-2 c =
    let r = rest c.args.pixel c.args.to _ c.requires.pixel c.requires.to c.first_pixel-column.ensures in
    small32 _ r.low r.high

pub overflow_cast-result : goal.overflow_cast-result
overflow_cast-result c =
    let r = rest c.args.pixel c.args.to _ c.requires.pixel c.requires.to c.first_pixel-column.ensures in
    cast _ r.low r.high
  where
    cast : (z : ℤ) → pos 0 ≤ℤ z → z <ℤ pos 256 → lib.Dec.T (lib.Signed.non_neg (kept z)) × Fits w16 (nat_abs (kept z))
    cast (pos n) h k = (omega (arith, ints), record { fits = omega (arith, ints) })
    cast (negsuc n) h k = absurd (omega (arith, ints))

pub returns-clause-sum : goal.returns-clause-sum
returns-clause-sum c =
    let r = rest c.args.pixel c.args.to _ c.requires.pixel c.requires.to c.first_pixel-column.ensures in
    total c.args.pixel c.args.to _ _ r
  where
    total : (pixel to n z : ℤ) → IsRest pixel to n z → pos 256 *ℤ kept n +ℤ pos (nat_abs (kept z)) ≡ (to +ℤ pos 255) -ℤ pos 256 *ℤ pixel
    total pixel to n z r =
        let same = same32 z r.low r.high in
        let is = r.is in
        let absolute = not_negative z r.low in
        rw (same, absolute, r.column) (omega (arith, ints))

pub returns-clause-small : goal.returns-clause-small
returns-clause-small c =
    let r = rest c.args.pixel c.args.to _ c.requires.pixel c.requires.to c.first_pixel-column.ensures in
    few _ r.low r.high
  where
    few : (z : ℤ) → pos 0 ≤ℤ z → z <ℤ pos 256 → nat_abs (kept z) < 256
    few (pos n) h k = omega (arith, ints)
    few (negsuc n) h k = absurd (omega (arith, ints))
