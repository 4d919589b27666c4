use Rattle.std.proofs.Common.{◌≡◌, arith, ◌^◌, ℤ, pos, negsuc, ◌+ℤ◌, ◌-ℤ◌, w32, to_z, of_z}
use Rattle.std.proofs.lemmas.Int.{ints}
use Rattle.grid.specs.Bounds.{IsWithin}
use Rattle.polygons.specs.Pixels.{IsFirstPixel}
use Rattle.std.specs.Int.Signed.{shr_z}
use Rattle.polygons.proofs.pixels.first_pixel.Goals as goal

shifted : (start to z : ℤ) → z ≡ (to +ℤ pos 255) -ℤ start → IsWithin (2 ^ 25) z → IsFirstPixel start to (to_z w32 (of_z w32 (shr_z z 256)))
shifted start to (pos n) e h = record { reached = omega (arith, ints); first = omega (arith, ints) }
shifted start to (negsuc n) e h = record { reached = omega (arith, ints); first = omega (arith, ints) }

pub returns : goal.returns
returns c =
    let s = c.requires.start in let t = c.requires.to in
    shifted c.args.start c.args.to _ (omega (arith, ints)) (record { low = omega (arith, ints); high = omega (arith, ints) })
