use Rattle.std.proofs.Common.{◌≡◌, ◌∙◌, arith, ◌+◌, ◌*◌, pos, ◌+ℤ◌, ◌*ℤ◌, to_z, of_z, w32}
use Rattle.std.proofs.lemmas.Int.{ints, to_z-of_z}
use Rattle.std.specs.Int.{int_min, int_max}
use Rattle.raster.proofs.Patch.{four_from}
use Rattle.raster.proofs.region.first_of_four.Goals as goal

pub returns-then-min-first : goal.returns-then-min-first
returns-then-min-first c =
    let block = c.args.block in
    let first = c.clamp-first.result in
    let start : to_z w32 (of_z w32 (pos 8 *ℤ to_z w32 block)) ≡ pos (8 * block) = omega (arith, ints, c.requires) in
    let end : to_z w32 (of_z w32 (to_z w32 (of_z w32 (pos 8 *ℤ to_z w32 block)) +ℤ pos 4)) ≡ pos (8 * block + 4) = omega (arith, ints, c.requires, start) in
    let low : to_z w32 (of_z w32 c.args.low) ≡ c.args.low = to_z-of_z w32 c.args.low (omega (arith, ints, c.ranges.low)) in
    let high : to_z w32 (of_z w32 c.args.high) ≡ c.args.high = to_z-of_z w32 c.args.high (omega (arith, ints, c.ranges.high)) in
    let stop : to_z w32 (of_z w32 (to_z w32 (of_z w32 (pos 8 *ℤ to_z w32 block)) +ℤ pos 8)) ≡ pos (8 * block + 8) = omega (arith, ints, c.requires, start) in
    let least : c.min.result ≡ int_min c.args.high (pos (8 * block + 8)) = c.min.ensures.value ∙ (λ i. int_min (high i) (stop i)) in
    let value : first ≡ int_max (pos (8 * block)) (int_min c.args.low (pos (8 * block + 4))) = c.clamp-first.ensures.value ∙ (λ i. int_max (start i) (int_min (low i) (end i))) in
    four_from c.args.low c.args.high block _ first value (omega (arith, ints)) (omega (arith, ints))
