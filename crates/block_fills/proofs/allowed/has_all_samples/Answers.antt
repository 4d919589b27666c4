use Rattle.std.proofs.Common.{◌≡◌, sym, subst, arith, ℕ, ◌+◌, ◌-◌, ◌^◌, ◌<◌, IsBitSet, bit_and}
use Rattle.std.proofs.lemmas.Bool.Decides.{nat_tests}
use Rattle.grid.specs.Samples.{count_of}
use Rattle.raster.proofs.Bits.{is_one, both_set, ones_between}
use Rattle.block_fills.proofs.allowed.has_all_samples.Goals as goal

-- the mask of all samples has the bit of each
has_each : (full count s : ℕ) → full + 1 ≡ 2 ^ count → s < count → IsBitSet full s
has_each full count s is h =
    let same : 2 ^ count - 2 ^ 0 ≡ full = omega (arith, is) in
    subst (λ n. IsBitSet n s) same ((ones_between 0 count s).1 (omega arith, h))

pub returns : goal.returns
returns c all s h =
    let same : bit_and c.args.mask c.full_mask-full.result ≡ c.full_mask-full.result = grind (arith, nat_tests) in
    let set = has_each c.full_mask-full.result (count_of c.args.count) s c.full_mask-full.ensures h in
    is_one c.args.mask s ((both_set c.args.mask c.full_mask-full.result s).0 (subst (λ n. IsBitSet n s) (sym same) set)).0
