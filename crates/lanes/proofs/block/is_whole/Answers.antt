use Rattle.std.proofs.Common.{◌≡◌, subst, sym, arith, IsBitSet}
use Rattle.std.proofs.lemmas.Bool.Decides.{nat_tests}
use Rattle.std.proofs.lemmas.Nat.Bits.{bit_at_ones}
use Rattle.lanes.proofs.LaneNumbers.{is_set}
use Rattle.lanes.proofs.block.is_whole.Goals as goal

pub returns : goal.returns
returns c whole k l =
    let all : c.args.mask ≡ 18446744073709551615 = grind (arith, nat_tests) in
    subst (λ n. IsBitSet n k) (sym all) (is_set 18446744073709551615 k (bit_at_ones 64 k l))
