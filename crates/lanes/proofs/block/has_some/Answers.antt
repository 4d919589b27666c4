use Rattle.std.proofs.Common.{◌≡◌, ℕ, ◌*◌, subst, arith, IsBitSet, nat_eq, not, false}
use Rattle.std.proofs.lemmas.Bool.Decides.{nat_tests}
use Rattle.lanes.proofs.LaneNumbers.{in_group, none_set}
use Rattle.lanes.proofs.block.has_some.Goals as goal

zero : (n : ℕ) → not (nat_eq n 0) ≡ false → n ≡ 0
zero n h = grind (arith, nat_tests)

pub returns : goal.returns
returns c none i l set =
    none_set i (subst (λ n. IsBitSet n i) (zero _ none) ((in_group c.args.mask (16 * c.args.group) i l).1 set))
