use Rattle.std.proofs.Common.{◌≡◌, ℕ, nat_eq, IsTrue, w16, arith}
use Rattle.std.proofs.lemmas.Bool.Decides.{nat_tests}
use Rattle.blocks.proofs.MaskLanes.{none_other_of, all_same_of}
use Rattle.blocks.proofs.flat_block.are_depths_same.Goals as goal

is_zero : (n : ℕ) → IsTrue (nat_eq n 0) → n ≡ 0
is_zero n h = grind (arith, nat_tests)

zero_is : (n : ℕ) → n ≡ 0 → IsTrue (nat_eq n 0)
zero_is n e = grind (arith, nat_tests)

pub returns : goal.returns
returns c = (λ none p l. none_other_of w16 c.args.depths.now (omega (arith, c.told-depths)) (is_zero _ none) p l, λ all. zero_is _ (all_same_of w16 c.args.depths.now (omega (arith, c.told-depths)) all))
