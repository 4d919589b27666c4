use Rattle.std.proofs.Common.{◌≡◌, refl, ◌∙◌, arith, ℕ, Bool, true, false, not, eqb, cond, get_or, replicate, w8}
use Rattle.polygons.proofs.MaskLanes.{itself, splat}
use Rattle.polygons.proofs.ByteSums.{bit_of_test}
use Rattle.polygons.proofs.byte_sums.mask_of.Goals as goal

turned : (b : Bool) → cond {A = ℕ} (not b) 1 0 ≡ cond b 0 1
turned true = refl
turned false = refl

pub returns : goal.returns
returns c i l =
    bit_of_test w8 (λ x y. not (eqb x y)) 64 c.args.lanes (replicate 64 128) _ _ (omega arith) (itself 64 c.args.lanes c.requires) (splat 64 128) i l
    ∙ turned (eqb (get_or c.args.lanes i 0) 128)
