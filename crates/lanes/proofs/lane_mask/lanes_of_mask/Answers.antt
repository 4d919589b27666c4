use Rattle.std.proofs.Common.{◌≢◌, ◌*◌, ◌+◌, ◌/◌, ◌%◌, ◌^◌, ℕ, List, not, eqb, map, replicate, refl, sym, subst, bit_and, w16, IsBitSet, arith}
use Rattle.std.specs.List.{range_with_len}
use Rattle.std.specs.Simd.Lanes.{sel_l, zip2}
use Rattle.std.proofs.lemmas.List.FromFn.{get_or-map-range_with_len}
use Rattle.std.proofs.lemmas.Simd.{tops_compared}
use Rattle.gradients.specs.Lanes.{HasLanes}
use Rattle.gradients.proofs.Lanes.{zipped, splat}
use Rattle.lanes.specs.Lanes.{IsMask}
use Rattle.lanes.proofs.Lanes.{reported, not_equal, rephrased}
use Rattle.lanes.proofs.LaneNumbers.{in_group}
use Rattle.lanes.proofs.lane_mask.lanes_of_mask.Goals as goal

ones_are : HasLanes (map (λ (k : ℕ). 2 ^ k) (range_with_len 0 16)) (λ k. 2 ^ k)
ones_are = record { long = refl; each = λ k l. get_or-map-range_with_len (λ (n : ℕ). 2 ^ n) 0 16 k k 0 l (omega arith) }

abbrev tested : ℕ → List ℕ
tested n = zip2 bit_and (replicate 16 n) (map (λ (k : ℕ). 2 ^ k) (range_with_len 0 16))

pub returns : goal.returns
returns c =
    let n = c.args.bits / 2 ^ (16 * c.args.group) % 65536 in
    let mask = reported (λ x y. not (eqb x y)) (λ x y. x ≢ y) not_equal (tested n) (replicate 16 0) (λ k. bit_and n (2 ^ k)) (λ k. 0) (zipped bit_and (replicate 16 n) _ _ _ (splat n) ones_are) (splat 0) in
    rephrased _ (λ k. IsBitSet n k) (λ k. IsBitSet c.args.bits (16 * c.args.group + k)) (λ k l. in_group c.args.bits (16 * c.args.group) k l)
    (subst (λ ms. IsMask (sel_l ms (replicate 16 65535) (replicate 16 0)) (λ k. bit_and n (2 ^ k) ≢ 0)) (sym (tops_compared w16 (λ x y. not (eqb x y)) (tested n) (replicate 16 0))) mask)
